-- From single cycles to all of them.
use Rattle.std.proofs.Common.{◌≡◌, ◌≢◌, ℕ, zero, suc, ◌<◌, Bool, true, false, None, Some, List, [], ◌∷◌, length, take, get_or, inl, inr, ◌+◌, refl, sym, ◌∙◌, ap, subst, arith}
use Rattle.std.specs.Prelude.{slice_get}
use Rattle.std.specs.List.{AllZip, Contains}
use Rattle.std.proofs.lemmas.Bool.{false≢true, cases_lt}
use Rattle.std.proofs.lemmas.Option.{slice_get_within, slice_get-get_or}
use Rattle.std.proofs.lemmas.Slice.Zip.{AllZip-long}
use Rattle.fs_kinds.specs.declared.placement.Entry.{Entry}
use Rattle.fs_kinds.specs.declared.reason.Reason.TheVariants as reason
use Rattle.fs_model.specs.declared.test.Test.{Test}
use Rattle.fs_model.specs.Test.{IsBounded}
use Rattle.fs_cert_evidence.specs.Candidates.{Candidate, IsRaw, runs_of}
use Rattle.fs_cert_evidence.specs.Certificate.{Link}
use Rattle.fs_cert_evidence.specs.Listings.{IsListing}
use Rattle.fs_cert_evidence.specs.Cycles.{IsCycle}
use Rattle.fs_cert_json.specs.declared.certificate.CertificateLink.{CertificateLink}
use Rattle.fs_check_certificate.specs.Cycles.{is_cycle, is_cycle_at, IsListVerdict}
use Rattle.fs_cert_json.specs.Kept.{KeepsCycle}
use Rattle.fs_check_certificate.proofs.Linked.{sound, complete}

-- ---- lists, place by place

same_Some : {X : Type 0} (x y : X) → Some x ≡ Some y → x ≡ y
same_Some x y e = cc

contains_at : {X : Type 0} (xs : List X) (k : ℕ) (x : X) → slice_get xs k ≡ Some x → Contains xs x
contains_at {X = X} [] k x e = absurd (let low = slice_get_within {A = X} [] k x e in omega (arith, low))
contains_at (y ∷ ys) zero x e = (0, omega arith, same_Some y x e)
contains_at (y ∷ ys) (suc k) x e = let later = contains_at ys k x e in (suc later.0, let low = later.1 in omega (arith, low), later.2)

pub item_at : {X : Type 0} (xs : List X) (k : ℕ) → k < length xs → (x : X) × (slice_get xs k ≡ Some x)
item_at [] k low = absurd (omega (arith, low))
item_at (x ∷ xs) zero low = (x, refl)
item_at (x ∷ xs) (suc k) low = item_at xs k (omega (arith, low))

-- what two lists have beside each other
beside : {X Y : Type 0} (R : X → Y → Type 0) (xs : List X) (ys : List Y) (k : ℕ) (y : Y) → AllZip R xs ys → slice_get ys k ≡ Some y
    → (x : X) × (slice_get xs k ≡ Some x) × R x y
beside R [] [] k y all e = absurd (let none : None ≡ Some y = e in cc)
beside R [] (z ∷ zs) k y all e = absurd all
beside R (x ∷ xs) [] k y all e = absurd all
beside R (x ∷ xs) (z ∷ zs) zero y all e = (x, refl, (let same = same_Some z y e in rw (sym same) all.0))
beside R (x ∷ xs) (z ∷ zs) (suc k) y all e = beside R xs zs k y all.1 e

-- what holds of each two up to a place
zipped : {X Y : Type 0} (R : X → Y → Type 0) (xs : List X) (ys : List Y) (n : ℕ) → length ys ≡ length xs
    → ((k : ℕ) → k < n → (x : X) (y : Y) → slice_get xs k ≡ Some x → slice_get ys k ≡ Some y → R x y) → AllZip R (take n xs) (take n ys)
zipped R [] [] zero long each = tt
zipped R [] [] (suc n) long each = tt
zipped R [] (y ∷ ys) n long each = absurd (omega (arith, long))
zipped R (x ∷ xs) [] n long each = absurd (omega (arith, long))
zipped R (x ∷ xs) (y ∷ ys) zero long each = tt
zipped R (x ∷ xs) (y ∷ ys) (suc n) long each =
    (each 0 (omega arith) x y refl refl, zipped R xs ys n (omega (arith, long)) (λ k low z w there here. each (suc k) (omega (arith, low)) z w there here))

zipped_all : {X Y : Type 0} (R : X → Y → Type 0) (xs : List X) (ys : List Y) → length ys ≡ length xs
    → ((k : ℕ) → k < length xs → (x : X) (y : Y) → slice_get xs k ≡ Some x → slice_get ys k ≡ Some y → R x y) → AllZip R xs ys
zipped_all R [] [] long each = tt
zipped_all R [] (y ∷ ys) long each = absurd (omega (arith, long))
zipped_all R (x ∷ xs) [] long each = absurd (omega (arith, long))
zipped_all R (x ∷ xs) (y ∷ ys) long each =
    (each 0 (omega arith) x y refl refl, zipped_all R xs ys (omega (arith, long)) (λ k low z w there here. each (suc k) (omega (arith, low)) z w there here))

pub get_is : {X : Type 0} (xs : List X) (k : ℕ) (x d : X) → k < length xs → x ≡ get_or xs k d → slice_get xs k ≡ Some x
get_is xs k x d low e = slice_get-get_or xs k d low ∙ ap Some (sym e)

-- what holds at each place so far holds with one more
pub one_more : (test : ℕ → Bool) (n : ℕ) → ((k : ℕ) → k < n → test k ≡ true) → test n ≡ true → (k : ℕ) → k < n + 1 → test k ≡ true
one_more test n each last k low = elim (cases_lt k n) [
  | inl less ↦ each k less
  | inr past ↦ (let same : n ≡ k = omega (arith, low, past) in subst (λ i. test i ≡ true) same last)
]

-- ---- cycles by their numbers

-- the candidate and the cycle of this number
pub at_number : (t : Test) (p : List Entry) (cs : List Candidate) (cycles : List (List CertificateLink)) (k : ℕ) (c : Candidate) (links : List CertificateLink)
    → slice_get cs k ≡ Some c → slice_get cycles k ≡ Some links → is_cycle_at t p cs cycles k ≡ is_cycle (runs_of t c) p c links
at_number t p cs cycles k c links e f = rw (e, f) refl

module _ (t : Test) (p : List Entry) (cs : List Candidate) (cycles : List (List CertificateLink)) (said : List (List Link)) (bounded : IsBounded t) (listing : IsListing t cs)
    (kept : AllZip KeepsCycle cycles said) where
  raw_at : (k : ℕ) (c : Candidate) → slice_get cs k ≡ Some c → IsRaw t c
  raw_at k c there = ((listing.exact c).0 (contains_at cs k c there)).raw

  cycle_at : (k : ℕ) (c : Candidate) (links : List Link) → slice_get cs k ≡ Some c → slice_get said k ≡ Some links → is_cycle_at t p cs cycles k ≡ true → IsCycle t p c links
  cycle_at k c links there here is =
      let of = beside KeepsCycle cycles said k links kept here in
      sound t p c bounded (raw_at k c there) of.0 links of.2 (sym (at_number t p cs cycles k c of.0 there of.1) ∙ is)

  no_cycle_at : (k : ℕ) (c : Candidate) (links : List Link) → slice_get cs k ≡ Some c → slice_get said k ≡ Some links → is_cycle_at t p cs cycles k ≡ false → IsCycle t p c links → ⊥
  no_cycle_at k c links there here fails is =
      let of = beside KeepsCycle cycles said k links kept here in
      false≢true (sym fails ∙ at_number t p cs cycles k c of.0 there of.1 ∙ complete t p c bounded (raw_at k c there) of.0 links of.2 is)

  many : length said ≡ length cycles
  many = AllZip-long KeepsCycle cycles said kept

  pub other_many : length cycles ≢ length cs → IsListVerdict t p cs said (Some reason.Cycles)
  other_many other = λ same. other (omega (arith, same, many))

  pub all_cycles : length cycles ≡ length cs → ((k : ℕ) → k < length cycles → is_cycle_at t p cs cycles k ≡ true)
      → IsListVerdict t p cs said None
  all_cycles long each = zipped_all (IsCycle t p) cs said (omega (arith, long, many))
      (λ k low c links there here. cycle_at k c links there here (each k (omega (arith, low, long))))

  pub first_bad : (index : ℕ) → length cycles ≡ length cs → index < length cycles → ((k : ℕ) → k < index → is_cycle_at t p cs cycles k ≡ true) → is_cycle_at t p cs cycles index ≡ false
      → IsListVerdict t p cs said (Some (reason.Cycle index))
  first_bad index long low each fails =
      let there = item_at cs index (omega (arith, low, long)) in
      let here = item_at said index (omega (arith, low, many)) in (
        omega (arith, long, many),
        record {
          candidate = there.0;
          links = here.0;
          the_candidate = there.1;
          the_links = here.1;
          bad = no_cycle_at index there.0 here.0 there.1 here.1 fails;
          earlier = zipped (IsCycle t p) cs said index (omega (arith, long, many)) (λ k less c links e f. cycle_at k c links e f (each k less));
        },
      )

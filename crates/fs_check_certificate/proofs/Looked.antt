-- Operations that are looked up by their names, and edges from place to place.
use Rattle.std.proofs.Common.{◌≡◌, ℕ, suc, ◌+◌, ◌<◌, not, Option, None, Some, option_map, option_and_then, List, [], ◌∷◌, length, map, drop, get_or, Bool, refl, sym, ◌∙◌, ap, arith}
use Rattle.std.specs.Prelude.{slice_index}
use Rattle.std.specs.List.{position, prefix_len, zip}
use Rattle.std.proofs.lemmas.List.{length-append, length-map, drop_more, get_or-map}
use Rattle.std.proofs.lemmas.Slice.Zip.{get_or-zip, length-zip}
use Rattle.fs_kinds.specs.declared.reason.OperationName.{OperationName as Name}
use Rattle.fs_kinds.specs.declared.placement.Entry.{Entry}
use Rattle.fs_model.specs.Operations.{PreExecution}
use Rattle.fs_cert_evidence.specs.Candidates.{Candidate}
use Rattle.fs_cert_evidence.specs.Judged.{Cause, ReadsFrom, is_edge}
use Rattle.fs_cert_evidence.specs.Cycles.{around}
use Rattle.fs_cert_evidence.specs.Evidence.{cause_of}
use Rattle.fs_cand.specs.inner.NamedOrder.{number_of, numbers_of}
use Rattle.fs_cert_json.specs.declared.certificate.CertificateLink.{CertificateLink}
use Rattle.fs_check_certificate.specs.Cycles.{followers, wanted}

-- ---- names

prefix_map : {X Y : Type 0} (test : Y → Bool) (f : X → Y) (xs : List X) → prefix_len (λ x. not (test (f x))) xs ≡ prefix_len (λ y. not (test y)) (map f xs)
prefix_map test f [] = refl
prefix_map test f (x ∷ xs) = rw (prefix_map test f xs) refl

-- the first place at which a test passes, in a list and in that of the values
pub position_map : {X Y : Type 0} (test : Y → Bool) (f : X → Y) (xs : List X) → position (λ x. test (f x)) xs ≡ position test (map f xs)
position_map test f xs = rw (prefix_map test f xs, length-map xs f) refl

-- the names from one link on
pub wanted_more : (links : List CertificateLink) (i : ℕ) (link : CertificateLink) → i < length links
    → wanted (drop i links) ≡ (get_or links i link).operation ∷ wanted (drop (i + 1) links)
wanted_more links i link low = ap wanted (drop_more links i link low)

-- there are as many numbers as names
pub as_many : (names : List (Option Name)) (looked : List (Option Name)) (ns : List ℕ) → numbers_of names looked ≡ Some ns → length ns ≡ length looked
as_many names [] ns e = (let same : Some [] ≡ Some ns = e in let is : [] ≡ ns = cc in sym (ap length is))
as_many names (name ∷ rest) ns e = by_case (number_of names name) (numbers_of names rest) (as_many names rest) refl e
  where
    by_case : (o : Option ℕ) (u : Option (List ℕ)) → ((ms : List ℕ) → numbers_of names rest ≡ Some ms → length ms ≡ length rest) → numbers_of names rest ≡ u
        → option_and_then (λ a. option_map (λ order. a ∷ order) u) o ≡ Some ns → length ns ≡ length (name ∷ rest)
    by_case None u each k e = absurd (let none : None ≡ Some ns = e in cc)
    by_case (Some a) None each k e = absurd (let none : None ≡ Some ns = e in cc)
    by_case (Some a) (Some later) each k e =
        let same : Some (a ∷ later) ≡ Some ns = e in
        let is : a ∷ later ≡ ns = cc in
        sym (ap length is) ∙ ap suc (each later k)

-- ---- edges

follow_long : (ns : List ℕ) → length (followers ns) ≡ length ns
follow_long [] = refl
follow_long (n ∷ ns) = omega (arith, length-append ns (n ∷ []))

-- each operation and the next one, with the cause between them
abbrev pub steps_along : List ℕ → List CertificateLink → List ((ℕ × ℕ) × Cause)
steps_along ns links = zip (around ns) (map (λ link. cause_of link.cause) links)

abbrev pub first_step : (ℕ × ℕ) × Cause
first_step = ((0, 0), ReadsFrom)

around_long : (ns : List ℕ) → length (around ns) ≡ length ns
around_long ns = omega (arith, length-zip ns (followers ns), follow_long ns)

pub steps_long : (ns : List ℕ) (links : List CertificateLink) → length ns ≡ length links → length (steps_along ns links) ≡ length links
steps_long ns links long =
    omega (arith, length-zip (around ns) (map (λ link. cause_of link.cause) links), length-map links (λ (link : CertificateLink). cause_of link.cause), around_long ns, long)

pub step_at : (ns : List ℕ) (links : List CertificateLink) (k : ℕ) (link : CertificateLink) → length ns ≡ length links → k < length links
    → get_or (steps_along ns links) k first_step ≡ ((slice_index ns k, slice_index (followers ns) k), cause_of (get_or links k link).cause)
step_at ns links k link long low =
    let many = around_long ns in
    let whole = get_or-zip (around ns) (map (λ link. cause_of link.cause) links) k first_step (omega (arith, many, long, low))
    (omega (arith, length-map links (λ (link : CertificateLink). cause_of link.cause), low)) in
    let here = get_or-zip ns (followers ns) k (0, 0) (omega (arith, long, low)) (omega (arith, follow_long ns, long, low)) in
    let cause = get_or-map (λ (link : CertificateLink). cause_of link.cause) links k link ReadsFrom low in
    rw (whole, here, cause) refl

-- what the code finds at a place
pub edge_at : (x : PreExecution) (p : List Entry) (c : Candidate) (ns : List ℕ) (links : List CertificateLink) (k next : ℕ) (link : CertificateLink) (b : Bool)
    → length ns ≡ length links → k < length links → next ≡ slice_index (followers ns) k
    → b ≡ is_edge x p c (slice_index ns k) next (cause_of (get_or links k link).cause)
    → is_edge x p c (get_or (steps_along ns links) k first_step).0.0 (get_or (steps_along ns links) k first_step).0.1 (get_or (steps_along ns links) k first_step).1 ≡ b
edge_at x p c ns links k next link b long low follows is =
    let step : (ℕ × ℕ) × Cause → Bool = λ step. is_edge x p c step.0.0 step.0.1 step.1 in
    ap step (step_at ns links k link long low)
    ∙ ap (λ n. is_edge x p c (slice_index ns k) n (cause_of (get_or links k link).cause)) (sym follows)
    ∙ sym is

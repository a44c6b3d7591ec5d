-- Placements, and lists of entries for offers one by one.
use Rattle.std.proofs.Common.{◌≡◌, ℕ, zero, suc, ◌+◌, ◌≤◌, nat_lt, Bool, true, false, ◌&&◌, Option, None, Some, unwrap_or, List, [], ◌∷◌, ◌++◌, length, drop, refl, sym, ap, ap₂, subst, ◌∙◌, arith}
use Rattle.std.specs.Prelude.{slice_get, slice_index_or, if◌then◌else◌}
use Rattle.std.specs.List.{find, list_all}
use Rattle.std.proofs.lemmas.Bool.{and_parts, and_from, false≢true, true≢false}
use Rattle.std.proofs.lemmas.Bool.Decides.{nat_tests}
use Rattle.std.proofs.lemmas.List.Sums.{sum_by-cons}
use Rattle.fs_kinds.specs.declared.kind.Kind.{Kind}
use Rattle.fs_kinds.specs.declared.placement.Entry.{Entry}
use Rattle.fs_kinds.specs.declared.slot.Slot.{Slot}
use Rattle.fs_kinds.specs.Kind.{table_index}
use Rattle.fs_kinds.specs.Placement.{slots_of, rank}
use Rattle.fs_kinds.specs.Placement as kinds
use Rattle.fs_kinds.specs.Slot.{is_same_slot, is_before, is_rising}
use Rattle.fs_model_laws.proofs.PlacedPairs.{itself}
use Rattle.fs_model_laws.proofs.Ranked.{by_first, nil≢cons}
use Rattle.fs_board_offers.specs.Offers.{Offer, Offers, slots, nothing, offer_at, is_offered, kind_cost, is_kind, rank_in, entry_cost, cost, precedes, is_offered_at, are_offered, IsPlacement}
use Rattle.fs_sites.specs.Plans.{ArePlain}
use Rattle.fs_sites.specs.Sinking.{Fills, Begins, paid}

-- ---- each offer is the one for its slot

-- these are found among the offers by their slots
abbrev pub AreFound : Offers → List Offer → Type 0
AreFound offers os = (k : ℕ) (o : Offer) → slice_get os k ≡ Some o → offer_at offers o.slot ≡ o

apart : (s u : Slot) → is_before s u ≡ true → is_same_slot s u ≡ false
apart s u before = grind (arith, nat_tests)

before-at : (s : Slot) (os : Offers) (k : ℕ) (o : Offer) → list_all (is_before s) (slots os) ≡ true → slice_get os k ≡ Some o
    → is_before s o.slot ≡ true
before-at s [] k o all at = absurd (cc)
before-at s (x ∷ os) zero o all at =
    let same : x ≡ o = cc in
    subst (λ (y : Offer). is_before s y.slot ≡ true) same (and_parts (is_before s x.slot) (list_all (is_before s) (slots os)) all).0
before-at s (x ∷ os) (suc k) o all at =
    before-at s os k o (and_parts (is_before s x.slot) (list_all (is_before s) (slots os)) all).1 at

here-at : (b : Bool) (x : Offer) (found : Option Offer) (s : Slot) → b ≡ true → unwrap_or (if b then Some x else found) (nothing s) ≡ x
here-at true x found s is = refl
here-at false x found s is = absurd (false≢true is)

later-at : (b : Bool) (x : Offer) (found : Option Offer) (s : Slot) → b ≡ false
    → unwrap_or (if b then Some x else found) (nothing s) ≡ unwrap_or found (nothing s)
later-at true x found s is = absurd (true≢false is)
later-at false x found s is = refl

pub are-found : (offers : Offers) → is_rising (slots offers) ≡ true → AreFound offers offers
are-found [] rising k o at = absurd (cc)
are-found (x ∷ os) rising zero o at =
    let same : x ≡ o = cc in
    subst (λ (y : Offer). offer_at (x ∷ os) y.slot ≡ y) same
    (here-at (is_same_slot x.slot x.slot) x (find (λ y. is_same_slot y.slot x.slot) os) x.slot (itself x.slot))
are-found (x ∷ os) rising (suc k) o at =
    let parts = and_parts (list_all (is_before x.slot) (slots os)) (is_rising (slots os)) rising in
    later-at (is_same_slot x.slot o.slot) x (find (λ y. is_same_slot y.slot o.slot) os) o.slot
    (apart x.slot o.slot (before-at x.slot os k o parts.0 at))
    ∙ are-found os parts.1 k o at

pub found-behind : (offers os : Offers) (n : ℕ) → AreFound offers os → AreFound offers (drop n os)
found-behind offers os zero found k o at = found k o at
found-behind offers [] (suc n) found k o at = absurd (cc)
found-behind offers (x ∷ os) (suc n) found k o at = found-behind offers os n (λ j u there. found (suc j) u there) k o at

-- ---- placements

first-slot : (e : Entry) (p : List Entry) (o : Offer) (os : Offers) → slots_of (e ∷ p) ≡ slots (o ∷ os) → e.slot ≡ o.slot
first-slot e p o os same = ap (λ us. slice_index_or us 0 e.slot) same

its-offer : (offers os : Offers) (o : Offer) (s : Slot) → AreFound offers (o ∷ os) → s ≡ o.slot → offer_at offers s ≡ o
its-offer offers os o s found same = ap (offer_at offers) same ∙ found 0 o refl

pub fills-from : (offers os : Offers) (p : List Entry) → AreFound offers os → slots_of p ≡ slots os → are_offered offers p ≡ true → Fills os p
fills-from offers [] [] found same offered = tt
fills-from offers [] (e ∷ p) found same offered = nil≢cons e.slot (slots_of p) (sym same)
fills-from offers (o ∷ os) [] found same offered = nil≢cons o.slot (slots os) same
fills-from offers (o ∷ os) (e ∷ p) found same offered =
    let slot = first-slot e p o os same in
    let parts = and_parts (is_offered_at offers e) (are_offered offers p) offered in (
      slot,
      sym (ap (λ u. is_offered u e.kind) (its-offer offers os o e.slot found slot)) ∙ parts.0,
      fills-from offers os p (λ k u at. found (suc k) u at) (ap (drop 1) same) parts.1,
    )

pub fills : (offers : Offers) (p : List Entry) → is_rising (slots offers) ≡ true → IsPlacement offers p → Fills offers p
fills offers p rising is = fills-from offers offers p (are-found offers rising) is.slots is.offered

pub slots-from : (os : Offers) (p : List Entry) → Fills os p → slots_of p ≡ slots os
slots-from [] [] fill = refl
slots-from [] (e ∷ p) fill = absurd fill
slots-from (o ∷ os) [] fill = absurd fill
slots-from (o ∷ os) (e ∷ p) fill = ap₂ (λ s ss. s ∷ ss) fill.0 (slots-from os p fill.2)

offered-from : (offers os : Offers) (p : List Entry) → AreFound offers os → Fills os p → are_offered offers p ≡ true
offered-from offers os [] found fill = refl
offered-from offers [] (e ∷ p) found fill = absurd fill
offered-from offers (o ∷ os) (e ∷ p) found fill =
    and_from (is_offered_at offers e) (are_offered offers p)
    (ap (λ u. is_offered u e.kind) (its-offer offers os o e.slot found fill.0) ∙ fill.1)
    (offered-from offers os p (λ k u at. found (suc k) u at) fill.2)

pub placement-from : (offers : Offers) (p : List Entry) → is_rising (slots offers) ≡ true → Fills offers p → IsPlacement offers p
placement-from offers p rising fill = record {
  slots = slots-from offers p fill;
  offered = offered-from offers offers p (are-found offers rising) fill;
}

pub cost-paid : (offers os : Offers) (p : List Entry) → AreFound offers os → Fills os p → cost offers p ≡ paid os p
cost-paid offers [] [] found fill = refl
cost-paid offers [] (e ∷ p) found fill = absurd fill
cost-paid offers (o ∷ os) [] found fill = refl
cost-paid offers (o ∷ os) (e ∷ p) found fill =
    sum_by-cons (entry_cost offers) e p
    ∙ ap₂ (λ m n. m + n) (ap (λ u. kind_cost u e.kind) (its-offer offers os o e.slot found fill.0))
    (cost-paid offers os p (λ k u at. found (suc k) u at) fill.2)

pub fills-length : (os : Offers) (p : List Entry) → Fills os p → length p ≡ length os
fills-length [] [] fill = refl
fills-length [] (e ∷ p) fill = absurd fill
fills-length (o ∷ os) [] fill = absurd fill
fills-length (o ∷ os) (e ∷ p) fill = ap suc (fills-length os p fill.2)

pub fills-behind : (n : ℕ) (os : Offers) (p : List Entry) → Fills os p → Fills (drop n os) (drop n p)
fills-behind zero os p fill = fill
fills-behind (suc n) [] [] fill = fill
fills-behind (suc n) [] (e ∷ p) fill = absurd fill
fills-behind (suc n) (o ∷ os) [] fill = absurd fill
fills-behind (suc n) (o ∷ os) (e ∷ p) fill = fills-behind n os p fill.2

-- ---- what is decided at the first sites

pub begins-short : (os : Offers) (p : List Entry) → Begins os p → length p ≤ length os
begins-short os [] begins = omega arith
begins-short [] (e ∷ p) begins = absurd begins
begins-short (o ∷ os) (e ∷ p) begins = let low = begins-short os p begins.2 in omega (arith, low)

pub begins-whole : (os : Offers) (p : List Entry) → Begins os p → length p ≡ length os → Fills os p
begins-whole [] [] begins long = tt
begins-whole [] (e ∷ p) begins long = absurd begins
begins-whole (o ∷ os) [] begins long = absurd (omega (arith, long))
begins-whole (o ∷ os) (e ∷ p) begins long = (begins.0, begins.1, begins-whole os p begins.2 (omega (arith, long)))

pub begins-more : (os : Offers) (p : List Entry) (o : Offer) (e : Entry) → Begins os p → slice_get os (length p) ≡ Some o
    → e.slot ≡ o.slot → is_offered o e.kind ≡ true → Begins os (p ++ (e ∷ []))
begins-more [] p o e begins at slot offered = absurd (cc)
begins-more (u ∷ os) [] o e begins at slot offered =
    let same : o ≡ u = cc in
    subst (λ (v : Offer). (e.slot ≡ v.slot) × (is_offered v e.kind ≡ true) × Begins os []) same (slot, offered, tt)
begins-more (u ∷ os) (f ∷ p) o e begins at slot offered =
    (begins.0, begins.1, begins-more os p o e begins.2 at slot offered)

pub begins-less : (os : Offers) (p : List Entry) (e : Entry) → Begins os (p ++ (e ∷ [])) → Begins os p
begins-less os [] e begins = tt
begins-less [] (f ∷ p) e begins = absurd begins
begins-less (u ∷ os) (f ∷ p) e begins = (begins.0, begins.1, begins-less os p e begins.2)

pub begins-slot : (os : Offers) (p : List Entry) (e : Entry) (o : Offer) → Begins os (p ++ (e ∷ [])) → slice_get os (length p) ≡ Some o
    → e.slot ≡ o.slot
begins-slot [] p e o begins at = absurd (cc)
begins-slot (u ∷ os) [] e o begins at =
    let same : u ≡ o = cc in
    subst (λ (v : Offer). e.slot ≡ v.slot) same begins.0
begins-slot (u ∷ os) (f ∷ p) e o begins at = begins-slot os p e o begins.2 at

-- ---- the order, where no kind is written anywhere

plain-by : (b : Bool) (x : Offer) (found : Option Offer) (s : Slot) → x.written ≡ None → (unwrap_or found (nothing s)).written ≡ None
    → (unwrap_or (if b then Some x else found) (nothing s)).written ≡ None
plain-by true x found s here later = here
plain-by false x found s here later = later

plain-at : (os : Offers) (s : Slot) → ArePlain os → (offer_at os s).written ≡ None
plain-at [] s plain = refl
plain-at (x ∷ os) s plain =
    plain-by (is_same_slot x.slot s) x (find (λ y. is_same_slot y.slot s) os) s (plain 0 x refl) (plain-at os s (λ k o at. plain (suc k) o at))

plain-rank : (o : Offer) (kind : Option Kind) → o.written ≡ None → rank_in o kind ≡ suc (rank kind)
plain-rank o None none = refl
plain-rank o (Some kind) none =
    subst (λ (w : Option Kind). (if (is_kind w kind && nat_lt 0 (kind_cost o (Some kind))) then 0 else 2 + table_index kind) ≡ suc (1 + table_index kind))
    (sym none) (two-more (table_index kind))
  where
    two-more : (n : ℕ) → 2 + n ≡ suc (1 + n)
    two-more n = omega arith

one-more : (m n : ℕ) (b : Bool) → by_first (suc m) (suc n) b ≡ by_first m n b
one-more m n true = grind (arith, nat_tests)
one-more m n false = grind (arith, nat_tests)

pub same-order : (offers : Offers) → ArePlain offers → (p q : List Entry) → precedes offers p q ≡ kinds.precedes p q
same-order offers plain [] q = refl
same-order offers plain (e ∷ p) [] = refl
same-order offers plain (e ∷ p) (f ∷ q) =
    ap₂ (λ m n. by_first m n (precedes offers p q)) (plain-rank (offer_at offers e.slot) e.kind (plain-at offers e.slot plain))
    (plain-rank (offer_at offers f.slot) f.kind (plain-at offers f.slot plain))
    ∙ (one-more (rank e.kind) (rank f.kind) (precedes offers p q)
    ∙ ap (by_first (rank e.kind) (rank f.kind)) (same-order offers plain p q))

-- A placement that leaves the bar of an execution unbroken allows the outcome that it shows.
use Rattle.std.proofs.Common.{◌≡◌, ℕ, zero, suc, ◌+◌, ◌<◌, ◌≤◌, true, false, Option, None, Some, option_and_then, is_some, MatchOption, Result, Ok, Err, IfOk, List, [], ◌∷◌, All, length, slice_get, inl, inr, refl, sym, ap, subst, ◌∙◌, arith}
use Rattle.std.specs.List.{list_all}
use Rattle.std.specs.Prelude.{get_or}
use Rattle.std.proofs.lemmas.Bool.{and_parts, and_from, cases_lt, true≢false}
use Rattle.std.proofs.lemmas.Option.{slice_get-get_or, slice_get_within, get_or_from_slice_get}
use Rattle.fs_kinds.specs.declared.placement.Entry.{Entry}
use Rattle.fs_kinds.specs.declared.slot.Slot.{Slot}
use Rattle.fs_kinds.specs.Kind.{Pair, ReadRead, ReadWrite, WriteRead, WriteWrite, is_subset}
use Rattle.fs_kinds.specs.Placement.{pairs_kept, slots_of}
use Rattle.fs_kinds.specs.Slot.{is_rising}
use Rattle.fs_model.specs.Execution.{Execution}
use Rattle.fs_model.specs.Allows.{Shows, Allows}
use Rattle.fs_model_laws.proofs.PlacedPairs.{subset_from, subset_at}
use Rattle.fs_model_laws.proofs.ExactWidths.{exact}
use Rattle.fs_cert_evidence.specs.Evidence.{Shown, keeps, pairs_at, widths_of}
use Rattle.fs_cert_evidence.specs.Widths.{Width, width}
use Rattle.fs_cert_evidence.specs.declared.evidence.Pairs.{Pairs}
use Rattle.fs_board_offers.specs.Breaks.{fits}
use Rattle.fs_board_offers.specs.Offers.{Offers, slots}
use Rattle.fs_sites.specs.Plans.{is_within}
use Rattle.fs_sites.specs.Questions.{Part, AllowsIn, IsPart, image, kind_of, slots_at}
use Rattle.fs_sites.specs.Answers.{IsShownIn, IsShownUnder}
use Rattle.fs_sites.specs.declared.question.Place.{Place}
use Rattle.fs_sites.specs.inner.Bars.{ForbidBetween, IsBar, IsBarOf, IsShownBySome}

-- ---- lists

pub part_at : (parts : List Part) (k : ℕ) (part : Part) → All IsPart parts → slice_get parts k ≡ Some part → IsPart part
part_at parts k part each at =
    subst IsPart (get_or_from_slice_get parts k part part at) (each k part (slice_get_within parts k part at))

pub slots-image : (p : List Entry) (places : List Place) → slots_of (image places p) ≡ slots_at places
slots-image p [] = refl
slots-image p (x ∷ xs) = ap (λ ss. x.slot ∷ ss) (slots-image p xs)

-- ---- one test

-- at each site the fence orders only pairs of the bar
fits-at : (bar : List Pairs) (r : List Entry) (site : ℕ) (pairs : Pairs) (e : Entry) → is_within bar r ≡ true
    → slice_get bar site ≡ Some pairs → slice_get r site ≡ Some e → fits pairs e.kind ≡ true
fits-at [] r site pairs e within here there = absurd (cc)
fits-at (x ∷ bar) [] site pairs e within here there = absurd (cc)
fits-at (x ∷ bar) (f ∷ r) zero pairs e within here there =
    let one : x ≡ pairs = cc in
    let other : f ≡ e = cc in
    subst (λ (y : Pairs). fits y e.kind ≡ true) one
    (subst (λ (g : Entry). fits x g.kind ≡ true) other (and_parts (fits x f.kind) (is_within bar r) within).0)
fits-at (x ∷ bar) (f ∷ r) (suc site) pairs e within here there =
    fits-at bar r site pairs e (and_parts (fits x f.kind) (is_within bar r) within).1 here there

keeps-at : (w : Width) (s : Slot) (pair : Pair) → keeps (pairs_at w s) pair ≡ w s pair
keeps-at w s ReadRead = refl
keeps-at w s ReadWrite = refl
keeps-at w s WriteRead = refl
keeps-at w s WriteWrite = refl

width-there : (w : Width) (p : List Entry) (places : List Place) (k : ℕ) (place : Place)
    → slice_get places k ≡ Some place → slice_get (widths_of w (slots_of (image places p))) k ≡ Some (pairs_at w place.slot)
width-there w p [] k place at = absurd (cc)
width-there w p (x ∷ xs) zero place at = let same : x ≡ place = cc in ap (λ (y : Place). Some (pairs_at w y.slot)) same
width-there w p (x ∷ xs) (suc k) place at = width-there w p xs k place at

-- an image is within a width where the fence of each place is
fits-all : (w : Width) (r : List Entry) (places : List Place)
    → ((k : ℕ) (place : Place) → slice_get places k ≡ Some place
    → is_subset (pairs_kept (kind_of place.site r)) (w place.slot) ≡ true)
    → list_all (λ entry. is_subset (pairs_kept entry.kind) (w entry.slot)) (image places r) ≡ true
fits-all w r [] each = refl
fits-all w r (x ∷ xs) each = and_from _ _ (each 0 x refl) (fits-all w r xs (λ k place at. each (suc k) place at))

module _ (w : Width) (p r : List Entry) (places : List Place) (widths bar : List Pairs)
    (are : widths ≡ widths_of w (slots_of (image places p))) (kept : IsBar places widths bar)
    (same : length bar ≡ length r) (within : is_within bar r ≡ true) where
  fits-place : (k : ℕ) (place : Place) → slice_get places k ≡ Some place
      → is_subset (pairs_kept (kind_of place.site r)) (w place.slot) ≡ true
  fits-place k place at = by-entry (slice_get r place.site) refl
    where
      by-entry : (o : Option Entry) → slice_get r place.site ≡ o
          → is_subset (pairs_kept (option_and_then (λ e. e.kind) o)) (w place.slot) ≡ true
      by-entry None there = refl
      by-entry (Some e) there =
          let low = slice_get_within r place.site e there in
          let inside : place.site < length bar = omega (arith, low, same) in
          let all : Pairs = record { read_read = true; read_write = true; write_read = true; write_write = true } in
          let pairs = get_or bar place.site all in
          let here = slice_get-get_or bar place.site all inside in
          let fit = fits-at bar r place.site pairs e within here there in
          let wide = ap (λ ws. slice_get ws k) are ∙ width-there w p places k place at in
          let has = kept place.site pairs here k place (pairs_at w place.slot) at wide refl in
          subset_from (pairs_kept e.kind) (w place.slot)
          (λ pair one. sym (keeps-at w place.slot pair) ∙ has pair (subset_at (pairs_kept e.kind) (keeps pairs) fit pair one))

  within-width : list_all (λ entry. is_subset (pairs_kept entry.kind) (w entry.slot)) (image places r) ≡ true
  within-width = fits-all w r places fits-place

-- the execution of an unbroken bar shows its test's outcome
shows : (part : Part) (p r : List Entry) (widths bar : List Pairs) (e : Execution) → IsPart part → Shows part.test [] e
    → widths ≡ widths_of (width part.test e) (slots_of (image part.places p)) → IsBar part.places widths bar
    → length bar ≡ length r → is_within bar r ≡ true → Shows part.test (image part.places r) e
shows part p r widths bar e asked bare are kept same within =
    let rising = ap is_rising (slots-image r part.places) ∙ asked.rising in
    record {
      execution = (exact part.test e bare.execution (image part.places r) rising).0
          (within-width (width part.test e) p r part.places widths bar are kept same within);
      outcome = bare.outcome;
    }

-- ---- all tests

length-slots : (p : List Entry) (offers : Offers) → slots_of p ≡ slots offers → length offers ≡ length p
length-slots [] [] same = refl
length-slots [] (o ∷ offers) same = absurd (cc)
length-slots (e ∷ p) [] same = absurd (cc)
length-slots (e ∷ p) (o ∷ offers) same = ap suc (length-slots p offers (cc))

-- the bar of an execution that shows the outcome without placed fences, by its widths at the places
pub of_execution : (parts : List Part) (offers : Offers) (p : List Entry) (number : ℕ) (part : Part) (e : Execution) (widths bar : List Pairs)
    → All IsPart parts → slice_get parts number ≡ Some part → Shows part.test [] e
    → widths ≡ widths_of (width part.test e) (slots_of (image part.places p)) → IsBar part.places widths bar
    → length bar ≡ length offers → IsBarOf parts offers bar
of_execution parts offers p number part e widths bar each at bare are kept same r placement within = (
  number,
  part,
  at,
  (e, shows part p r widths bar e (part_at parts number part each at) bare are kept (same ∙ length-slots r offers placement.slots) within),
)

unbroken : (parts : List Part) (offers : Offers) (p : List Entry) (number : ℕ) (part : Part) (witness : Shown) (bar : List Pairs)
    → All IsPart parts → slice_get parts number ≡ Some part → IsShownUnder part.test (image part.places p) witness
    → IsBar part.places witness.widths bar → length bar ≡ length offers → IsBarOf parts offers bar
unbroken parts offers p number part witness bar each at shown kept same =
    of_execution parts offers p number part shown.0 witness.widths bar each at shown.1.shows.1 shown.1.widths kept same

-- the same of what `bar_of` gives
pub bar-given : {E : Type 0} (parts : List Part) (offers : Offers) (number n : ℕ) (witness : Shown) (other : Part) (places : List Place) (widths : List Pairs)
    → All IsPart parts → IsShownBySome parts number witness → other ≡ get_or parts number other → places ≡ other.places
    → widths ≡ witness.widths → n ≡ length offers
    → (r : Result (List Pairs) E) → IfOk r (IsBar places widths) → IfOk r (λ bar. length bar ≡ n) → IfOk r (IsBarOf parts offers)
bar-given parts offers number n witness other places widths each shown read at are sites (Err e) is same = tt
bar-given parts offers number n witness other places widths each shown read at are sites (Ok bar) is same =
    let part = shown.1.0 in
    let here = at ∙ ap (λ (x : Part). x.places) (read ∙ get_or_from_slice_get parts number part other shown.1.1) in
    unbroken parts offers shown.0 number part witness bar each shown.1.1 shown.1.2
    (subst (λ ws. IsBar part.places ws bar) are (subst (λ ps. IsBar ps widths bar) here is)) (same ∙ sites)

-- ---- which tests allow their outcomes

module _ (parts : List Part) (p : List Entry) where
  pub forbid-more : (from k : ℕ) (part : Part) → slice_get parts k ≡ Some part → (Allows part.test (image part.places p) → ⊥)
      → ForbidBetween parts from k p → ForbidBetween parts from (k + 1) p
  forbid-more from k part at forbids before number other low high there allows = elim (cases_lt number k) [
    | inl less ↦ before number other low less there allows
    | inr most ↦ (
        let same : number ≡ k = omega (arith, high, most) in
        let one : part ≡ other = let here = subst (λ n. slice_get parts n ≡ Some other) same there in cc in
        forbids (subst (λ (x : Part). Allows x.test (image x.places p)) (sym one) allows)
        )
  ]

  pub forbid-all : (first : ℕ) → ForbidBetween parts first (length parts) p → ForbidBetween parts 0 first p → AllowsIn parts p → ⊥
  forbid-all first later sooner allows =
      let number = allows.0 in
      let part = allows.1 in
      let at = allows.2 in
      elim (cases_lt number first) [
        | inl less ↦ sooner number part (omega arith) less at allows.3
        | inr most ↦ later number part most (slice_get_within parts number part at) at allows.3
      ]

-- what holds where nothing was found holds where nothing is there
pub none-found : {A : Type 0} (P : Type 0) (Q : A → Type 0) (found : Option A) → MatchOption found P Q → is_some found ≡ false → P
none-found P Q None h none = h
none-found P Q (Some x) h none = absurd (true≢false none)

pub none-follows : {A E : Type 0} (P R : Type 0) (Q : A → Type 0) (r : Result (Option A) E) → (P → R)
    → IfOk r (λ found. MatchOption found P Q) → IfOk r (λ found. MatchOption found R Q)
none-follows P R Q (Err e) f h = tt
none-follows P R Q (Ok None) f h = f h
none-follows P R Q (Ok (Some x)) f h = h

-- the number of what is shown is one of a test
pub shown-low : (parts : List Part) (p : List Entry) (number : ℕ) (witness : Shown) → IsShownIn parts p number witness → number ≤ length parts
shown-low parts p number witness shown = let low = slice_get_within parts number shown.0 shown.1 in omega (arith, low)

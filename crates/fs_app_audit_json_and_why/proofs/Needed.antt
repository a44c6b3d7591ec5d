-- Without one of the fences that are advised in place, the others as advised, the outcome is allowed.
use Rattle.std.proofs.Common.{◌≡◌, ℕ, zero, suc, ◌+◌, ◌<◌, ◌&&◌, not, List, [], ◌∷◌, length, get_or, map, Bool, true, false, Option, None, Some, is_some, refl, ap, sym, ◌∙◌, subst, arith, inl, inr, if◌then◌else◌}
use Rattle.std.specs.Prelude.{option_and_then, option_map, slice_get}
use Rattle.std.specs.List.{enumerate_from, list_all, slice_index_or}
use Rattle.std.proofs.lemmas.Bool.{and_from, and_parts, cases_Bool, eq-eqb, false≢true}
use Rattle.fs_instr.specs.declared.instr.Instr.{Instr}
use Rattle.fs_kinds.specs.declared.kind.Kind.{Kind}
use Rattle.fs_kinds.specs.declared.kind.Kind.TheVariants.{RR, RW, RRw, WR, WW, WRw, RwR, RwW, RwRw, Tso}
use Rattle.fs_kinds.specs.declared.placement.Entry.{Entry}
use Rattle.fs_kinds.specs.declared.slot.Slot.{Slot}
use Rattle.fs_kinds.specs.Kind.{Pair, pairs_of}
use Rattle.fs_kinds.specs.Placement.{entry_with, kind_at, pairs_kept, slots_of, with_kind}
use Rattle.fs_kinds.specs.PriceTable.{PriceTable}
use Rattle.fs_kinds.specs.Slot.{is_before, is_rising, is_same_slot}
use Rattle.fs_model.specs.declared.test.Test.{Test}
use Rattle.fs_model.specs.Allows.{Allows, no_fences}
use Rattle.fs_model_laws.specs.Strength.{KeepsNoMore}
use Rattle.fs_model_laws.proofs.FencedOperations.{index_numbered}
use Rattle.fs_model_laws.proofs.FencedSame.{shows_same}
use Rattle.fs_model_laws.proofs.PlacedPairs.{kind_at_other, kind_at_same, same_slot, subset_at}
use Rattle.fs_model_laws.proofs.Weakening.{allows-no-less}
use Rattle.fs_model_laws.specs.InPlace.{as_written, emptied, fence_for, followed_code, followed_instr, is_fence, kind_there, memory_kind, written_at}
use Rattle.fs_model_laws.proofs.EmptiedExecutions.{same_allowed_in_place}
use Rattle.fs_model_laws.proofs.FollowedLines.{is_followed}
use Rattle.fs_model_laws.proofs.WrittenPlaces.{written_is}
use Rattle.fs_app_audit.specs.InPlace.{offers_in_place}
use Rattle.fs_app_audit.proofs.Needed.{each-needed}
use Rattle.fs_app_audit.proofs.Weaker.{keeps_no_more}
use Rattle.fs_app_why.specs.declared.telling.Telling.{Telling}
use Rattle.fs_app_why.specs.Why.{asked, is_passed}
use Rattle.fs_app_audit_json_and_why.specs.Advised.{as_advised, is_changed, stays}
use Rattle.fs_app_audit_json_and_why.specs.Why.{AreAdvised}

-- ---- a placement without one of its fences keeps no more

same_place : (place : Slot) (e : Entry) (b : Bool) → (if b then record { slot = e.slot; kind = None } else e).slot ≡ e.slot
same_place place e true = refl
same_place place e false = refl

own_pairs : (e : Entry) (b : Bool) (pair : Pair) → pairs_kept (if b then record { slot = e.slot; kind = None } else e).kind pair ≡ true
    → pairs_kept e.kind pair ≡ true
own_pairs e true pair kept = absurd (false≢true kept)
own_pairs e false pair kept = kept

kept_without : (place s : Slot) (p : List Entry) (pair : Pair) → pairs_kept (kind_at s (with_kind place None p)) pair ≡ true
    → pairs_kept (kind_at s p) pair ≡ true
kept_without place s [] pair kept = kept
kept_without place s (e ∷ p) pair kept =
    let other = entry_with place None e in
    let rest = with_kind place None p in
    let there : is_same_slot other.slot s ≡ is_same_slot e.slot s = ap (λ u. is_same_slot u s) (same_place place e (is_same_slot e.slot place)) in
    elim (cases_Bool (is_same_slot e.slot s)) [
      | inl same ↦ subst (λ k. pairs_kept k pair ≡ true) (sym (kind_at_same s e p same))
          (own_pairs e (is_same_slot e.slot place) pair
          (subst (λ k. pairs_kept k pair ≡ true) (kind_at_same s other rest (there ∙ same)) kept))
      | inr differs ↦ subst (λ k. pairs_kept k pair ≡ true) (sym (kind_at_other s e p differs))
          (kept_without place s p pair
          (subst (λ k. pairs_kept k pair ≡ true) (kind_at_other s other rest (there ∙ differs)) kept))
    ]

-- ---- as advised no FENCE orders more than what is advised in its place

kind_of_fence : (kind : Kind) → memory_kind (fence_for (Some kind)) ≡ Some kind
kind_of_fence RR = refl
kind_of_fence RW = refl
kind_of_fence RRw = refl
kind_of_fence WR = refl
kind_of_fence WW = refl
kind_of_fence WRw = refl
kind_of_fence RwR = refl
kind_of_fence RwW = refl
kind_of_fence RwRw = refl
kind_of_fence Tso = refl

kind_for : (kind : Option Kind) → memory_kind (fence_for kind) ≡ kind
kind_for None = refl
kind_for (Some kind) = kind_of_fence kind

-- what stays
stay_no_more : (own placed : Option Kind) (pair : Pair) → stays own placed ≡ true → pairs_kept own pair ≡ true → pairs_kept placed pair ≡ true
stay_no_more None placed pair stay kept = absurd (false≢true kept)
stay_no_more (Some own) None pair stay kept = absurd (false≢true stay)
stay_no_more (Some own) (Some kind) pair stay kept = subset_at (pairs_of own) (pairs_of kind) stay pair kept

no_fence : (own : Option Kind) (pair : Pair) → is_some own ≡ false → pairs_kept own pair ≡ true → ⊥
no_fence None pair none kept = false≢true kept
no_fence (Some own) pair none kept = false≢true (sym none)

one_no_more : (i : Instr) (placed : Option Kind) (pair : Pair) (b c : Bool) → is_fence i ≡ b → stays (memory_kind i) placed ≡ c
    → pairs_kept (memory_kind (if b && not c then fence_for placed else i)) pair ≡ true → pairs_kept placed pair ≡ true
one_no_more i placed pair true true is stay kept = stay_no_more (memory_kind i) placed pair stay kept
one_no_more i placed pair true false is stay kept = subst (λ k. pairs_kept k pair ≡ true) (kind_for placed) kept
one_no_more i placed pair false c is stay kept = absurd (no_fence (memory_kind i) pair is kept)

module _ (t : Test) (q : List Entry) where
  abbrev changes : Slot → Bool
  changes = is_changed t q

  got_numbered : (hart n m : ℕ) (code : List Instr) (k : ℕ) → m ≡ n + k
      → slice_get (map (followed_instr changes q hart) (enumerate_from n code)) k
      ≡ option_map (λ i. followed_instr changes q hart (m, i)) (slice_get code k)
  got_numbered hart n m [] k e = refl
  got_numbered hart n m (i ∷ code) zero e =
      let same : n ≡ m = omega (arith, e) in ap (λ j. Some (followed_instr changes q hart (j, i))) same
  got_numbered hart n m (i ∷ code) (suc k) e = got_numbered hart (n + 1) m code k (omega (arith, e))

  abbrev instr_there : Slot → Option Instr
  instr_there s = slice_get (slice_index_or t.codes s.hart []) s.at

  written_there : (s : Slot) → written_at (as_advised t q).codes s
      ≡ option_and_then memory_kind (option_map (λ i. followed_instr changes q s.hart (s.at, i)) (instr_there s))
  written_there s =
      ap (λ code. kind_there code s.at) (index_numbered (followed_code changes q) [] [] (λ n. refl) 0 t.codes s.hart s.hart (omega arith))
      ∙ ap (option_and_then memory_kind) (got_numbered s.hart 0 s.at (slice_index_or t.codes s.hart []) s.at (omega arith))

  there_no_more : (s : Slot) (o : Option Instr) (pair : Pair) → instr_there s ≡ o
      → pairs_kept (option_and_then memory_kind (option_map (λ i. followed_instr changes q s.hart (s.at, i)) o)) pair ≡ true
      → pairs_kept (kind_at s q) pair ≡ true
  there_no_more s None pair is kept = absurd (false≢true kept)
  there_no_more s (Some i) pair is kept =
      let own : stays (memory_kind i) (kind_at s q) ≡ stays (written_at t.codes s) (kind_at s q) =
      ap (λ o. stays (option_and_then memory_kind o) (kind_at s q)) (sym is) in
      one_no_more i (kind_at s q) pair (is_fence i) (stays (written_at t.codes s) (kind_at s q)) refl own kept

  written_no_more : KeepsNoMore (as_written (as_advised t q)) q
  written_no_more s pair kept =
      there_no_more s (instr_there s) pair refl
      (subst (λ k. pairs_kept k pair ≡ true) (written_is (as_advised t q) s ∙ written_there s) kept)

-- so it is allowed
pub allowed_without : (t : Test) (table : PriceTable) (p : List Entry) (place : Slot) (kind : Kind) → AreAdvised t table p
    → kind_at place p ≡ Some kind
    → Allows (as_advised t (with_kind place None p)) (no_fences (as_advised t (with_kind place None p)))
allowed_without t table p place kind is at =
    let q = with_kind place None p in
    let u = as_advised t q in
    let weaker : KeepsNoMore q (as_written t) =
    λ s pair kept. keeps_no_more table t p is.cheapest.placement s pair (kept_without place s p pair kept) in
    let rest : emptied u ≡ emptied t = (is_followed (is_changed t q) q t weaker).rest in
    let empty = each-needed is.empty (offers_in_place table t.codes) p place kind is.cheapest at in
    let here : Allows (emptied t) q = (empty.0, (shows_same is.empty (emptied t) q empty.0 is.same).0 empty.1) in
    let there = subst (λ (v : Test). Allows v q) (sym rest) here in
    (same_allowed_in_place u).0 ((allows-no-less (emptied u) (as_written u) q (written_no_more t q)).allows there)

-- ---- a placement whose slots rise has in each of its slots what its entry says

not_before_itself : (s : Slot) → is_before s s ≡ true → ⊥
not_before_itself s h = grind (arith, h)

before_at : (s : Slot) (p : List Entry) (k : ℕ) (d : Entry) → list_all (is_before s) (slots_of p) ≡ true → k < length p
    → is_before s (get_or p k d).slot ≡ true
before_at s [] k d all low = absurd (omega (arith, low))
before_at s (e ∷ p) zero d all low = (and_parts (is_before s e.slot) (list_all (is_before s) (slots_of p)) all).0
before_at s (e ∷ p) (suc k) d all low =
    before_at s p k d (and_parts (is_before s e.slot) (list_all (is_before s) (slots_of p)) all).1 (omega (arith, low))

itself : (s : Slot) → is_same_slot s s ≡ true
itself s = and_from _ _ (eq-eqb s.hart s.hart refl) (eq-eqb s.at s.at refl)

pub own_kind : (p : List Entry) (k : ℕ) (d : Entry) → is_rising (slots_of p) ≡ true → k < length p
    → kind_at (get_or p k d).slot p ≡ (get_or p k d).kind
own_kind [] k d rising low = absurd (omega (arith, low))
own_kind (e ∷ p) zero d rising low = kind_at_same e.slot e p (itself e.slot)
own_kind (e ∷ p) (suc k) d rising low =
    let parts = and_parts (list_all (is_before e.slot) (slots_of p)) (is_rising (slots_of p)) rising in
    let s = (get_or p k d).slot in
    let less : k < length p = omega (arith, low) in
    elim (cases_Bool (is_same_slot e.slot s)) [
      | inl same ↦ absurd (not_before_itself s (subst (λ (u : Slot). is_before u s ≡ true) (same_slot e.slot s same) (before_at e.slot p k d parts.0 less)))
      | inr differs ↦ kind_at_other s e p differs ∙ own_kind p k d parts.1 less
    ]

asked_by : (b : Bool) (own : Option Kind) (kind : Kind) → (if b then None else own) ≡ Some kind → own ≡ Some kind
asked_by true own kind is = absurd (cc)
asked_by false own kind is = is

-- what is asked for is there
pub asked_kind : (telling : Telling) (entry : Entry) (kind : Kind) → (asked telling entry).kind ≡ Some kind → entry.kind ≡ Some kind
asked_kind telling entry kind is = asked_by (is_passed telling entry.slot) entry.kind kind is

-- of an entry of a placement whose slots rise
pub asked_at : (telling : Telling) (items p : List Entry) (k : ℕ) (d made : Entry) (kind : Kind) → items ≡ p
    → is_rising (slots_of p) ≡ true → k < length items → made ≡ asked telling (get_or items k d) → made.kind ≡ Some kind
    → kind_at made.slot p ≡ Some kind
asked_at telling items p k d made kind same rising low is at =
    let own : kind_at (get_or items k d).slot items ≡ (get_or items k d).kind =
    own_kind items k d (subst (λ q. is_rising (slots_of q) ≡ true) (sym same) rising) low in
    let there : (get_or items k d).kind ≡ Some kind = asked_kind telling (get_or items k d) kind (ap (λ e. e.kind) (sym is) ∙ at) in
    subst (λ q. kind_at made.slot q ≡ Some kind) same
    (ap (λ e. kind_at e.slot items) is ∙ own ∙ there)

-- A test in which some lines are followed is the same but for its FENCEs, which order no less than what is advised.
use Rattle.std.proofs.Common.{◌≡◌, ℕ, zero, suc, ◌+◌, Bool, true, false, ◌&&◌, List, [], ◌∷◌, map, Option, None, Some, refl, ap, sym, subst, ◌∙◌, arith, if◌then◌else◌}
use Rattle.std.specs.Prelude.{option_and_then, option_map, slice_get}
use Rattle.std.specs.List.{enumerate_from, slice_index_or}
use Rattle.fs_instr.specs.declared.instr.Instr.{Instr}
use Rattle.fs_instr.specs.declared.instr.Instr.TheVariants.{Fence}
use Rattle.fs_kinds.specs.declared.kind.Kind.{Kind}
use Rattle.fs_kinds.specs.declared.kind.Kind.TheVariants.{RR, RW, RRw, WR, WW, WRw, RwR, RwW, RwRw, Tso}
use Rattle.fs_kinds.specs.declared.placement.Entry.{Entry}
use Rattle.fs_kinds.specs.declared.slot.Slot.{Slot}
use Rattle.fs_kinds.specs.Kind.{Pair}
use Rattle.fs_kinds.specs.Placement.{kind_at, pairs_kept}
use Rattle.fs_model.specs.declared.test.Test.{Test}
use Rattle.fs_model.specs.Fenced.{fence_of}
use Rattle.fs_model.specs.Slots.{slot_at}
use Rattle.fs_model_laws.specs.Strength.{KeepsNoMore}
use Rattle.fs_model_laws.proofs.FencedOperations.{index_numbered}
use Rattle.fs_model_laws.specs.InPlace.{memory_kind, is_fence, devices, emptied_instr, emptied_code, kind_there, written_at, as_written, IsFollowed, fence_for, followed_instr, followed_code, followed}
use Rattle.fs_model_laws.proofs.WrittenPlaces.{written_is}

kind_of_fence : (kind : Kind) → memory_kind (fence_of kind) ≡ Some kind
kind_of_fence RR = refl
kind_of_fence RW = refl
kind_of_fence RRw = refl
kind_of_fence WR = refl
kind_of_fence WW = refl
kind_of_fence WRw = refl
kind_of_fence RwR = refl
kind_of_fence RwW = refl
kind_of_fence RwRw = refl
kind_of_fence Tso = refl

kind_for : (kind : Option Kind) → memory_kind (fence_for kind) ≡ kind
kind_for None = refl
kind_for (Some kind) = kind_of_fence kind

-- ---- without its FENCEs it is the same

empty_for : (kind : Option Kind) → emptied_instr (fence_for kind) ≡ Fence devices devices
empty_for None = refl
empty_for (Some RR) = refl
empty_for (Some RW) = refl
empty_for (Some RRw) = refl
empty_for (Some WR) = refl
empty_for (Some WW) = refl
empty_for (Some WRw) = refl
empty_for (Some RwR) = refl
empty_for (Some RwW) = refl
empty_for (Some RwRw) = refl
empty_for (Some Tso) = refl

module _ (lines : Slot → Bool) (p : List Entry) where
  one_emptied : (i : Instr) (kind : Option Kind) (here : Bool) (c : Bool) → is_fence i ≡ here
      → emptied_instr (if here && c then fence_for kind else i) ≡ emptied_instr i
  one_emptied i kind true true is = empty_for kind ∙ sym (ap (λ b. if b then Fence devices devices else i) is)
  one_emptied i kind true false is = refl
  one_emptied i kind false c is = refl

  code_emptied : (hart n : ℕ) (code : List Instr)
      → map emptied_instr (map (followed_instr lines p hart) (enumerate_from n code)) ≡ map emptied_instr code
  code_emptied hart n [] = refl
  code_emptied hart n (i ∷ code) =
      ap (λ j. j ∷ map emptied_instr (map (followed_instr lines p hart) (enumerate_from (n + 1) code)))
      (one_emptied i (kind_at (slot_at hart n) p) (is_fence i) (lines (slot_at hart n)) refl)
      ∙ ap (λ js. emptied_instr i ∷ js) (code_emptied hart (n + 1) code)

  codes_emptied : (n : ℕ) (codes : List (List Instr))
      → map emptied_code (map (followed_code lines p) (enumerate_from n codes)) ≡ map emptied_code codes
  codes_emptied n [] = refl
  codes_emptied n (code ∷ codes) =
      ap (λ c. c ∷ map emptied_code (map (followed_code lines p) (enumerate_from (n + 1) codes))) (code_emptied n 0 code)
      ∙ ap (λ cs. emptied_code code ∷ cs) (codes_emptied (n + 1) codes)

  -- ---- its FENCEs

  got_numbered : (hart n m : ℕ) (code : List Instr) (k : ℕ) → m ≡ n + k
      → slice_get (map (followed_instr lines p hart) (enumerate_from n code)) k
      ≡ option_map (λ i. followed_instr lines p hart (m, i)) (slice_get code k)
  got_numbered hart n m [] k e = refl
  got_numbered hart n m (i ∷ code) zero e =
      let same : n ≡ m = omega (arith, e) in ap (λ j. Some (followed_instr lines p hart (j, i))) same
  got_numbered hart n m (i ∷ code) (suc k) e = got_numbered hart (n + 1) m code k (omega (arith, e))

  abbrev IsKept : Option Kind → Option Kind → Type 0
  IsKept less more = (pair : Pair) → pairs_kept less pair ≡ true → pairs_kept more pair ≡ true

  -- what is there orders what is placed there
  one_kept : (i : Instr) (kind : Option Kind) (b : Bool) → IsKept kind (memory_kind i)
      → IsKept kind (memory_kind (if b then fence_for kind else i))
  one_kept i kind true h pair kept = subst (λ k. pairs_kept k pair ≡ true) (sym (kind_for kind)) kept
  one_kept i kind false h pair kept = h pair kept

  there_kept : (s : Slot) (o : Option Instr) → IsKept (kind_at s p) (option_and_then memory_kind o)
      → IsKept (kind_at s p) (option_and_then memory_kind (option_map (λ i. followed_instr lines p s.hart (s.at, i)) o))
  there_kept s None h = h
  there_kept s (Some i) h = one_kept i (kind_at s p) (is_fence i && lines s) h

  module _ (t : Test) (weaker : KeepsNoMore p (as_written t)) where
    code_is : (hart : ℕ) → slice_index_or (followed lines t p).codes hart [] ≡ followed_code lines p (hart, slice_index_or t.codes hart [])
    code_is hart = index_numbered (followed_code lines p) [] [] (λ n. refl) 0 t.codes hart hart (omega arith)

    written_there : (s : Slot) → written_at (followed lines t p).codes s
        ≡ option_and_then memory_kind (option_map (λ i. followed_instr lines p s.hart (s.at, i)) (slice_get (slice_index_or t.codes s.hart []) s.at))
    written_there s =
        ap (λ code. kind_there code s.at) (code_is s.hart)
        ∙ ap (option_and_then memory_kind) (got_numbered s.hart 0 s.at (slice_index_or t.codes s.hart []) s.at (omega arith))

    pub is_followed : IsFollowed t p (followed lines t p)
    is_followed = record {
      rest = ap (λ codes. record t { codes = codes }) (codes_emptied 0 t.codes);
      orders = λ s pair kept.
          let own : IsKept (kind_at s p) (written_at t.codes s) =
          λ q k. subst (λ o. pairs_kept o q ≡ true) (written_is t s) (weaker s q k) in
          let there = there_kept s (slice_get (slice_index_or t.codes s.hart []) s.at) own pair kept in
          subst (λ o. pairs_kept o pair ≡ true) (sym (written_is (followed lines t p) s ∙ written_there s)) there;
    }

-- A placement with no fence leaves a test as it is.
use Rattle.std.proofs.Common.{◌≡◌, ℕ, ◌+◌, ◌++◌, Bool, true, false, Option, None, Some, List, [], ◌∷◌, map, filter, flat_map, length, is_some, cond, refl, ap, ap₂, ◌∙◌, arith}
use Rattle.std.specs.Prelude.{option_and_then}
use Rattle.std.specs.List.{enumerate_from, find, range_with_len}
use Rattle.fs_instr.specs.declared.instr.Instr.{Instr}
use Rattle.fs_instr.specs.declared.instr.Instr.TheVariants.{Register, Immediate, Shift, Lui, Li, Lw, Sw, Lr, Sc, Amo, Branch, Jump, Fence, FenceTso, FenceI}
use Rattle.fs_kinds.specs.declared.kind.Kind.{Kind}
use Rattle.fs_kinds.specs.declared.placement.Entry.{Entry}
use Rattle.fs_kinds.specs.declared.slot.Slot.{Slot}
use Rattle.fs_kinds.specs.Placement.{all_with, kind_at}
use Rattle.fs_kinds.specs.Slot.{is_same_slot}
use Rattle.fs_model.specs.declared.test.Test.{Test}
use Rattle.fs_model.specs.Fenced.{is_filled, position, moved, fences, with_fence, fenced_code, fenced}
use Rattle.fs_model.specs.Slots.{slot_at}

found_none : (c : Bool) (x : Slot) (rest : Option Entry) → option_and_then (λ e. e.kind) rest ≡ None
    → option_and_then (λ e. e.kind) (cond c (Some (record { slot = x; kind = None })) rest) ≡ None
found_none true x rest e = refl
found_none false x rest e = e

none_at : (ss : List Slot) (s : Slot) → kind_at s (all_with None ss) ≡ None
none_at [] s = refl
none_at (x ∷ xs) s = found_none (is_same_slot x s) x (find (λ e. is_same_slot e.slot s) (all_with None xs)) (none_at xs s)

none_pass : (f : ℕ → Bool) → ((k : ℕ) → f k ≡ false) → (ks : List ℕ) → filter f ks ≡ []
none_pass f none [] = refl
none_pass f none (k ∷ ks) = rw (none k) (none_pass f none ks)

module _ (p : List Entry) (none : (s : Slot) → kind_at s p ≡ None) where
  label_stays : (hart at : ℕ) → position p hart at ≡ at
  label_stays hart at =
      ap (λ ks. at + length ks) (none_pass (is_filled p hart) (λ k. ap is_some (none (slot_at hart k))) (range_with_len 0 at)) ∙ omega arith

  instruction_stays : (hart : ℕ) (i : Instr) → moved p hart i ≡ i
  instruction_stays hart (Register op rd first second) = refl
  instruction_stays hart (Immediate op rd first immediate) = refl
  instruction_stays hart (Shift op rd first amount) = refl
  instruction_stays hart (Lui rd upper) = refl
  instruction_stays hart (Li rd word) = refl
  instruction_stays hart (Lw ann rd base offset) = refl
  instruction_stays hart (Sw ann value base offset) = refl
  instruction_stays hart (Lr ann rd base) = refl
  instruction_stays hart (Sc ann rd value base) = refl
  instruction_stays hart (Amo op ann rd value base) = refl
  instruction_stays hart (Branch op first second target) = ap (Branch op first second) (label_stays hart target)
  instruction_stays hart (Jump target) = ap Jump (label_stays hart target)
  instruction_stays hart (Fence before after) = refl
  instruction_stays hart FenceTso = refl
  instruction_stays hart FenceI = refl

  code_stays : (hart n : ℕ) (code : List Instr) → flat_map (with_fence p hart) (enumerate_from n code) ≡ code
  code_stays hart n [] = refl
  code_stays hart n (i ∷ code) =
      ap (λ (kind : Option Kind). (fences kind ++ moved p hart i ∷ []) ++ flat_map (with_fence p hart) (enumerate_from (n + 1) code)) (none (slot_at hart n))
      ∙ ap₂ (λ j rest. j ∷ rest) (instruction_stays hart i) (code_stays hart (n + 1) code)

  codes_stay : (n : ℕ) (codes : List (List Instr)) → map (fenced_code p) (enumerate_from n codes) ≡ codes
  codes_stay n [] = refl
  codes_stay n (code ∷ codes) = ap₂ (λ c rest. c ∷ rest) (code_stays n 0 code) (codes_stay (n + 1) codes)

-- with no fence in these slots
pub unfenced : (t : Test) (ss : List Slot) → fenced t (all_with None ss) ≡ t
unfenced t ss = ap (λ codes. record t { codes = codes }) (codes_stay (all_with None ss) (none_at ss) 0 t.codes)

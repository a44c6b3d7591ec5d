-- What the fenced code of a hart has where, and what one instruction does there.
use Rattle.std.proofs.Common.{◌≡◌, ℕ, zero, suc, ◌+◌, ◌<◌, Bool, true, false, List, [], ◌∷◌, ◌++◌, length, Option, None, Some, refl, ap, sym, subst, ◌∙◌, arith, inl, inr}
use Rattle.std.specs.Prelude.{is_some, if◌then◌else◌, slice_get}
use Rattle.fs_instr.specs.declared.instr.Instr.{Instr}
use Rattle.fs_instr.specs.declared.instr.Instr.TheVariants.{Register, Immediate, Shift, Lui, Li, Lw, Sw, Lr, Sc, Amo, Branch, Jump, Fence, FenceTso, FenceI}
use Rattle.fs_kinds.specs.declared.kind.Kind.{Kind}
use Rattle.fs_kinds.specs.declared.kind.Kind.TheVariants.{RR, RW, RRw, WR, WW, WRw, RwR, RwW, RwRw, Tso}
use Rattle.fs_kinds.specs.declared.placement.Entry.{Entry}
use Rattle.fs_kinds.specs.Placement.{kind_at}
use Rattle.fs_model.specs.Slots.{slot_at}
use Rattle.fs_model.specs.Fenced.{is_filled, position, moved, fences, fence_of, fenced_code}
use Rattle.fs_model.specs.Moved.{place}
use Rattle.fs_model.proofs.FencedPlaces.{bit, count, count_first, with_fences, fences_code}
use Rattle.fs_model.specs.declared.hart.Hart.{Hart}
use Rattle.fs_model.specs.declared.step.Step.{Step}
use Rattle.fs_model.specs.Execute.{does_branch, next_after, executed, read}
use Rattle.fs_model.specs.Trace.{IsAtLocation, StoresItsWord, AccessesNothing, Succeeds, Accesses, paired_after, after_step}
use Rattle.fs_model_laws.specs.Fenced.{fence_step, moved_step}
use Rattle.fs_model_laws.proofs.FencedInstr.{same_of_moved, moved_alone, same_address, same_stored, same_executed}

-- ---- the fence of a filled slot

at_front : (o : Option Kind) (kind : Kind) (m : Instr) (rest : List Instr) → o ≡ Some kind
    → slice_get ((fences o ++ m ∷ []) ++ rest) 0 ≡ Some (fence_of kind)
at_front None kind m rest e = absurd (cc)
at_front (Some k) kind m rest e = let same : k ≡ kind = cc in ap (λ x. Some (fence_of x)) same

past_both : (o : Option Kind) (m : Instr) (rest : List Instr) (j k : ℕ) → j ≡ bit (is_some o) + k + 1
    → slice_get ((fences o ++ m ∷ []) ++ rest) j ≡ slice_get rest k
past_both None m rest j k e = let same : j ≡ suc k = omega (arith, e) in ap (slice_get (m ∷ rest)) same
past_both (Some f) m rest j k e = let same : j ≡ suc (suc k) = omega (arith, e) in ap (slice_get (fence_of f ∷ m ∷ rest)) same

module _ (p : List Entry) (hart : ℕ) where
  abbrev kind_of : ℕ → Option Kind
  kind_of n = kind_at (slot_at hart n) p

  fence_from : (n : ℕ) (code : List Instr) (at m j : ℕ) (kind : Kind) → at < length code → m ≡ n + at → kind_of m ≡ Some kind
      → j ≡ at + count (is_filled p hart) n at → slice_get (with_fences p hart n code) j ≡ Some (fence_of kind)
  fence_from n [] at m j kind low number there where_is = absurd (omega arith)
  fence_from n (x ∷ xs) zero m j kind low number there where_is =
      let here : j ≡ 0 = omega (arith, where_is) in
      let same : m ≡ n = omega (arith, number) in
      ap (slice_get (with_fences p hart n (x ∷ xs))) here
      ∙ at_front (kind_of n) kind (moved p hart x) (with_fences p hart (n + 1) xs) (subst (λ y. kind_of y ≡ Some kind) same there)
  fence_from n (x ∷ xs) (suc at) m j kind low number there where_is =
      let more = count_first (is_filled p hart) n at in
      let k = at + count (is_filled p hart) (n + 1) at in
      past_both (kind_of n) (moved p hart x) (with_fences p hart (n + 1) xs) j k (omega (arith, where_is, more))
      ∙ fence_from (n + 1) xs at m k kind (omega (arith, low)) (omega (arith, number)) there refl

  module _ (code : List Instr) where
    abbrev out : List Instr
    out = fenced_code p (hart, code)

    pub fence_at : (at : ℕ) (kind : Kind) → at < length code → kind_of at ≡ Some kind
        → slice_get out (position p hart at) ≡ Some (fence_of kind)
    fence_at at kind low there = fence_from 0 code at at (position p hart at) kind low (omega arith) there refl

    pub instruction_at : (at : ℕ) (i : Instr) → slice_get code at ≡ Some i
        → slice_get out (place p hart at) ≡ Some (moved p hart i)
    instruction_at at i e =
        let found = (fences_code p hart code).instructions at i e in
        found.1 ∙ ap Some (moved_alone p hart i found.0 found.2)

    pub length_out : length out ≡ position p hart (length code)
    length_out = (fences_code p hart code).whole

  place_by : (o : Option Kind) (at : ℕ) → kind_of at ≡ o → place p hart at ≡ position p hart at + bit (is_some o)
  place_by o at e = (fences_code p hart []).steps at ∙ ap (λ k. position p hart at + bit (is_some k)) e

  pub place_plain : (at : ℕ) → kind_of at ≡ None → place p hart at ≡ position p hart at
  place_plain at e = let h = place_by None at e in omega (arith, h)

  pub place_after_fence : (at : ℕ) (kind : Kind) → kind_of at ≡ Some kind → place p hart at ≡ position p hart at + 1
  place_after_fence at kind e = let h = place_by (Some kind) at e in omega (arith, h)

  -- ---- where the next instruction is

  branched : (c : Bool) (target at : ℕ)
      → (if c then position p hart target else place p hart at + 1) ≡ position p hart (if c then target else at + 1)
  branched true target at = refl
  branched false target at = omega arith

  plain_next : (at : ℕ) → place p hart at + 1 ≡ position p hart (at + 1)
  plain_next at = omega arith

  next_moved : (x : List ℕ) (at : ℕ) (i : Instr)
      → next_after x (place p hart at) (moved p hart i) ≡ position p hart (next_after x at i)
  next_moved x at (Register op rd first second) = plain_next at
  next_moved x at (Immediate op rd first immediate) = plain_next at
  next_moved x at (Shift op rd first amount) = plain_next at
  next_moved x at (Lui rd upper) = plain_next at
  next_moved x at (Li rd word) = plain_next at
  next_moved x at (Lw ann rd base offset) = plain_next at
  next_moved x at (Sw ann value base offset) = plain_next at
  next_moved x at (Lr ann rd base) = plain_next at
  next_moved x at (Sc ann rd value base) = plain_next at
  next_moved x at (Amo op ann rd value base) = plain_next at
  next_moved x at (Branch op first second target) = branched (does_branch op (read x first) (read x second)) target at
  next_moved x at (Jump target) = refl
  next_moved x at (Fence before after) = plain_next at
  next_moved x at FenceTso = plain_next at
  next_moved x at FenceI = plain_next at

  -- ---- states

  -- the state at the label of the next instruction, and the one right before the instruction
  abbrev pub label_hart : Hart → Hart
  label_hart h = record { at = position p hart h.at; registers = h.registers; paired = h.paired }

  abbrev pub placed_hart : Hart → Hart
  placed_hart h = record { at = place p hart h.at; registers = h.registers; paired = h.paired }

  pub label_plain : (h : Hart) → kind_of h.at ≡ None → label_hart h ≡ placed_hart h
  label_plain h e = ap (λ k. record { at = k; registers = h.registers; paired = h.paired }) (sym (place_plain h.at e))

  past_fence : (h : Hart) (at : ℕ) (kind : Kind)
      → after_step (label_hart h) (fence_step p hart at kind)
      ≡ record { at = position p hart h.at + 1; registers = h.registers; paired = h.paired }
  past_fence h at RR = refl
  past_fence h at RW = refl
  past_fence h at RRw = refl
  past_fence h at WR = refl
  past_fence h at WW = refl
  past_fence h at WRw = refl
  past_fence h at RwR = refl
  past_fence h at RwW = refl
  past_fence h at RwRw = refl
  past_fence h at Tso = refl

  pub fence_passed : (h : Hart) (at : ℕ) (kind : Kind) → kind_of h.at ≡ Some kind
      → after_step (label_hart h) (fence_step p hart at kind) ≡ placed_hart h
  fence_passed h at kind e =
      past_fence h at kind ∙ ap (λ k. record { at = k; registers = h.registers; paired = h.paired })
      (sym (place_after_fence h.at kind e))

  paired_by : (h : Hart) (s : Step) (i : Instr) → paired_after (placed_hart h) (moved_step p hart s) i ≡ paired_after h s i
  paired_by h s (Register op rd first second) = refl
  paired_by h s (Immediate op rd first immediate) = refl
  paired_by h s (Shift op rd first amount) = refl
  paired_by h s (Lui rd upper) = refl
  paired_by h s (Li rd word) = refl
  paired_by h s (Lw ann rd base offset) = refl
  paired_by h s (Sw ann value base offset) = refl
  paired_by h s (Lr ann rd base) = refl
  paired_by h s (Sc ann rd value base) = refl
  paired_by h s (Amo op ann rd value base) = refl
  paired_by h s (Branch op first second target) = refl
  paired_by h s (Jump target) = refl
  paired_by h s (Fence before after) = refl
  paired_by h s FenceTso = refl
  paired_by h s FenceI = refl

  paired_moved : (h : Hart) (s : Step) (i : Instr)
      → paired_after (placed_hart h) (moved_step p hart s) (moved p hart i) ≡ paired_after h s i
  paired_moved h s i =
      same_of_moved (paired_after (placed_hart h) (moved_step p hart s)) p hart (λ op first second target to. refl)
      (λ target to. refl) i ∙ paired_by h s i

  pub step_passed : (h : Hart) (s : Step) → after_step (placed_hart h) (moved_step p hart s) ≡ label_hart (after_step h s)
  step_passed h s =
      let at = next_moved h.registers h.at s.instr in
      let registers = same_executed p hart s.instr h.registers s.loaded s.stored in
      let paired = paired_moved h s s.instr in
      ap (λ k. record {
        at = k;
        registers = executed h.registers s.loaded s.stored (moved p hart s.instr);
        paired = paired_after
            (placed_hart h) (moved_step p hart s) (moved p hart s.instr);
      }) at
      ∙ ap (λ k. record {
        at = position p hart (next_after h.registers h.at s.instr);
        registers = k;
        paired = paired_after
            (placed_hart h) (moved_step p hart s) (moved p hart s.instr);
      }) registers
      ∙ ap (λ k. record {
        at = position p hart
            (next_after h.registers h.at s.instr);
        registers = executed h.registers s.loaded s.stored s.instr;
        paired = k;
      }) paired

  -- ---- accesses

  location_there : (n : ℕ) (h : Hart) (s : Step) → IsAtLocation n h s → IsAtLocation n (placed_hart h) (moved_step p hart s)
  location_there n h s a = (a.0 ∙ sym (same_address p hart s.instr h.registers), a.1)

  location_back : (n : ℕ) (h : Hart) (s : Step) → IsAtLocation n (placed_hart h) (moved_step p hart s) → IsAtLocation n h s
  location_back n h s a = (a.0 ∙ same_address p hart s.instr h.registers, a.1)

  stores_there : (h : Hart) (s : Step) → StoresItsWord h s → StoresItsWord (placed_hart h) (moved_step p hart s)
  stores_there h s e = e ∙ sym (same_stored p hart s.instr h.registers s.loaded)

  stores_back : (h : Hart) (s : Step) → StoresItsWord (placed_hart h) (moved_step p hart s) → StoresItsWord h s
  stores_back h s e = e ∙ same_stored p hart s.instr h.registers s.loaded

  succeeds_there : (h : Hart) (s : Step) → Succeeds h s → Succeeds (placed_hart h) (moved_step p hart s)
  succeeds_there h s a = (a.0 ∙ sym (same_address p hart s.instr h.registers), a.1, a.2, stores_there h s a.3)

  succeeds_back : (h : Hart) (s : Step) → Succeeds (placed_hart h) (moved_step p hart s) → Succeeds h s
  succeeds_back h s a = (a.0 ∙ same_address p hart s.instr h.registers, a.1, a.2, stores_back h s a.3)

  pub accesses_there : (n : ℕ) (h : Hart) (s : Step) (i : Instr) → Accesses n h s i
      → Accesses n (placed_hart h) (moved_step p hart s) (moved p hart i)
  accesses_there n h s (Register op rd first second) a = a
  accesses_there n h s (Immediate op rd first immediate) a = a
  accesses_there n h s (Shift op rd first amount) a = a
  accesses_there n h s (Lui rd upper) a = a
  accesses_there n h s (Li rd word) a = a
  accesses_there n h s (Lw ann rd base offset) a = (location_there n h s a.0, a.1, a.2)
  accesses_there n h s (Sw ann value base offset) a = (location_there n h s a.0, a.1, stores_there h s a.2)
  accesses_there n h s (Lr ann rd base) a = (location_there n h s a.0, a.1, a.2)
  accesses_there n h s (Sc ann rd value base) a = elim a [
    | inl x ↦ inl (succeeds_there h s x)
    | inr x ↦ inr x
  ]
  accesses_there n h s (Amo op ann rd value base) a = (location_there n h s a.0, a.1, stores_there h s a.2)
  accesses_there n h s (Branch op first second target) a = a
  accesses_there n h s (Jump target) a = a
  accesses_there n h s (Fence before after) a = a
  accesses_there n h s FenceTso a = a
  accesses_there n h s FenceI a = a

  pub accesses_back : (n : ℕ) (h : Hart) (s : Step) (i : Instr)
      → Accesses n (placed_hart h) (moved_step p hart s) (moved p hart i) → Accesses n h s i
  accesses_back n h s (Register op rd first second) a = a
  accesses_back n h s (Immediate op rd first immediate) a = a
  accesses_back n h s (Shift op rd first amount) a = a
  accesses_back n h s (Lui rd upper) a = a
  accesses_back n h s (Li rd word) a = a
  accesses_back n h s (Lw ann rd base offset) a = (location_back n h s a.0, a.1, a.2)
  accesses_back n h s (Sw ann value base offset) a = (location_back n h s a.0, a.1, stores_back h s a.2)
  accesses_back n h s (Lr ann rd base) a = (location_back n h s a.0, a.1, a.2)
  accesses_back n h s (Sc ann rd value base) a = elim a [
    | inl x ↦ inl (succeeds_back h s x)
    | inr x ↦ inr x
  ]
  accesses_back n h s (Amo op ann rd value base) a = (location_back n h s a.0, a.1, stores_back h s a.2)
  accesses_back n h s (Branch op first second target) a = a
  accesses_back n h s (Jump target) a = a
  accesses_back n h s (Fence before after) a = a
  accesses_back n h s FenceTso a = a
  accesses_back n h s FenceI a = a

-- a FENCE accesses nothing
pub nothing_by_fence : (n : ℕ) (h : Hart) (s : Step) (kind : Kind) → Accesses n h s (fence_of kind) → AccessesNothing s
nothing_by_fence n h s RR a = a
nothing_by_fence n h s RW a = a
nothing_by_fence n h s RRw a = a
nothing_by_fence n h s WR a = a
nothing_by_fence n h s WW a = a
nothing_by_fence n h s WRw a = a
nothing_by_fence n h s RwR a = a
nothing_by_fence n h s RwW a = a
nothing_by_fence n h s RwRw a = a
nothing_by_fence n h s Tso a = a

pub fence_accesses : (n : ℕ) (h : Hart) (s : Step) (kind : Kind) → AccessesNothing s → Accesses n h s (fence_of kind)
fence_accesses n h s RR a = a
fence_accesses n h s RW a = a
fence_accesses n h s RRw a = a
fence_accesses n h s WR a = a
fence_accesses n h s WW a = a
fence_accesses n h s WRw a = a
fence_accesses n h s RwR a = a
fence_accesses n h s RwW a = a
fence_accesses n h s RwRw a = a
fence_accesses n h s Tso a = a

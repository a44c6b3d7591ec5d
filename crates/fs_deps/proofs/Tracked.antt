-- What the tracker of a run keeps.
use Rattle.std.proofs.Common.{◌≡◌, ◌||◌, ◌&&◌, ◌==◌, ℕ, zero, suc, ◌+◌, ◌*◌, ◌^◌, ◌%◌, ◌<◌, List, [], ◌∷◌, length, get_or, set, Bool, true, false, cond, Option, Some, None, refl, sym, ap, subst, ◌∙◌, inl, inr, arith, bit_or, replicate, add-one}
use Rattle.std.specs.Prelude.{slice_index}
use Rattle.std.specs.List.{list_any}
use Rattle.std.proofs.lemmas.List.{get_or-set_same, get_or-set_other, length-set}
use Rattle.std.proofs.lemmas.Bool.{cases_eq, eq-eqb, ne_eqb}
use Rattle.fs_instr.specs.declared.instr.Instr.{Instr}
use Rattle.fs_instr.specs.Instructions.{dest_of, sources_of, carries_of, is_conditional}
use Rattle.fs_model.specs.declared.step.Step.{Step}
use Rattle.fs_model.specs.Numbers.{is_same}
use Rattle.fs_model.specs.Operations.{instr_at}
use Rattle.fs_model.specs.Dependencies.{depends, control_depends}
use Rattle.fs_deps.specs.declared.tracker.Tracker.{Tracker}
use Rattle.fs_deps.specs.Masks.{is_set}
use Rattle.fs_deps.specs.Tracker.{read_mask, IsAnyOf, IsTracked}
use Rattle.fs_deps.proofs.Bits.{or-false, is_set-zero, is_set-or, is_set-with}
use Rattle.fs_deps.proofs.OneMore.{reads, written, unwritten, control_more, depends_none, control_none}

-- one of the 32 registers, or none
abbrev pub IsNamed : Option ℕ → Type 0
IsNamed None = Unit {0}
IsNamed (Some register) = register < 32

-- with this mask for a register
abbrev pub registers_with : List ℕ → Option ℕ → ℕ → List ℕ
registers_with registers None mask = registers
registers_with registers (Some register) mask = set registers register mask

-- the mask of a register that step j writes: the sources' mask where it carries, and j itself
abbrev pub written_mask : Bool → ℕ → ℕ → ℕ
written_mask carries sources j = bit_or (cond carries sources 0) (1 * 2 ^ j % 2 ^ 32)

-- the tracker after step j, by the mask of its sources
abbrev pub after : Tracker → Instr → ℕ → ℕ → Tracker
after t i sources j = record {
  registers = registers_with t.registers (dest_of i) (written_mask (carries_of i) sources j);
  branches = cond (is_conditional i) (bit_or t.branches sources) t.branches;
}

-- the steps on which a read of one of the registers depends
abbrev pub either_mask : Tracker → List (Option ℕ) → ℕ
either_mask t [] = 0
either_mask t (r ∷ []) = read_mask t r
either_mask t (r ∷ s ∷ rs) = bit_or (read_mask t r) (either_mask t (s ∷ rs))

pub is_set-either : (t : Tracker) (i : ℕ) (rs : List (Option ℕ))
    → is_set (either_mask t rs) i ≡ list_any (λ r. is_set (read_mask t r) i) rs
is_set-either t i [] = is_set-zero i
is_set-either t i (r ∷ []) = sym (or-false (is_set (read_mask t r) i))
is_set-either t i (r ∷ s ∷ rs) =
    is_set-or (read_mask t r) (either_mask t (s ∷ rs)) i ∙ ap (λ b. is_set (read_mask t r) i || b) (is_set-either t i (s ∷ rs))

any_same : (f g : Option ℕ → Bool) → ((r : Option ℕ) → f r ≡ g r) → (rs : List (Option ℕ)) → list_any f rs ≡ list_any g rs
any_same f g h [] = refl
any_same f g h (r ∷ rs) = ap (λ b. b || list_any f rs) (h r) ∙ ap (λ b. g r || b) (any_same f g h rs)

same_none : (o : Option ℕ) → is_same o None ≡ false
same_none None = refl
same_none (Some a) = refl

module _ (steps : List Step) (j : ℕ) (t : Tracker) (so_far : IsTracked steps j t) where
  abbrev now : Instr
  now = instr_at steps j

  module _ (sources : ℕ) (is_sources : IsAnyOf t (sources_of now) sources) where
    is_reads : (i : ℕ) → is_set sources i ≡ reads steps j i
    is_reads i = is_sources i ∙ any_same _ _ (so_far.registers i) (sources_of now)

    carried : (i : ℕ) → is_set (cond (carries_of now) sources 0) i ≡ (carries_of now && reads steps j i)
    carried i = by_case (carries_of now)
      where
        by_case : (b : Bool) → is_set (cond b sources 0) i ≡ (b && reads steps j i)
        by_case true = is_reads i
        by_case false = is_set-zero i

    abbrev mask : ℕ
    mask = written_mask (carries_of now) sources j

    is_written : j < 32 → (i : ℕ) → is_set mask i ≡ ((carries_of now && reads steps j i) || (i == j))
    is_written room i = is_set-with _ j i room ∙ ap (λ b. b || (i == j)) (carried i)

    -- register r after the step, by its destination
    register_more : j < 32 → (dest : Option ℕ) → dest_of now ≡ dest → IsNamed dest → (i r : ℕ)
        → is_set (slice_index (registers_with t.registers dest mask) r) i ≡ depends steps i (suc j) (Some r)
    register_more room None e named i r =
        so_far.registers i (Some r) ∙ unwritten steps j i (Some r) (ap (λ d. is_same d (Some r)) e)
    register_more room (Some d) e named i r = elim (cases_eq r d) [
      | inl here ↦ (
          let within : d < length t.registers = omega (arith, so_far.whole) in
          let at : slice_index (set t.registers d mask) r ≡ mask = rw (here, get_or-set_same) refl in
          ap (λ m. is_set m i) at ∙ is_written room i
          ∙ written steps j i (Some r) (ap (λ o. is_same o (Some r)) e ∙ eq-eqb d r (sym here)))
      | inr ne ↦ (
          let at : slice_index (set t.registers d mask) r ≡ slice_index t.registers r = rw get_or-set_other refl in
          ap (λ m. is_set m i) at ∙ so_far.registers i (Some r)
          ∙ unwritten steps j i (Some r) (ap (λ o. is_same o (Some r)) e ∙ ne_eqb d r (λ same. ne (sym same))))
    ]

    registers_more : j < 32 → IsNamed (dest_of now) → (i : ℕ) (r : Option ℕ)
        → is_set (read_mask (after t now sources j) r) i ≡ depends steps i (suc j) r
    registers_more room named i None = so_far.registers i None ∙ unwritten steps j i None (same_none (dest_of now))
    registers_more room named i (Some r) = register_more room (dest_of now) refl named i r

    length_more : (dest : Option ℕ) → length (registers_with t.registers dest mask) ≡ 32
    length_more None = so_far.whole
    length_more (Some d) = length-set t.registers d _ ∙ so_far.whole

    branches_more : (i : ℕ) → is_set (after t now sources j).branches i ≡ control_depends steps i (suc j)
    branches_more i = by_case (is_conditional now) ∙ control_more steps j i
      where
        by_case : (b : Bool)
            → is_set (cond b (bit_or t.branches sources) t.branches) i ≡ (control_depends steps i j || b && reads steps j i)
        by_case true =
            is_set-or t.branches sources i
            ∙ ap (λ b. b || is_set sources i) (so_far.branches i)
            ∙ ap (λ b. control_depends steps i j || b) (is_reads i)
        by_case false = so_far.branches i ∙ sym (or-false (control_depends steps i j))

    -- one step more
    pub tracked_more : j < 32 → IsNamed (dest_of now) → IsTracked steps (j + 1) (after t now sources j)
    tracked_more room named = rw add-one (record {
      whole = length_more (dest_of now);
      registers = registers_more room named;
      branches = branches_more;
    })

-- before the first step
pub tracked_none : (steps : List Step) → IsTracked steps 0 (record { registers = replicate 32 0; branches = 0 })
tracked_none steps = record {
  whole = refl;
  registers = λ i r. zero_read i r ∙ sym (depends_none steps i r);
  branches = λ i. is_set-zero i ∙ sym (control_none steps i);
}
  where
    zero_row : (n x : ℕ) → ◌≡◌ {A = ℕ} (get_or (replicate n 0) x 0) 0
    zero_row zero x = refl
    zero_row (suc n) zero = refl
    zero_row (suc n) (suc x) = zero_row n x

    zero_read : (i : ℕ) (r : Option ℕ) → is_set (read_mask (record { registers = replicate 32 0; branches = 0 }) r) i ≡ false
    zero_read i None = is_set-zero i
    zero_read i (Some r) = ap (λ m. is_set m i) (zero_row 32 r) ∙ is_set-zero i

-- the tracker after step j, which has the instruction i
pub tracked_after : (steps : List Step) (j : ℕ) (t : Tracker) (i : Instr) (sources : ℕ) (t' : Tracker)
    → j < 32 → IsNamed (dest_of i) → IsAnyOf t (sources_of i) sources
    → t' ≡ after t i sources j → instr_at steps j ≡ i → IsTracked steps j t → IsTracked steps (j + 1) t'
tracked_after steps j t i sources t' room named is_sources step there so_far =
    subst (λ (u : Tracker). IsTracked steps (j + 1) u) (ap (λ x. after t x sources j) there ∙ sym step)
    (tracked_more steps j t so_far sources (subst (λ (x : Instr). IsAnyOf t (sources_of x) sources) (sym there) is_sources)
    room (subst (λ (x : Instr). IsNamed (dest_of x)) (sym there) named))

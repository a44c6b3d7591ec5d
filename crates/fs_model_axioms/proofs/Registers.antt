-- The condition in a final state, and the final registers of runs.
use Rattle.std.proofs.Common.{◌≡◌, ◌≤◌, ◌==◌, ℕ, not, List, [], map, length, refl, ap, inl, inr, arith}
use Rattle.std.specs.List.{slice_index_or}
use Rattle.std.proofs.lemmas.Bool.{cases_lt}
use Rattle.std.proofs.Math.ListN.{get_or-eq_default}
use Rattle.std.proofs.lemmas.List.{length-map}
use Rattle.fs_model.specs.declared.test.Test.{Test}
use Rattle.fs_model.specs.Condition.{Condition, Always, Never, RegisterIs, LocationIs, Deny, Both, Either}
use Rattle.fs_model.specs.Execute.{read}
use Rattle.fs_model.specs.Trace.{start_with, hart_after}
use Rattle.fs_model.specs.Operations.{steps_of}
use Rattle.fs_model.specs.Execution.{registers_of}
use Rattle.fs_model.specs.Shows.{holds, final_register}
use Rattle.fs_hart.specs.declared.trace.Trace.{Trace}
use Rattle.fs_hart.specs.Steps.{steps_in}
use Rattle.fs_model_axioms.specs.Final.{register_in, AreFinal}

pub holds_same : (f g : ℕ → ℕ → ℕ) (u v : ℕ → ℕ) → ((h r : ℕ) → f h r ≡ g h r) → ((k : ℕ) → u k ≡ v k) → (c : Condition)
    → holds f u c ≡ holds g v c
holds_same f g u v e d Always = refl
holds_same f g u v e d Never = refl
holds_same f g u v e d (RegisterIs hart reg w) = ap (λ n. n == w) (e hart reg)
holds_same f g u v e d (LocationIs location w) = ap (λ n. n == w) (d location)
holds_same f g u v e d (Deny c) = ap not (holds_same f g u v e d c)
holds_same f g u v e d (Both a b) = rw (holds_same f g u v e d a, holds_same f g u v e d b) refl
holds_same f g u v e d (Either a b) = rw (holds_same f g u v e d a, holds_same f g u v e d b) refl

past_registers : (t : Test) (traces : List Trace) (hart : ℕ) → length traces ≡ length t.starts → length traces ≤ hart
    → slice_index_or (map (λ trace. trace.registers) traces) hart [] ≡ (hart_after (start_with (registers_of t hart)) (steps_of
    (steps_in traces) hart)).registers
past_registers t traces hart e past =
    let ends = map (λ trace. trace.registers) traces in
    let short : length ends ≤ hart = omega (arith, past, length-map traces (λ trace. trace.registers)) in
    let none : slice_index_or ends hart [] ≡ [] = get_or-eq_default ends [] short in
    let no_start : registers_of t hart ≡ [] = get_or-eq_default t.starts [] (omega (arith, past, e)) in
    let no_steps : steps_of (steps_in traces) hart ≡ [] =
    get_or-eq_default (steps_in traces) [] (omega (arith, past, length-map traces (λ trace. trace.steps))) in
    rw (none, no_start, no_steps) refl

pub same_register : (t : Test) (traces : List Trace) → AreFinal t traces → (hart reg : ℕ)
    → register_in traces hart reg ≡ final_register t (steps_in traces) hart reg
same_register t traces final hart reg = elim (cases_lt hart (length traces)) [
  | inl low ↦ ap (λ registers. read registers reg) (final.registers hart low)
  | inr past ↦ ap (λ registers. read registers reg) (past_registers t traces hart final.harts past)
]

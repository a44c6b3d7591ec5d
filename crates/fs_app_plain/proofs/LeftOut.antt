-- An execution with an idle turn, and the one without it.
use Rattle.std.proofs.Common.{◌≡◌, inl, inr, ℕ, zero, suc, ◌<◌, true, List, [], ◌∷◌, ◌++◌, length, refl, ap, sym, subst, ◌∙◌, arith}
use Rattle.std.specs.Prelude.{slice_set}
use Rattle.std.specs.List.{list_any}
use Rattle.std.proofs.lemmas.Bool.{cases_eq}
use Rattle.fs_instr.specs.declared.instr.Instr.{Instr}
use Rattle.fs_kinds.specs.declared.placement.Entry.{Entry}
use Rattle.fs_model.specs.declared.hart.Hart.{Hart}
use Rattle.fs_model.specs.declared.step.Step.{Step}
use Rattle.fs_model.specs.declared.test.Test.{Test}
use Rattle.fs_model.specs.Instructions.{read}
use Rattle.fs_model.specs.Runs.{AreSteps, start_with, after_step, hart_after}
use Rattle.fs_model.specs.Operations.{steps_of}
use Rattle.fs_model.specs.Execution.{Execution, IsExecution, IsTrace, ObeysAxioms, code_of, registers_of, pre_execution}
use Rattle.fs_model.specs.Shows.{final_register}
use Rattle.fs_app_plain.specs.Turns.{HasIdleTurn, IsIdle, IsLeftOut, without_turn, writes}
use Rattle.fs_app_plain.proofs.Shortened.{Shortens}
use Rattle.fs_app_plain.proofs.KeptRuns.{run_without, final_registers}
use Rattle.fs_app_plain.proofs.KeptDepends.{address_depends_there, data_depends_there, control_depends_there, address_between_there}
use Rattle.fs_app_plain.proofs.KeptBetween.{paired_there, fence_there, placed_there}
use Rattle.fs_app_plain.proofs.FewerGiven.{SameBetween}
use Rattle.fs_app_plain.proofs.FewerGone.{both_is_amo}
use Rattle.fs_app_plain.proofs.FewerNumbers.{number_from, count_of_turn}
use Rattle.fs_app_plain.proofs.FewerOperations.{shortened}
use Rattle.fs_app_plain.proofs.OrderLists.{order_without}
use Rattle.fs_app_plain.proofs.OrderAxioms.{axioms_without, words_without, runs_agree}

-- ---- the runs of the other harts, and that one

run_here : (traces : List (List Step)) (hart : ℕ) (run : List Step) → hart < length traces → steps_of (slice_set traces hart run) hart ≡ run
run_here [] hart run low = absurd (omega (arith, low))
run_here (ss ∷ traces) zero run low = refl
run_here (ss ∷ traces) (suc k) run low = run_here traces k run (omega (arith, low))

run_there : (traces : List (List Step)) (hart k : ℕ) (run : List Step) → ¬ (k ≡ hart) → steps_of (slice_set traces hart run) k ≡ steps_of traces k
run_there [] hart k run other = refl
run_there (ss ∷ traces) zero zero run other = absurd (other refl)
run_there (ss ∷ traces) zero (suc k) run other = refl
run_there (ss ∷ traces) (suc hart) zero run other = refl
run_there (ss ∷ traces) (suc hart) (suc k) run other = run_there traces hart k run (λ e. other (ap suc e))

as_many : (traces : List (List Step)) (hart : ℕ) (run : List Step) → length (slice_set traces hart run) ≡ length traces
as_many [] hart run = refl
as_many (ss ∷ traces) zero run = refl
as_many (ss ∷ traces) (suc k) run = ap suc (as_many traces k run)

-- steps of a run behind others are steps of a hart
turn_steps : (n : ℕ) (code : List Instr) (before turn after : List Step) (h : Hart) → AreSteps n code h (before ++ (turn ++ after))
    → AreSteps n code (hart_after h before) turn
turn_steps n code [] [] after h a = tt
turn_steps n code [] (s ∷ turn) after h a = (a.0, turn_steps n code [] turn after (after_step h s) a.1)
turn_steps n code (s ∷ before) turn after h a = turn_steps n code before turn after (after_step h s) a.1

-- what is so between steps of the shorter run
same_between : (start : Hart) (before turn after : List Step) → IsIdle start before turn after → SameBetween before turn after
same_between start before turn after idle = record {
  by_address = λ i j forward low e. address_depends_there before turn after idle.registers i j e;
  by_data = λ i j forward low e. data_depends_there before turn after idle.registers i j e;
  by_control = λ i j forward low e. control_depends_there before turn after idle.registers i j e;
  by_address_between = λ i j forward low e. address_between_there before turn after idle.registers i j e;
  paired = λ i j forward low e. paired_there before turn after idle.reservation i j e;
  fence = λ test i j forward low e. fence_there before turn after test i j e;
  placed = λ test i j forward low e. placed_there before turn after test i j e;
}

module _ (t : Test) (p : List Entry) (e : Execution) (hart : ℕ) (before turn after : List Step) (is : IsExecution t p e)
    (low : hart < length t.codes) (has : HasIdleTurn t e hart before turn after) where
  abbrev traces : List (List Step)
  traces = without_turn e.traces hart before after

  abbrev from : ℕ
  from = number_from e.traces hart before

  abbrev count : ℕ
  count = count_of_turn hart before turn

  abbrev left : Execution
  left = record { traces = traces; order = order_without from count e.order }

  inside : hart < length e.traces
  inside = let same = is.harts in omega (arith, low, same)

  own_run : IsTrace t hart (before ++ (turn ++ after))
  own_run = subst (IsTrace t hart) has.run (is.runs hart low)

  fewer : Shortens p (pre_execution t e.traces) (pre_execution t traces) from count
  fewer =
      shortened p e.traces (pre_execution t e.traces).words hart before turn after inside has.run has.idle.stores
      (both_is_amo (length t.locations) (code_of t hart) (hart_after (start_with (registers_of t hart)) before) turn
      (turn_steps (length t.locations) (code_of t hart) before turn after (start_with (registers_of t hart)) own_run.0))
      (same_between (start_with (registers_of t hart)) before turn after has.idle)

  axioms : ObeysAxioms (pre_execution t traces) p left.order
  axioms = axioms_without p (pre_execution t e.traces) (pre_execution t traces) from count fewer (runs_agree t e is.harts is.runs) e.order is.axioms

  run_of : (k : ℕ) → k < length t.codes → IsTrace t k (steps_of traces k)
  run_of k small = elim (cases_eq k hart) [
    | inl mine ↦
        subst (λ h. IsTrace t h (steps_of traces h)) (sym mine)
        (subst (IsTrace t hart) (sym (run_here e.traces hart (before ++ after) inside))
        (run_without before turn after (length t.locations) (code_of t hart) (registers_of t hart) own_run has.idle))
    | inr other ↦ subst (IsTrace t k) (sym (run_there e.traces hart k (before ++ after) other)) (is.runs k small)
  ]

  abbrev end_of : (k r : ℕ) → List Step → ℕ
  end_of k r steps = read (hart_after (start_with (registers_of t k)) steps).registers r

  register_kept : (k r : ℕ) → (k ≡ hart → list_any (writes r) turn ≡ true → list_any (writes r) after ≡ true)
      → final_register t e.traces k r ≡ final_register t traces k r
  register_kept k r written = elim (cases_eq k hart) [
    | inl mine ↦
        ap (λ h. end_of h r (steps_of e.traces h)) mine
        ∙ ap (end_of hart r) has.run
        ∙ final_registers before turn after (registers_of t hart) has.idle r (written mine)
        ∙ ap (end_of hart r) (sym (run_here e.traces hart (before ++ after) inside))
        ∙ ap (λ h. end_of h r (steps_of traces h)) (sym mine)
    | inr other ↦ ap (end_of k r) (sym (run_there e.traces hart k (before ++ after) other))
  ]

  pub left_out : IsLeftOut t p e hart before turn after
  left_out = record {
    left = left;
    execution = record { harts = as_many e.traces hart (before ++ after) ∙ is.harts; runs = run_of; axioms = axioms };
    traces = refl;
    alike = record {
      words = words_without p (pre_execution t e.traces) (pre_execution t traces) from count fewer e.order is.axioms;
      registers = register_kept;
    };
  }

-- The executions of an exact test in 32 bits, with all words extended, are executions in 64 bits with the same outcome.
use Rattle.std.proofs.Common.{◌≡◌, ℕ, ◌<◌, List, length, map, sym, subst, ◌∙◌}
use Rattle.std.proofs.lemmas.List.{length-map}
use Rattle.fs_kinds.specs.declared.placement.Entry.{Entry}
use Rattle.fs_model.specs.declared.test.Test.{Test}
use Rattle.fs_model.specs.Test.{IsTest}
use Rattle.fs_model.specs.Runs as narrow
use Rattle.fs_model.specs.Operations.{steps_of}
use Rattle.fs_model.specs.Execution.{Execution, IsExecution, code_of, registers_of}
use Rattle.fs_model.specs.Shows.{has_outcome}
use Rattle.fs_values.specs.ThinAir.{HasRunsOverValues}
use Rattle.fs_app_plain.specs.Instructions64.{extended}
use Rattle.fs_app_plain.specs.Wide.{Runs, AreExact, IsExactTest, IsWideExecution, extended_step, extended_execution, has_wide_outcome}
use Rattle.fs_app_plain.proofs.Given.{WordLaws}
use Rattle.fs_app_plain.proofs.ForthRuns.{run_there}
use Rattle.fs_app_plain.proofs.ForthOperations.{trace_changed}
use Rattle.fs_app_plain.proofs.ForthFits.{axioms_extended}
use Rattle.fs_app_plain.proofs.ForthOutcome.{same_outcome}

module _ (laws : WordLaws) (t : Test) (p : List Entry) (e : Execution) (test : IsTest t) (over : HasRunsOverValues t)
    (exact : IsExactTest t) (is : IsExecution t p e) where
  runs_exact : (hart : ℕ) → hart < length t.codes
      → AreExact (narrow.start_with (registers_of t hart)) (steps_of e.traces hart)
  runs_exact hart below =
      let are = over p e is in
      exact hart (steps_of e.traces hart) below (are.runs hart below) (are.values hart below)

  pub executions_extended : IsWideExecution t p (extended_execution e)
  executions_extended =
      record {
        harts = length-map e.traces (map extended_step) ∙ is.harts;
        runs = λ hart below.
            let same = sym (trace_changed extended e.traces hart) in
            subst (Runs (length t.locations) (code_of t hart) (registers_of t hart)) same
            (run_there laws t test hart below (steps_of e.traces hart) (is.runs hart below) (runs_exact hart below));
        axioms = axioms_extended t e.traces p e.order is.axioms;
      }

  pub outcome_extended : has_wide_outcome t (extended_execution e) ≡ has_outcome t e
  outcome_extended = same_outcome laws t test e.traces is.harts is.runs runs_exact e.order

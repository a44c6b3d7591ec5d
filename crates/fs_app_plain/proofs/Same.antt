-- The executions with 64 bits are those with 32, all words extended by their signs.
use Rattle.std.proofs.Common.{◌≡◌, ◌↔◌, List, sym, ap, subst, ◌∙◌}
use Rattle.std.specs.Prelude.{map}
use Rattle.fs_kinds.specs.declared.placement.Entry.{Entry}
use Rattle.fs_model.specs.declared.step.Step.{Step}
use Rattle.fs_model.specs.declared.test.Test.{Test}
use Rattle.fs_model.specs.Test.{IsTest}
use Rattle.fs_model.specs.Execution.{Execution, IsExecution, ObeysAxioms}
use Rattle.fs_model.specs.Shows.{has_outcome}
use Rattle.fs_model.specs.Allows.{Allows}
use Rattle.fs_values.specs.ThinAir.{HasRunsOverValues, MeetsNoFault, NeverAstray}
use Rattle.fs_values.proofs.Faults.{never_astray}
use Rattle.fs_values.proofs.Grounded.{always_grounded}
use Rattle.fs_app_plain.specs.Wide.{IsWideExecution, IsExactTest, AllowsWide, extended_execution, extended_step, has_wide_outcome}
use Rattle.fs_app_plain.specs.Wide as wide
use Rattle.fs_app_plain.proofs.WordsLaws.{word_laws}
use Rattle.fs_app_plain.proofs.ForthExecutions.{executions_extended, outcome_extended}
use Rattle.fs_app_plain.proofs.ForthFits.{axioms_back}
use Rattle.fs_app_plain.proofs.ForthOutcome.{all_fit}
use Rattle.fs_app_plain.proofs.BackExecutions.{from_wide_values}

module _ (t : Test) (test : IsTest t) (no_fault : MeetsNoFault t) (exact : IsExactTest t) where
  never : NeverAstray t
  never = never_astray t no_fault

  over_values : HasRunsOverValues t
  over_values p e is = record {
    harts = is.harts;
    runs = is.runs;
    values = always_grounded t test.bounded test.words never p e is;
  }

  pub forth : (p : List Entry) (e : Execution) → IsExecution t p e
      → IsWideExecution t p (extended_execution e) × (has_wide_outcome t (extended_execution e) ≡ has_outcome t e)
  forth p e is = (
    executions_extended word_laws t p e test over_values exact is,
    outcome_extended word_laws t p e test over_values exact is,
  )

  abbrev Narrow : List Entry → Execution → Type 0
  Narrow p e = (f : Execution) × IsExecution t p f × (extended_execution f ≡ e)

  pub back : (p : List Entry) (e : Execution) → IsWideExecution t p e → Narrow p e
  back p e is =
      let found = from_wide_values word_laws t p e test never exact is in
      let f : Execution = found.0 in
      let fit = all_fit word_laws t test f.traces found.1.harts found.1.runs in
      let traces : e.traces ≡ map (map extended_step) f.traces = sym found.3 in
      let obeyed : ObeysAxioms (wide.pre_execution t (map (map extended_step) f.traces)) p f.order =
      subst (ObeysAxioms (wide.pre_execution t (map (map extended_step) f.traces)) p) (sym found.2)
      (subst (λ ts. ObeysAxioms (wide.pre_execution t ts) p e.order) traces is.axioms) in
      let same : extended_execution f ≡ e =
      ap (λ (ts : List (List Step)). record { traces = ts; order = f.order }) found.3
      ∙ ap (λ order. record { traces = e.traces; order = order }) found.2 in (
        f,
        record { harts = found.1.harts; runs = found.1.runs; axioms = axioms_back word_laws t f.traces fit test.words p f.order obeyed },
        same,
      )

  allowed_narrow : (p : List Entry) → AllowsWide t p → Allows t p
  allowed_narrow p allowed =
      let found = back p allowed.0 allowed.1 in
      let shown = (forth p found.0 found.1).1 in
      (found.0, record { execution = found.1; outcome = sym shown ∙ ap (has_wide_outcome t) found.2 ∙ allowed.2 })

  allowed_wide : (p : List Entry) → Allows t p → AllowsWide t p
  allowed_wide p allowed =
      let there = forth p allowed.0 allowed.1.execution in
      (extended_execution allowed.0, there.0, there.1 ∙ allowed.1.outcome)

  pub same_allowed : (p : List Entry) → AllowsWide t p ↔ Allows t p
  same_allowed p = (allowed_narrow p, allowed_wide p)

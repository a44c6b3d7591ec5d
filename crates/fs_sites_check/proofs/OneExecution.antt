-- A witness gives one execution.
use Rattle.std.proofs.Common.{◌≡◌, ◌<◌, List, [], length, sym, ◌∙◌, ap, subst, arith}
use Rattle.std.proofs.lemmas.List.{ext_get_or}
use Rattle.fs_model.specs.declared.test.Test.{Test}
use Rattle.fs_model.specs.Test.{IsBounded}
use Rattle.fs_model.specs.declared.step.Step.{Step}
use Rattle.fs_model.specs.Execution.{Execution, pre_execution, code_of, registers_of}
use Rattle.fs_model.specs.Witness.{Witness, IsOfWitness}
use Rattle.fs_model.specs.Reasons.{AreRuns, HaveNames, choices_for}
use Rattle.fs_model.proofs.Runs.{run_once}
use Rattle.fs_cand.proofs.NamedOrder.{names_say}
use Rattle.fs_cand.proofs.RunNames.{known}

module _ (t : Test) (w : Witness) where
  runs_of : (e : Execution) → IsOfWitness t w e → AreRuns t w e.traces
  runs_of e of = record { harts = of.harts; whole = of.runs }

  same_traces : (traces others : List (List Step)) → AreRuns t w traces → AreRuns t w others → traces ≡ others
  same_traces traces others h k = ext_get_or [] traces others (h.harts ∙ sym k.harts) (λ hart low.
      let there : hart < length t.codes = omega (arith, low, h.harts) in
      run_once (length t.locations) (code_of t hart) (registers_of t hart) (choices_for w hart) _ _ (h.whole hart there)
      (k.whole hart there))

  -- the choices decide the runs, and the names the order
  pub one_execution : (e f : Execution) → IsBounded t → IsOfWitness t w e → IsOfWitness t w f → e ≡ f
  one_execution e f bounded h k =
      let runs = runs_of f k in
      let traces = same_traces e.traces f.traces (runs_of e h) runs in
      let names = subst (λ traces. HaveNames (pre_execution t traces) e.order w.order) traces h.order in
      let order = names_say (pre_execution t f.traces) w.order e.order f.order (known t w f.traces runs bounded.forward) names k.order in
      ap (λ traces. record { traces = traces; order = e.order }) traces
      ∙ ap (λ order. record { traces = f.traces; order = order }) order

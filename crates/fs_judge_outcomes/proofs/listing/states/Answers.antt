use Rattle.std.proofs.Common.{◌≢◌, ◌∙◌, IfErr, inl, sym, subst}
use Rattle.std.specs.Arc.{arc_value}
use Rattle.std.proofs.lemmas.Result.{IfOk-weaker}
use Rattle.fs_kinds.specs.declared.fault.Fault.{Fault}
use Rattle.fs_kinds.specs.declared.fault.Fault.TheVariants.{Memory}
use Rattle.fs_model.specs.declared.test.Test.{Test}
use Rattle.fs_model.specs.TooMany.{IsRunFault}
use Rattle.fs_cert_evidence.specs.CandidateFaults.{IsCandidateFault}
use Rattle.fs_judge_outcomes.specs.States.{IsStatesFault}
use Rattle.fs_judge_outcomes.proofs.Asking.{handed}
use Rattle.fs_judge_outcomes.proofs.listing.states.Goals as goal

pub returns-in_err-problem-clause-err : goal.returns-in_err-problem-clause-err
returns-in_err-problem-clause-err c =
    let fault = c.in_err-problem.field-0.0 in
    handed c.from_residual-in_err-problem.result fault _ c.from_residual-in_err-problem.ensures.1
    (λ other. inl (subst (λ (t : Test). IsCandidateFault t fault) c.in_ok-try_clone.ensures (c.in_err-problem.ensures.err other)))

pub all_states-requires-clause-clean : goal.all_states-requires-clause-clean
all_states-requires-clause-clean c =
    subst (λ (t : Test). (f : Fault) → IsRunFault t f → ⊥) (sym c.in_ok-problem.ensures.value) c.in_ok-problem.ensures.clean

pub returns-clause-clean : goal.returns-clause-clean
returns-clause-clean c =
    let clean : (f : Fault) → IsRunFault (arc_value c.args.test.now) f → ⊥ =
    subst (λ (t : Test). (f : Fault) → IsRunFault t f → ⊥) c.in_ok-try_clone.ensures c.in_ok-problem.ensures.clean in
    IfOk-weaker c.all_states.result _ _ (λ found is. clean) c.all_states.ensures.ok

pub returns-clause-err : goal.returns-clause-err
returns-clause-err c =
    subst (λ (t : Test). IfErr c.all_states.result (λ f. f ≢ Memory → IsStatesFault t c.args.placement.now c.args.places.now f))
    (c.in_ok-problem.ensures.value ∙ c.in_ok-try_clone.ensures) c.all_states.ensures.err

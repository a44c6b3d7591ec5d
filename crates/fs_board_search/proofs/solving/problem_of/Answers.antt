use Rattle.std.proofs.Common.{◌≢◌, ◌∙◌, ap, sym, subst}
use Rattle.fs_kinds.specs.declared.fault.Fault.TheVariants.{Memory}
use Rattle.fs_model.specs.declared.test.Test.{Test}
use Rattle.fs_cert_evidence.specs.CandidateFaults.{IsCandidateFault}
use Rattle.fs_board_offers.specs.Sizes.{HasNoRunFault}
use Rattle.fs_board_offers.specs.Questions.{Question}
use Rattle.fs_board_search.proofs.Ends.{handed}
use Rattle.fs_board_search.proofs.solving.problem_of.Goals as goal

pub returns-in_err-problem-clause-err : goal.returns-in_err-problem-clause-err
returns-in_err-problem-clause-err c =
    let fault = c.in_err-problem.field-0.0 in
    let same = c.in_ok-test.ensures ∙ (c.test.ensures ∙ ap (λ (q : Question). q.test) c.deref.ensures) in
    handed c.from_residual-in_err-problem.result _ _ c.from_residual-in_err-problem.ensures.1
    (subst (λ (t : Test). fault ≢ Memory → IsCandidateFault t fault) same c.in_err-problem.ensures.err)

pub returns-clause-same : goal.returns-clause-same
returns-clause-same c =
    let same = c.in_ok-test.ensures ∙ (c.test.ensures ∙ ap (λ (q : Question). q.test) c.deref.ensures) in
    sym (c.in_ok-problem.ensures.value ∙ same)

pub returns-clause-clean : goal.returns-clause-clean
returns-clause-clean c =
    let same = c.in_ok-test.ensures ∙ (c.test.ensures ∙ ap (λ (q : Question). q.test) c.deref.ensures) in
    subst HasNoRunFault same c.in_ok-problem.ensures.clean

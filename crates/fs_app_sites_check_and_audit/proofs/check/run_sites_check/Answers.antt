use Rattle.std.proofs.Common.{map, string_bytes}
use Rattle.std.proofs.lemmas.Result.{IfErr-weaker, IfOk-weaker}
use Rattle.fs_app_place_and_order.proofs.Faults.{IfErr-handed}
use Rattle.fs_app_sites.proofs.Reading.{asked-again}
use Rattle.fs_app_sites_check_and_audit.specs.Checked.{of_question}
use Rattle.fs_app_sites_check_and_audit.proofs.CheckFaults.{check-certificate, check-judge, check-memory}
use Rattle.fs_app_sites_check_and_audit.proofs.Parts.{all_said}
use Rattle.fs_app_sites_check_and_audit.proofs.check.run_sites_check.Goals as goal

pub returns-in_err-asked-clause-fault : goal.returns-in_err-asked-clause-fault
returns-in_err-asked-clause-fault c =
    IfErr-handed c.from_residual.result _ _ c.from_residual.ensures.1 (of_question c.in_err-asked.ensures.fault)

pub returns-in_err-said-clause-fault : goal.returns-in_err-said-clause-fault
returns-in_err-said-clause-fault c =
    IfErr-handed c.from_residual-in_err-said.result _ _ c.from_residual-in_err-said.ensures.1
    (check-certificate _ _ _ _ _ _ c.in_ok-asked.ensures.ok c.in_err-said.ensures.bad c.in_err-said.ensures.err)

pub judge-requires-clause-said : goal.judge-requires-clause-said
judge-requires-clause-said c = let said = c.in_ok-said.ensures.ok in all_said _ said.0 said.2

pub returns-in_err-verdict-clause-fault : goal.returns-in_err-verdict-clause-fault
returns-in_err-verdict-clause-fault c =
    let said = c.in_ok-said.ensures.ok in
    IfErr-handed c.from_residual-in_err-verdict.result _ _ c.from_residual-in_err-verdict.ensures.1
    (check-judge _ _ _ _ _ _ said.0 c.in_ok-asked.ensures.ok said.1 c.in_err-verdict.ensures.err)

pub returns-clause-fault : goal.returns-clause-fault
returns-clause-fault c =
    IfErr-weaker c.verdict_output.result _ _ (λ f. check-memory _ _ _ f) c.verdict_output.ensures.err

pub returns-clause-answer : goal.returns-clause-answer
returns-clause-answer c =
    let said = c.in_ok-said.ensures.ok in
    IfOk-weaker c.verdict_output.result _ _
    (λ made printed. record {
      question = _;
      names = map string_bytes c.as_slice-names.result.now;
      asked = asked-again _ _ _ string_bytes _ _ c.as_slice-names.ensures c.in_ok-asked.ensures.ok;
      said = said.0;
      says = said.1;
      kept = _;
      keeps = said.2;
      verdict = c.in_ok-verdict.verdict;
      right = c.in_ok-verdict.ensures.ok;
      printed = printed;
    }) c.verdict_output.ensures.ok

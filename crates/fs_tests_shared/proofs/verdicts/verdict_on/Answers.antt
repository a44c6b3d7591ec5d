use Rattle.std.proofs.Common.{ap, ◌∙◌}
use Rattle.std.proofs.lemmas.Result.{IfOk-weaker}
use Rattle.fs_model.specs.Slots.{slots}
use Rattle.fs_tests_shared.proofs.verdicts.verdict_on.Goals as goal

pub returns : goal.returns
returns c = record {
  ok = IfOk-weaker c.verdict.result _ _
      (λ v is. (c.in_ok-placement.placement, c.in_ok-placement.ensures ∙ ap slots c.test.ensures.value, is)) c.verdict.ensures.ok;
}

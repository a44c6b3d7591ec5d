use Rattle.std.proofs.Common.{subst}
use Rattle.fs_check_certificate.specs.inner.Judgements.{IsPlacedVerdict}
use Rattle.fs_check_certificate.proofs.Judged.{placed_refused, placed_valid}
use Rattle.fs_check_certificate.proofs.fenced.judgement_of.Goals as goal

pub returns-in-Some : goal.returns-in-Some
returns-in-Some c t offers said answered against =
    placed_refused t offers said c.args.placement c.in-Some.reason answered
    (subst (IsPlacedVerdict t offers said c.args.placement) c.in-Some.is against)

pub returns-in-None : goal.returns-in-None
returns-in-None c t offers said answered whole =
    placed_valid t offers said c.args.placement answered
    (subst (IsPlacedVerdict t offers said c.args.placement) c.in-None.is whole)

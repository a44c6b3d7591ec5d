use Rattle.std.proofs.Common.{ap}
use Rattle.fs_board_offers.specs.Questions.{Question}
use Rattle.fs_board_search.proofs.Handed.{candidates-handed}
use Rattle.fs_board_search.proofs.scout.Scout.prepare.Goals as goal

pub returns-in_err-plan-clause-err : goal.returns-in_err-plan-clause-err
returns-in_err-plan-clause-err g c =
    candidates-handed c.from_residual.result _ c.loop.self.test c.args.self.now.test (ap (λ (q : Question). q.test) c.loop.invariant) c.from_residual.ensures.1 c.in_err-plan.ensures.err

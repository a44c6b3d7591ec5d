use Rattle.std.proofs.Common.{refl}
use Rattle.fs_board_search.proofs.Handed.{candidates-handed}
use Rattle.fs_board_search.proofs.scout.Scout.plan.Goals as goal

pub returns-in_err-is_last-clause-err : goal.returns-in_err-is_last-clause-err
returns-in_err-is_last-clause-err g c =
    candidates-handed c.from_residual.result _ c.args.self.now.test c.args.self.now.test refl c.from_residual.ensures.1
    c.in_err-is_last.ensures.err

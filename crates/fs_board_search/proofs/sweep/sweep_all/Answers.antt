use Rattle.fs_board_search.proofs.Ends.{handed}
use Rattle.fs_board_search.proofs.sweep.sweep_all.Goals as goal

pub returns-in_err-_all-clause-err : goal.returns-in_err-_all-clause-err
returns-in_err-_all-clause-err g c = handed c.from_residual.result _ _ c.from_residual.ensures.1 c.in_err-_all.ensures.err

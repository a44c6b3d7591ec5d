use Rattle.std.proofs.Common.{rules}
use Rattle.fs_board_search.proofs.Ends.{not_limit}
use Rattle.fs_pool_workers.proofs.crew.begin.Goals as goal

pub returns-in-Err : goal.returns-in-Err
returns-in-Err g c = record {
  goes = c.in-Err.ensures.goes;
  met = tt;
  err = not_limit c.args.board.now c.in-Err.fault (λ limit. search rules) c.in-Err.ensures.err;
}

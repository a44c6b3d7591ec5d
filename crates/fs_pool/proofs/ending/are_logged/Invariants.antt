use Rattle.std.proofs.Common.{drop}
use Rattle.fs_pool.specs.Ends.{AreLogged}
use Rattle.fs_pool.proofs.ending.are_logged.Given as goal

abbrev pub invariant-loop-i : goal.invariant-loop-i
invariant-loop-i g l = record {
  whole : AreLogged l.log l.worker l.next (drop l.i l.receipts) → AreLogged l.log l.worker 0 l.receipts;
  rest : AreLogged l.log l.worker 0 l.receipts → AreLogged l.log l.worker l.next (drop l.i l.receipts);
}

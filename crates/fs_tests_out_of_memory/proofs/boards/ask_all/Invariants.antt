use Rattle.std.proofs.Common.{◌≡◌}
use Rattle.fs_tests_out_of_memory.proofs.boards.ask_all.Given as goal

-- the board is asked the same question
abbrev pub invariant-loop-worker : goal.invariant-loop-worker
invariant-loop-worker g l = l.board.question ≡ l.initial.board.question

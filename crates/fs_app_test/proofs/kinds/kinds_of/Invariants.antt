use Rattle.std.proofs.Common.{take}
use Rattle.fs_app_test.specs.Rows.{AreKinds}
use Rattle.fs_app_test.proofs.kinds.kinds_of.Given as goal

-- of the rows so far
abbrev pub invariant-loop-row : goal.invariant-loop-row
invariant-loop-row l = AreKinds l.kinds (take l.row-index l.rows)

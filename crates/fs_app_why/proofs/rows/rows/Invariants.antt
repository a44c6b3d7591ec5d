use Rattle.std.proofs.Common.{◌≡◌, flat_map, take}
use Rattle.fs_app_why.specs.Traces.{row_of}
use Rattle.fs_app_why.proofs.rows.rows.Given as goal

-- the operations so far
abbrev pub invariant-loop-a : goal.invariant-loop-a
invariant-loop-a l = l.made.items ≡ flat_map (row_of l.test l.lines l.told) (take l.a-index l.a-items)

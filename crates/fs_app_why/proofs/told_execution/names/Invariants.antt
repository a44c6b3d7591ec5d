use Rattle.std.proofs.Common.{◌≡◌, map}
use Rattle.std.specs.List.{range_with_len}
use Rattle.fs_cand_witness.specs.Naming.{name_at}
use Rattle.fs_app_why.proofs.told_execution.names.Given as goal

-- the names of the operations so far
abbrev pub invariant-loop-a : goal.invariant-loop-a
invariant-loop-a l = l.names.items ≡ map (name_at l.candidate) (range_with_len 0 l.a)

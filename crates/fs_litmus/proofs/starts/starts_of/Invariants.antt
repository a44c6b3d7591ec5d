use Rattle.std.proofs.Common.{◌≡◌, map}
use Rattle.std.specs.List.{range_with_len}
use Rattle.fs_litmus.specs.Starts.{registers_of}
use Rattle.fs_litmus.proofs.starts.starts_of.Given as goal

abbrev pub invariant-loop-hart : goal.invariant-loop-hart
invariant-loop-hart l = l.harts.items ≡ map (registers_of l.settings) (range_with_len 0 l.hart)

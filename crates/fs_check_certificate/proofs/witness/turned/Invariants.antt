use Rattle.std.proofs.Common.{◌≡◌}
use Rattle.std.specs.List.{flat_map, range_with_len}
use Rattle.fs_check_certificate.specs.inner.Bearing.{turned_after}
use Rattle.fs_check_certificate.proofs.witness.turned.Given as goal

abbrev pub invariant-loop-a : goal.invariant-loop-a
invariant-loop-a l = l.turned.items ≡ flat_map (turned_after l.test l.ordered) (range_with_len 0 l.a)

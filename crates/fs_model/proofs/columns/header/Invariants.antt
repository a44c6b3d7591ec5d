use Rattle.std.proofs.Common.{◌≡◌, ◌++◌, map, codes, decimal, string_bytes}
use Rattle.std.specs.List.{range_with_len}
use Rattle.fs_model.proofs.columns.header.Given as goal

abbrev pub invariant-loop-hart : goal.invariant-loop-hart
invariant-loop-hart l = map string_bytes l.names.items ≡ map (λ hart. codes "P" ++ decimal hart) (range_with_len 0 l.hart-counter)

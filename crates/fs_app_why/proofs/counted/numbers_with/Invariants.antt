use Rattle.std.proofs.Common.{◌≡◌, flat_map}
use Rattle.std.specs.List.{range_with_len}
use Rattle.fs_app_why.specs.Counted.{number_of}
use Rattle.fs_app_why.proofs.counted.numbers_with.Given as goal

-- the kinds so far
abbrev pub invariant-loop-number : goal.invariant-loop-number
invariant-loop-number l =
    l.numbers.items ≡ flat_map (number_of l.telling l.kinds l.key l.in_told) (range_with_len 0 l.number)

use Rattle.std.proofs.Common.{◌≡◌, flat_map, take}
use Rattle.fs_app_why.specs.Traces.{place_at}
use Rattle.fs_app_why.proofs.marks.places.Given as goal

-- the operations so far
abbrev pub invariant-loop-number : goal.invariant-loop-number
invariant-loop-number l = l.pieces.items ≡ flat_map (place_at l.lines l.told) (take l.number-index l.numbers)

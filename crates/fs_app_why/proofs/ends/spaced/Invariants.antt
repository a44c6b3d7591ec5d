use Rattle.std.proofs.Common.{◌≡◌, flat_map, take, string_bytes}
use Rattle.fs_app_why.specs.Traces.{spaced}
use Rattle.fs_app_why.proofs.ends.spaced.Given as goal

-- the cells so far
abbrev pub invariant-loop-cell : goal.invariant-loop-cell
invariant-loop-cell l = string_bytes l.text ≡ flat_map spaced (take l.cell-index l.cells)

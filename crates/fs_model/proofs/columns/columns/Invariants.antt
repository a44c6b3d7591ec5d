use Rattle.std.proofs.Common.{◌≡◌, map, take}
use Rattle.fs_model.specs.Printed.{column}
use Rattle.fs_model.proofs.columns.columns.Given as goal

abbrev pub invariant-loop-code : goal.invariant-loop-code
invariant-loop-code l = l.columns.items ≡ map column (take l.code-index l.codes)

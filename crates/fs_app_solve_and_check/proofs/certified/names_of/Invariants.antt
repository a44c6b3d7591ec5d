use Rattle.std.proofs.Common.{◌≡◌, flat_map, take}
use Rattle.fs_app_solve_and_check.specs.inner.Named.{named}
use Rattle.fs_app_solve_and_check.proofs.certified.names_of.Given as goal

-- the names so far that are there
abbrev pub invariant-loop-name : goal.invariant-loop-name
invariant-loop-name l = l.kept.items ≡ flat_map named (take l.name-index l.names)

use Rattle.std.proofs.Common.{◌≡◌, Some, map, take}
use Rattle.fs_sites_check.proofs.full.names_of.Given as goal

abbrev pub invariant-loop-name : goal.invariant-loop-name
invariant-loop-name l = take l.name-index l.names ≡ map (λ name. Some name) l.kept.items

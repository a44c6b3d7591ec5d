use Rattle.std.proofs.Common.{◌≡◌, take}
use Rattle.fs_sites_check.proofs.full.same_choices.Given as goal

abbrev pub invariant-loop-list : goal.invariant-loop-list
invariant-loop-list l = l.same.items ≡ take l.list-index l.lists

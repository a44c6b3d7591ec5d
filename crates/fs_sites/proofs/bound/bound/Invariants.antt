use Rattle.std.proofs.Common.{◌≡◌, ◌+◌, ◌≤◌, true, List, ◌++◌}
use Rattle.fs_kinds.specs.declared.placement.Entry.{Entry}
use Rattle.fs_sites.specs.Plans.{breaks_all}
use Rattle.fs_sites.specs.Sinking.{Fills, paid}
use Rattle.fs_sites.proofs.bound.bound.Given as goal

-- what is paid, and what is left to pay, is no more than what a placement costs
abbrev pub invariant-loop-number : goal.invariant-loop-number
invariant-loop-number l =
    (rest : List Entry) → Fills l.undecided rest → breaks_all l.bars (l.decided ++ rest) ≡ true
    → Fills l.offers.items rest × (l.least + paid l.offers.items rest ≤ l.cost + paid l.undecided rest)

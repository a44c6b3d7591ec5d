use Rattle.std.proofs.Common.{◌≡◌, ℕ, List}
use Rattle.fs_app_sites.specs.Sites.{copy_value}
use Rattle.fs_app_sites.proofs.Added.{StandsBehind}
use Rattle.fs_app_sites.proofs.free.place_among.Given as goal

-- no copy so far stands there or later
abbrev pub invariant-loop-at : goal.invariant-loop-at
invariant-loop-at l = (prefix : List ℕ) → StandsBehind prefix l.slot copy_value l.copies l.at

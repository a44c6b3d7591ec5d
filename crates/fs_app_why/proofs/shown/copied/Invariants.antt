use Rattle.std.proofs.Common.{◌≡◌, take}
use Rattle.fs_app_why.proofs.shown.copied.Given as goal

-- the copies so far
abbrev pub invariant-loop-choices : goal.invariant-loop-choices
invariant-loop-choices l = l.made.items ≡ take l.choices-index l.lists

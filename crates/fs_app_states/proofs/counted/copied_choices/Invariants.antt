use Rattle.std.proofs.Common.{◌≡◌, take}
use Rattle.fs_app_states.proofs.counted.copied_choices.Given as goal

-- those so far
abbrev pub invariant-loop-choices : goal.invariant-loop-choices
invariant-loop-choices l = l.made.items ≡ take l.choices-index l.lists

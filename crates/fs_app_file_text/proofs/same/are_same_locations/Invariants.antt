use Rattle.std.proofs.Common.{◌≡◌, take}
use Rattle.fs_app_file_text.proofs.same.are_same_locations.Given as goal

-- they are the same so far
abbrev pub invariant-loop-i : goal.invariant-loop-i
invariant-loop-i l = take l.i l.locations ≡ take l.i l.others

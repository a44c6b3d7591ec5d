use Rattle.std.proofs.Common.{◌≡◌, take, map}
use Rattle.std.specs.List.{enumerate_from}
use Rattle.fs_app_file_text.specs.Rewritten.{marked_instr}
use Rattle.fs_app_file_text.proofs.rewriting.marked_code.Given as goal

-- the instructions so far
abbrev pub invariant-loop-at : goal.invariant-loop-at
invariant-loop-at l = l.made.items ≡ map (marked_instr l.placement l.hart) (take l.at (enumerate_from 0 l.code))

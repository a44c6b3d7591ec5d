use Rattle.std.proofs.Common.{◌≡◌, filter, map, take}
use Rattle.fs_app_file_text.specs.Rewritten.{is_left, moved}
use Rattle.fs_app_file_text.proofs.rewriting.left.Given as goal

-- what is left so far
abbrev pub invariant-loop-instr : goal.invariant-loop-instr
invariant-loop-instr l = l.made.items ≡ map (moved l.code) (filter is_left (take l.instr-index l.code))

use Rattle.std.proofs.Common.{◌≡◌, filter, map, take}
use Rattle.fs_app_audit.specs.Unfenced.{is_kept, moved}
use Rattle.fs_app_audit.proofs.removal.unfenced_code.Given as goal

-- what is kept so far
abbrev pub invariant-loop-instr : goal.invariant-loop-instr
invariant-loop-instr l = l.made.items ≡ map (moved l.code) (filter is_kept (take l.instr-index l.code))

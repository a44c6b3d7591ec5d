use Rattle.std.proofs.Common.{◌≡◌, ◌++◌, flat_map, take, string_bytes}
use Rattle.fs_cert_evidence.specs.Texts.{fence_line}
use Rattle.fs_report.proofs.fences.write_fences.Given as goal

-- the lines of the entries so far
abbrev pub invariant-loop-entry : goal.invariant-loop-entry
invariant-loop-entry l = string_bytes l.text ≡ string_bytes l.initial.text ++ flat_map (λ e. fence_line e.slot e.kind) (take l.entry-index l.entries)

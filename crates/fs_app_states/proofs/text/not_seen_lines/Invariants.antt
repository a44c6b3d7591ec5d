use Rattle.std.proofs.Common.{◌≡◌, flat_map, take, string_bytes}
use Rattle.fs_app_states.specs.Compared.{not_seen_line}
use Rattle.fs_app_states.proofs.text.not_seen_lines.Given as goal

-- the lines so far
abbrev pub invariant-loop-words : goal.invariant-loop-words
invariant-loop-words l = string_bytes l.text ≡ flat_map (not_seen_line l.locations l.columns) (take l.words-index l.states)

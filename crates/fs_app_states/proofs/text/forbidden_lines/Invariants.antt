use Rattle.std.proofs.Common.{◌≡◌, flat_map, take, string_bytes}
use Rattle.fs_app_states.specs.Compared.{forbidden_line}
use Rattle.fs_app_states.specs.Tallies.{counted}
use Rattle.fs_app_states.proofs.text.forbidden_lines.Given as goal

-- the lines so far
abbrev pub invariant-loop-row : goal.invariant-loop-row
invariant-loop-row l =
    string_bytes l.text ≡ flat_map (λ row. forbidden_line l.locations l.columns (counted row)) (take l.row-index l.rows)

use Rattle.std.proofs.Common.{◌≡◌, take, string_bytes}
use Rattle.std.specs.List.{flat_map}
use Rattle.fs_app_states.specs.Report.{state_lines}
use Rattle.fs_app_states.proofs.report.all_lines.Given as goal

-- the lines so far
abbrev pub invariant-loop-state : goal.invariant-loop-state
invariant-loop-state l =
    string_bytes l.text ≡ flat_map (state_lines l.locations l.columns l.witnesses) (take l.state-index l.states)

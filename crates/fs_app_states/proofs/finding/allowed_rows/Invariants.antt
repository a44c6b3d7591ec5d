use Rattle.std.proofs.Common.{None, ◌≡◌, map, take}
use Rattle.fs_app_states.specs.Tallies.{counted}
use Rattle.fs_app_states.proofs.finding.allowed_rows.Given as goal

-- the rows so far
abbrev pub invariant-loop-state : goal.invariant-loop-state
invariant-loop-state l = map counted l.rows.items ≡ map (λ state. (state.words, None)) (take l.state-index l.states)

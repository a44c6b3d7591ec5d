use Rattle.std.proofs.Common.{◌≡◌, take}
use Rattle.std.specs.List.{filter}
use Rattle.fs_judge_outcomes.specs.States.{words_of}
use Rattle.fs_app_states.specs.Compared.{is_lacking}
use Rattle.fs_app_states.specs.Tallies.{entries_of}
use Rattle.fs_app_states.proofs.finding.not_seen.Given as goal

-- those of the states so far
abbrev pub invariant-loop-state : goal.invariant-loop-state
invariant-loop-state l = l.lacking.items ≡ filter (is_lacking (entries_of l.seen)) (words_of (take l.state-index l.states))

use Rattle.std.proofs.Common.{◌≡◌, map}
use Rattle.std.specs.List.{filter}
use Rattle.fs_app_states.specs.Compared.{is_lacking}
use Rattle.fs_app_states.specs.Tallies.{counted, entries_of}
use Rattle.fs_app_states.proofs.finding.forbidden.Given as goal

-- those of the states so far
abbrev pub invariant-loop-words : goal.invariant-loop-words
invariant-loop-words l = map counted l.rows.items
    ≡ filter (λ row. is_lacking (entries_of l.allowed) row.0) (map (λ entry. (entry.0.now.items, entry.1.now)) l.yielded)

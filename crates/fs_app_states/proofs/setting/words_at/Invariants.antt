use Rattle.std.proofs.Common.{◌≡◌, Some, map, take}
use Rattle.fs_app_states.specs.Rows.{word_at}
use Rattle.fs_app_states.proofs.setting.words_at.Given as goal

-- the words so far
abbrev pub invariant-loop-column : goal.invariant-loop-column
invariant-loop-column l =
    map Some l.words.items ≡ map (λ column. word_at l.settings column.place) (take l.column-index l.columns)

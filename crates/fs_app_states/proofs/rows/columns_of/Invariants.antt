use Rattle.std.proofs.Common.{◌≡◌, true, map, take}
use Rattle.std.specs.List.{AllZip}
use Rattle.fs_judge_outcomes.specs.States.{ArePlacesOf}
use Rattle.fs_app_states.specs.Rows.{are_apart, IsColumn}
use Rattle.fs_app_states.proofs.rows.columns_of.Given as goal

-- the columns so far
abbrev pub invariant-loop-item : goal.invariant-loop-item
invariant-loop-item l =
    AllZip (IsColumn l.test) (take l.item-index l.item-items) l.columns.items
    × ArePlacesOf l.test (map (λ column. column.place) l.columns.items)
    × (are_apart (map (λ column. column.place) l.columns.items) ≡ true)

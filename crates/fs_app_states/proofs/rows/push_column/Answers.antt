use Rattle.std.proofs.Common.{rules, ◌≡◌, sym, subst, true, false, List, [], ◌∷◌, ◌++◌, map}
use Rattle.std.specs.List.{AllZip, list_any}
use Rattle.fs_app_states.specs.declared.columns.Column.{Column}
use Rattle.fs_judge_outcomes.specs.States.{ArePlacesOf}
use Rattle.fs_app_states.specs.Rows.{are_apart, is_place, IsColumn}
use Rattle.fs_app_states.proofs.Matching.{zip_push, apart_push, own_push}
use Rattle.fs_app_states.proofs.rows.push_column.Goals as goal

pub returns-clause-each : goal.returns-clause-each
returns-clause-each c =
    λ items all. subst (λ (ds : List Column). AllZip (IsColumn c.args.test.now) (items ++ c.args.item.now ∷ []) ds) (sym c.in_ok-push.ensures.items)
    (zip_push (IsColumn c.args.test.now) items c.args.columns.now.items c.args.item.now c.in_ok-column.column all c.in_ok-column.ensures)

pub returns-clause-own : goal.returns-clause-own
returns-clause-own c =
    let is_own : c.is_place_of.result ≡ true = search rules in
    λ own. subst (λ (ds : List Column). ArePlacesOf c.args.test.now (map (λ d. d.place) ds)) (sym c.in_ok-push.ensures.items)
    (own_push c.args.test.now c.args.columns.now.items c.in_ok-column.column own (c.is_place_of.ensures is_own))

pub returns-clause-once : goal.returns-clause-once
returns-clause-once c =
    let new : list_any (λ d. is_place d.place c.in_ok-column.column.place) c.args.columns.now.items ≡ false = search rules in
    λ once. subst (λ (ds : List Column). are_apart (map (λ d. d.place) ds) ≡ true) (sym c.in_ok-push.ensures.items)
    (apart_push c.args.columns.now.items c.in_ok-column.column once new)

use Rattle.std.proofs.Common.{rules, sym, subst, List, [], ◌∷◌, ◌++◌}
use Rattle.std.specs.List.{AllZip}
use Rattle.fs_app_states.specs.Rows.{IsSetting}
use Rattle.fs_app_states.specs.declared.setting.Setting.{Setting}
use Rattle.fs_app_states.proofs.Matching.{zip_push}
use Rattle.fs_app_states.proofs.setting.push_setting.Goals as goal

pub returns : goal.returns
returns c =
    let says : IsSetting c.args.test.now c.args.item.now (record { place = c.in-Some.place; word = c.in-Some-2.word }) = search rules in
    λ items all. subst (λ (ss : List Setting). AllZip (IsSetting c.args.test.now) (items ++ c.args.item.now ∷ []) ss) (sym c.in_ok-push.ensures.items)
    (zip_push (IsSetting c.args.test.now) items c.args.settings.now.items c.args.item.now _ all says)

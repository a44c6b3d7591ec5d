use Rattle.std.proofs.Common.{◌≡◌, ◌∙◌, sym, ap, subst, Option}
use Rattle.std.specs.Prelude.{option_and_then, IfSome, ◌++◌, ◌∷◌, []}
use Rattle.fs_litmus.specs.declared.settings.Setting.{Setting}
use Rattle.fs_litmus.specs.Settings.{fresh, holders}
use Rattle.fs_litmus.proofs.Holders.{step, stopped, holders_pushed}
use Rattle.fs_litmus.proofs.entries.read_settings.Goals as goal

pub loop-entry-preserved : goal.loop-entry-preserved
loop-entry-preserved c =
    let h = c.in_ok-setting.ensures in
    let was = c.in-Some.is in
    let pushed = c.in_ok-push.ensures.items in
    let seen = c.loop-entry.invariant.seen in
    let keys : c.fresh.new.seen.keys ≡ c.loop-entry.seen.keys ++ c.in-Some.setting.holder ∷ [] = subst (λ (o : Option Setting). IfSome o (λ s. c.fresh.new.seen.keys ≡ c.loop-entry.seen.keys ++ s.holder ∷ [])) was h.keys in
    let found = ap (λ o. option_and_then (fresh (holders c.loop-entry.settings.items)) o) (sym c.setting_of-found.ensures.value) ∙ ap (λ ks. option_and_then (fresh ks) c.setting_of-found.result) (sym seen) ∙ sym h.value ∙ was in
    record {
      seen = keys ∙ ap (λ ks. ks ++ c.in-Some.setting.holder ∷ []) seen ∙ sym (holders_pushed _ _ _ pushed);
      so_far = step c.args.columns c.args.names.now _ _ c.args.entries.now c.loop-entry.entry-index _ c.in-Some.setting c.loop-entry-test.true c.loop-entry.invariant.so_far found pushed;
    }

pub returns-in_default-clause-first : goal.returns-in_default-clause-first
returns-in_default-clause-first c =
    let h = c.in_ok-setting.ensures.value in
    let found = ap (λ o. option_and_then (fresh (holders c.loop-entry.settings.items)) o) (sym c.setting_of-found.ensures.value) ∙ ap (λ ks. option_and_then (fresh ks) c.setting_of-found.result) (sym c.loop-entry.invariant.seen) ∙ sym h ∙ c.in_default.is in
    λ _. stopped c.args.columns c.args.names.now _ c.args.entries.now c.loop-entry.entry-index _ c.loop-entry-test.true c.loop-entry.invariant.so_far found c.requires.rising

use Rattle.std.proofs.Common.{◌≡◌, ◌<◌, ◌^◌, ◌++◌, ◌∷◌, [], All, map, take, length, get_or, ap, subst, sym, ◌∙◌, arith}
use Rattle.std.proofs.lemmas.List.{map_more, take_more, take_all}
use Rattle.std.proofs.lemmas.List.Elements.{All-push}
use Rattle.fs_model.specs.declared.test.Location.{Location}
use Rattle.fs_values.proofs.Made.{word_alone, initial_sets}
use Rattle.fs_values.proofs.values.Values.initial.Goals as goal

pub loop-declared-preserved : goal.loop-declared-preserved
loop-declared-preserved c =
    let i = c.loop-declared.declared-index in
    let locations = c.args.test.now.locations in
    let x = c.declared-item.result in
    let same = c.as_slice-declared-items.ensures in
    let low : i < length locations = omega (arith, c.loop-declared-test.true, ap length same) in
    let here : x ≡ get_or locations i x = c.declared-item.is ∙ ap (λ xs. get_or xs i x) same in
    let made = c.new.ensures ∙ c.in_ok-from_slice.ensures.items in
    record {
      sets = c.in_ok-push.ensures.items ∙ ap (λ w. c.loop-declared.sets.items ++ w ∷ []) made
          ∙ ap (λ ss. ss ++ word_alone x ∷ []) c.loop-declared.invariant.sets
          ∙ ap (λ (y : Location). map word_alone (take i locations) ++ word_alone y ∷ []) here
          ∙ sym (map_more word_alone locations i x low);
      words = subst (All (λ y. y.word < 2 ^ 32)) (sym (take_more locations i x low))
          (All-push (λ y. y.word < 2 ^ 32) (take i locations) (get_or locations i x) c.loop-declared.invariant.words
          (subst (λ (y : Location). y.word < 2 ^ 32) here (omega arith)));
    }

pub returns-clause-sets : goal.returns-clause-sets
returns-clause-sets c =
    let locations = c.args.test.now.locations in
    let i = c.loop-declared.declared-index in
    initial_sets c.args.test.now c.loop-declared.sets.items
    (c.loop-declared.invariant.sets
    ∙ ap (map word_alone) (take_all i locations (omega (arith, c.loop-declared-test.false, ap length c.as_slice-declared-items.ensures))))

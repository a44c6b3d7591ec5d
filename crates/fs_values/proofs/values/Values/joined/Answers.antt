use Rattle.std.proofs.Common.{◌≡◌, [], length, get_or, refl, ap, subst, ◌∙◌, arith}
use Rattle.std.proofs.lemmas.List.{get_or_default}
use Rattle.fs_values.proofs.Made.{AreMade, one_made, same_words, next_sets}
use Rattle.fs_values.proofs.values.Values.joined.Goals as goal

pub loop-location-preserved : goal.loop-location-preserved
loop-location-preserved c =
    let old = c.args.self.now in
    let stores = c.args.stores.now in
    let n = c.loop-location.location in
    let set = c.in_ok-with_stores.field-0 in
    let here = c.set-item.result in
    let view : c.deref-set-items.result.now ≡ old = c.deref-set-items.ensures.value ∙ c.self.view_is in
    one_made old stores n c.loop-location.sets.items c.push.new.self.items set here c.loop-location.invariant
    c.in_ok-push.ensures.items c.in_ok-with_stores.ensures.rising
    (c.set-item.is ∙ ap (λ xs. get_or xs n here) view ∙ get_or_default old n here [] (omega (arith, c.loop-location-test.true, ap length view)))
    (same_words stores stores set c.as_slice.result.now here c.address-address.result n c.as_slice.ensures
    refl c.address-address.ensures c.in_ok-with_stores.ensures.words)

pub returns : goal.returns
returns c =
    let old = c.args.self.now in
    let stores = c.args.stores.now in
    let view : c.deref-set-items.result.now ≡ old = c.deref-set-items.ensures.value ∙ c.self.view_is in
    let all : c.loop-location.location ≡ length old = omega (arith, c.loop-location-test.false, c.loop-location.auto.location-end, ap length view) in
    next_sets c.args.test.now old stores c.loop-location.sets.items
    (subst (λ n. AreMade old stores n c.loop-location.sets.items) all c.loop-location.invariant)
    c.requires.stores
    c.requires.locations

use Rattle.std.proofs.Common.{sym, subst, All}
use Rattle.std.specs.Arc.{arc_value}
use Rattle.fs_model.specs.declared.test.Test.{Test}
use Rattle.fs_model.specs.Test.{IsStart}
use Rattle.fs_judge_outcomes.specs.inner.Parts.{AsksFor}
use Rattle.fs_judge_outcomes.proofs.Asking.{near_in, same_starts, ok_some}
use Rattle.fs_judge_outcomes.proofs.lore.near_newest.Goals as goal

pub nearby-requires-clause-starts : goal.nearby-requires-clause-starts
nearby-requires-clause-starts c =
    subst (λ (t : Test). All IsStart t.starts) (sym c.deref.ensures)
    (same_starts c.args.test.now c.args.places.now _ (arc_value c.args.lore.now.whole) c.requires.lore.asks c.requires.starts)

pub returns-in-Some-clause-ok : goal.returns-in-Some-clause-ok
returns-in-Some-clause-ok c =
    let t = c.args.test.now in
    let places = c.args.places.now in
    let asks = subst (λ (whole : Test). AsksFor t places _ whole) (sym c.deref.ensures) c.requires.lore.asks in
    ok_some c.nearby.result _ _ (λ found. near_in t places _ c.deref.result.now asks c.args.placement.now c.args.part.now found.state)
    c.nearby.ensures.ok

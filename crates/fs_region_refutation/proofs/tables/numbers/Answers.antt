use Rattle.std.proofs.Common.{◌&&◌, Some, ap, sym, ◌∙◌}
use Rattle.std.specs.Prelude.{if◌then◌else◌, is_none}
use Rattle.std.proofs.lemmas.List.{take_all}
use Rattle.fs_model.specs.Numbers.{is_same}
use Rattle.fs_region_refutation.specs.inner.Tables.{listed_at, position_in}
use Rattle.fs_region_refutation.proofs.Firsts.{no_firsts, firsts_more, firsts, firsts_seen}
use Rattle.fs_region_refutation.proofs.tables.numbers.Goals as goal

pub loop-number-init : goal.loop-number-init
loop-number-init c = c.in_ok-table.ensures ∙ no_firsts (position_in c.args.hart c.args.steps.now) c.args.positions

pub loop-number-preserved : goal.loop-number-preserved
loop-number-preserved c =
    let found = position_in c.args.hart c.args.steps.now in
    firsts_more found c.args.positions c.args.operations.now c.loop-number.number c.index-operations-number.result _ _ c.loop-number-test.true c.index-operations-number.is
    c.loop-number.invariant c.put_first.ensures.length
    (λ k low. c.put_first.ensures.each k low
    ∙ ap (λ at. if is_same at (Some k) && is_none (listed_at c.loop-number.table.items k) then Some c.loop-number.number else listed_at c.loop-number.table.items k)
    c.position_in.ensures)

pub returns : goal.returns
returns c =
    let found = position_in c.args.hart c.args.steps.now in
    c.loop-number.invariant
    ∙ ap (firsts found c.args.positions) (take_all c.loop-number.number c.args.operations.now c.loop-number-test.false)
    ∙ sym (firsts_seen found c.args.positions c.args.operations.now)

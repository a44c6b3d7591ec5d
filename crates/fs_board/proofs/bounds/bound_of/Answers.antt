use Rattle.std.proofs.Common.{◌≡◌, ◌+◌, ◌<◌, None, Some, get_or, length, ◌∙◌, ap, ap₂, sym, arith}
use Rattle.fs_board_offers.specs.Offers.{cost}
use Rattle.fs_board_offers.specs.Parts.{floor}
use Rattle.fs_board_offers.specs.Pruning.{sum_of}
use Rattle.fs_cert_evidence.specs.Evidence.{Shown}
use Rattle.fs_board.specs.inner.Breaks.{least_in, widths_in}
use Rattle.fs_board_offers.proofs.Bounding.{bound_more, bound_none}
use Rattle.fs_board.proofs.bounds.bound_of.Goals as goal

pub returns-in_default : goal.returns-in_default
returns-in_default c =
    let offers = c.args.offers.now in
    let part = c.args.part.now in
    let ws = c.args.witnesses.now in
    let i = c.loop-witness.witness-index in
    let w = c.witness-item.result in
    let test = c.loop-witness-test.true in
    let within : i < length ws = omega arith in
    let none : least_in offers part (widths_in (get_or ws i w)) ≡ None =
    ap (λ v. least_in offers part (widths_in v)) (sym c.witness-item.is)
    ∙ (ap (λ (x : Shown). least_in offers part x.widths) (sym c.deref.ensures) ∙ sym c.in_default.ensures.value) in
    sym (bound_none (least_in offers part) (cost offers (floor part)) widths_in ws i w within none)

pub loop-witness-preserved : goal.loop-witness-preserved
loop-witness-preserved c =
    let offers = c.args.offers.now in
    let part = c.args.part.now in
    let ws = c.args.witnesses.now in
    let i = c.loop-witness.witness-index in
    let w = c.witness-item.result in
    let test = c.loop-witness-test.true in
    let within : i < length ws = omega arith in
    let some : least_in offers part (widths_in (get_or ws i w)) ≡ Some c.in-Some.least =
    ap (λ v. least_in offers part (widths_in v)) (sym c.witness-item.is)
    ∙ (ap (λ (x : Shown). least_in offers part x.widths) (sym c.deref.ensures) ∙ sym c.in-Some.ensures.value) in
    let from = c.from-total.ensures in
    let sum : c.in-Some.least + c.loop-witness.total ≡ c.loop-witness.total + c.from-total.result = omega (arith, from) in
    let was = c.loop-witness.invariant.most in
    let little = c.in-Some.ensures.most in
    record {
      so_far = bound_more (least_in offers part) (cost offers (floor part)) widths_in ws i w within ∙ (ap₂ sum_of some c.loop-witness.invariant.so_far ∙ ap Some sum);
      most = omega (arith, from);
    }

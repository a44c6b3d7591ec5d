use Rattle.std.proofs.Common.{◌≡◌, ◌+◌, ◌<◌, None, Some, get_or, length, ◌∙◌, ap, ap₂, sym, arith}
use Rattle.fs_board_offers.specs.Offers.{cost}
use Rattle.fs_board_offers.specs.Parts.{floor}
use Rattle.fs_board_offers.specs.Pruning.{sum_of}
use Rattle.fs_check_certificate.specs.Breaks.{least_in, breaks_at}
use Rattle.fs_board_offers.proofs.Bounding.{bound_more, bound_none}
use Rattle.fs_check_certificate.proofs.bounds.bound_of.Goals as goal

pub returns-in_default : goal.returns-in_default
returns-in_default c =
    let part = c.args.part.now in
    let breaks = c.args.breaks.now in
    let js = c.args.numbers.now in
    let i = c.loop-number.number-index in
    let test = c.loop-number-test.true in
    let within : i < length js = omega arith in
    let none : least_in part (breaks_at breaks (get_or js i 0)) ≡ None = ap (least_in part) (sym c.breaks_at.ensures) ∙ sym c.in_default.ensures in
    sym (bound_none (least_in part) (cost c.args.offers.now (floor part)) (breaks_at breaks) js i 0 within none)

pub loop-number-preserved : goal.loop-number-preserved
loop-number-preserved c =
    let part = c.args.part.now in
    let breaks = c.args.breaks.now in
    let js = c.args.numbers.now in
    let i = c.loop-number.number-index in
    let test = c.loop-number-test.true in
    let within : i < length js = omega arith in
    let some : least_in part (breaks_at breaks (get_or js i 0)) ≡ Some c.in-Some.least = ap (least_in part) (sym c.breaks_at.ensures) ∙ sym c.in-Some.ensures in
    let from = c.from-total.ensures in
    let sum : c.in-Some.least + c.loop-number.total ≡ c.loop-number.total + c.from-total.result = omega (arith, from) in
    let was = c.loop-number.invariant.most in
    record {
      so_far = bound_more (least_in part) (cost c.args.offers.now (floor part)) (breaks_at breaks) js i 0 within ∙ (ap₂ sum_of some c.loop-number.invariant.so_far ∙ ap Some sum);
      most = omega (arith, from);
    }

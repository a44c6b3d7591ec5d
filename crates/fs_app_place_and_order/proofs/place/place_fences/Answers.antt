use Rattle.std.proofs.Common.{Err, ap}
use Rattle.fs_app_place_and_order.proofs.Faults.{IfErr-handed, first-fences, first-memory}
use Rattle.fs_app_place_and_order.proofs.Placements.{slots_of-IsPlaced, offered-IsPlaced}
use Rattle.fs_app_place_and_order.proofs.place.place_fences.Goals as goal

pub fenced_text-requires-clause-slots : goal.fenced_text-requires-clause-slots
fenced_text-requires-clause-slots c = slots_of-IsPlaced _ _ _ _ c.in_ok-placement.ensures.ok

pub fenced_text-requires-clause-offered : goal.fenced_text-requires-clause-offered
fenced_text-requires-clause-offered c = offered-IsPlaced _ _ _ _ c.in_ok-placement.ensures.ok

pub returns-in_err-placement-clause-fault : goal.returns-in_err-placement-clause-fault
returns-in_err-placement-clause-fault c =
    IfErr-handed c.from_residual.result _ _ c.from_residual.ensures.1
    (λ given bytes priced reads. first-fences _ _ _ _ _ _ priced reads (λ e. c.in_err-placement.ensures.bad_fence (ap (λ f. Err f) e)) c.in_err-placement.ensures.err)

pub returns-in_err-text-clause-fault : goal.returns-in_err-text-clause-fault
returns-in_err-text-clause-fault c =
    IfErr-handed c.from_residual-in_err-text.result _ _ c.from_residual-in_err-text.ensures.1
    (λ given bytes priced reads. first-memory _ _ _ _ c.in_err-text.ensures.err)

pub returns-clause-text : goal.returns-clause-text
returns-clause-text c = λ given bytes priced reads. record {
  table = _;
  the_test = c.args.test.now;
  placement = c.in_ok-placement.placement;
  priced = priced;
  reads = reads;
  placed = c.in_ok-placement.ensures.ok;
  shown = c.in_ok-text.ensures.ok;
}

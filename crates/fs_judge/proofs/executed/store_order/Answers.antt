use Rattle.std.proofs.Common.{filter}
use Rattle.fs_model.specs.Test.{address_of}
use Rattle.fs_model_axioms.specs.Among.{stores_at}
use Rattle.fs_judge.proofs.ByOrder.{one_more}
use Rattle.fs_judge.proofs.executed.store_order.Goals as goal

pub loop-location-preserved : goal.loop-location-preserved
loop-location-preserved c =
    one_more (λ location. filter (stores_at c.args.operations.now (address_of location)) c.args.order.now)
    c.loop-location.all.items _ c.in_ok-stores_in.field-0 c.loop-location.location c.loop-location.invariant
    c.in_ok-stores_in.ensures c.in_ok-push.ensures.items

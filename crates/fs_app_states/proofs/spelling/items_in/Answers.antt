use Rattle.fs_app_states.proofs.Onward.{stepped}
use Rattle.fs_app_states.proofs.spelling.items_in.Goals as goal

pub loop-piece-preserved : goal.loop-piece-preserved
loop-piece-preserved c =
    stepped c.args.pieces.now c.loop-piece.piece-index _ c.loop-piece.items.items _ c.in-Some.item _ _ c.loop-piece-test.true c.trim.ensures.trim c.item_of.ensures c.in-Some.is c.in_ok-push.ensures.items c.loop-piece.invariant

use Rattle.fs_app_audit_json_and_why.proofs.Blocked.{block_more}
use Rattle.fs_app_audit_json_and_why.proofs.files.blocks_at.Goals as goal

pub loop-one-preserved : goal.loop-one-preserved
loop-one-preserved c =
    rw (c.in_ok-push.ensures.items)
    (block_more c.args.is_anew c.args.prices.now c.loop-one.blocks.items c.in_ok-block.block c.loop-one.invariant c.in_ok-block.ensures)

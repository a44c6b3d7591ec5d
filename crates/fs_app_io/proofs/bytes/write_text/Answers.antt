use Rattle.fs_app_io.proofs.Written.{Appends-more, within_text}
use Rattle.fs_app_io.proofs.bytes.write_text.Goals as goal

pub loop-written-preserved : goal.loop-written-preserved
loop-written-preserved g c =
    let text = c.args.text.now in
    (within_text text _ _ c.loop-written.invariant.0 c.in-Ok.ensures.bound, Appends-more _ _ _ text _ _ c.loop-written.invariant.1 c.in-Ok.ensures.bytes)

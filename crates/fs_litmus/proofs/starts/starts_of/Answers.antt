use Rattle.fs_litmus.proofs.Ranges.{one_more}
use Rattle.fs_litmus.proofs.starts.starts_of.Goals as goal

pub loop-hart-preserved : goal.loop-hart-preserved
loop-hart-preserved c = one_more _ _ _ _ _ c.in_ok-push.ensures.items c.loop-hart.invariant c.in_ok-registers_of.ensures

use Rattle.fs_litmus.proofs.Ranges.{one_more}
use Rattle.fs_litmus.proofs.starts.words_of.Goals as goal

pub loop-register-preserved : goal.loop-register-preserved
loop-register-preserved c = one_more _ _ _ _ _ c.in_ok-push.ensures.items c.loop-register.invariant c.register_word.ensures

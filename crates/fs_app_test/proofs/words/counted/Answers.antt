use Rattle.std.proofs.Common.{append_assoc}
use Rattle.fs_app_test.proofs.words.counted.Goals as goal

pub returns : goal.returns
returns c = rw (← c.ending-ending.ensures) (simp append_assoc c.format.ensures.ok)

use Rattle.fs_app_plain.proofs.StraightLaw.{forth, back}
use Rattle.fs_app_plain.proofs.loop_laws.plain_means_one_turn.Goals as goal

pub returns-clause-forth : goal.returns-clause-forth
returns-clause-forth c mark t u is_mark is_straight p f is once = forth mark t u is_straight is_mark p f is once

pub returns-clause-back : goal.returns-clause-back
returns-clause-back c mark t u is_mark is_straight p e is marks = back mark t u is_straight is_mark p e is marks

use Rattle.fs_app_plain.proofs.LeftOut.{left_out}
use Rattle.fs_app_plain.proofs.loop_laws.idle_turns_can_be_left_out.Goals as goal

pub returns : goal.returns
returns c = left_out

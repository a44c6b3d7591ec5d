use Rattle.fs_app_guarantees.proofs.Mending.{written}
use Rattle.fs_app_guarantees.proofs.audits.mended_is_ruled_out.Goals as goal

pub returns : goal.returns
returns c = written

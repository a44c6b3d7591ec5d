use Rattle.fs_app_audit.proofs.Followed.{lines_ruled_out, ruled_out}
use Rattle.fs_app_audit.proofs.laws.lines_can_be_followed.Goals as goal

pub returns-clause-lines : goal.returns-clause-lines
returns-clause-lines c = lines_ruled_out

pub returns-clause-alike : goal.returns-clause-alike
returns-clause-alike c = ruled_out

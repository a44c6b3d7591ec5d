use Rattle.fs_app_audit.proofs.Followed.{needed}
use Rattle.fs_app_audit.proofs.laws.advised_fences_are_needed.Goals as goal

pub returns : goal.returns
returns c = needed

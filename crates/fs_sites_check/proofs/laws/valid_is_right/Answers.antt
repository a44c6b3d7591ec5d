use Rattle.fs_sites_check.proofs.Right.{right}
use Rattle.fs_sites_check.proofs.laws.valid_is_right.Goals as goal

pub returns : goal.returns
returns c = right

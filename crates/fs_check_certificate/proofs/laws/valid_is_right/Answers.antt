use Rattle.fs_check_certificate.proofs.Covering.{valid-right}
use Rattle.fs_check_certificate.proofs.laws.valid_is_right.Goals as goal

pub returns : goal.returns
returns c = valid-right

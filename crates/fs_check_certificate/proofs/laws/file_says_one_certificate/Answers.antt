use Rattle.fs_check_certificate.proofs.OneFile.{file_once}
use Rattle.fs_check_certificate.proofs.laws.file_says_one_certificate.Goals as goal

pub returns : goal.returns
returns c = file_once

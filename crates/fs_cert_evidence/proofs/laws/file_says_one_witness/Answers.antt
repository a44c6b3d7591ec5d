use Rattle.fs_cert_evidence.proofs.Once.{file-once}
use Rattle.fs_cert_evidence.proofs.laws.file_says_one_witness.Goals as goal

pub returns : goal.returns
returns c = file-once

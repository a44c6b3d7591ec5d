use Rattle.fs_check_certificate.proofs.Bare.{fences-shown}
use Rattle.fs_check_certificate.proofs.Covering.{better-shown}
use Rattle.fs_check_certificate.proofs.laws.fences_have_executions.Goals as goal

pub returns-clause-better : goal.returns-clause-better
returns-clause-better c = better-shown

pub returns-clause-fences : goal.returns-clause-fences
returns-clause-fences c = fences-shown

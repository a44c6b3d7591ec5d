use Rattle.fs_model_worked_examples.proofs.CoherentCertificates.{first, second, first_split, second_split}
use Rattle.fs_model_worked_examples.proofs.certificates.valid_certificates.Goals as goal

pub returns-clause-first : goal.returns-clause-first
returns-clause-first c = first

pub returns-clause-second : goal.returns-clause-second
returns-clause-second c = second

pub returns-clause-first_split : goal.returns-clause-first_split
returns-clause-first_split c = first_split

pub returns-clause-second_split : goal.returns-clause-second_split
returns-clause-second_split c = second_split

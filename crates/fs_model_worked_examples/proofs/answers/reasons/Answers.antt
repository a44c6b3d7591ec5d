use Rattle.fs_model_worked_examples.proofs.Witnesses.{unfenced, fenced, short}
use Rattle.fs_model_worked_examples.proofs.answers.reasons.Goals as goal

pub returns-clause-unfenced : goal.returns-clause-unfenced
returns-clause-unfenced c = unfenced

pub returns-clause-fenced : goal.returns-clause-fenced
returns-clause-fenced c = fenced

pub returns-clause-short : goal.returns-clause-short
returns-clause-short c = short

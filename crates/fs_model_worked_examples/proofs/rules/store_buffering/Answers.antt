use Rattle.fs_model_worked_examples.proofs.StoreBuffering.{allowed, refused}
use Rattle.fs_model_worked_examples.proofs.rules.store_buffering.Goals as goal

pub returns-clause-allowed : goal.returns-clause-allowed
returns-clause-allowed c = allowed

pub returns-clause-refused : goal.returns-clause-refused
returns-clause-refused c = refused

use Rattle.std.proofs.Common.{refl}
use Rattle.fs_model_worked_examples.proofs.rows.locks.Goals as goal

pub returns-clause-spinlock : goal.returns-clause-spinlock
returns-clause-spinlock c = λ b. refl

pub returns-clause-one_missing : goal.returns-clause-one_missing
returns-clause-one_missing c = λ b. refl

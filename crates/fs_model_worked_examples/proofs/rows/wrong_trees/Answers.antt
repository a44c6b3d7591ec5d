use Rattle.std.proofs.Common.{refl}
use Rattle.fs_model_worked_examples.proofs.rows.wrong_trees.Goals as goal

pub returns-clause-no_fence : goal.returns-clause-no_fence
returns-clause-no_fence c = λ b. refl

pub returns-clause-one_fence : goal.returns-clause-one_fence
returns-clause-one_fence c = λ b. refl

pub returns-clause-weak_fence : goal.returns-clause-weak_fence
returns-clause-weak_fence c = λ b. refl

pub returns-clause-weak_reads : goal.returns-clause-weak_reads
returns-clause-weak_reads c = λ b. refl

pub returns-clause-too_few : goal.returns-clause-too_few
returns-clause-too_few c = λ b. refl

pub returns-clause-too_many : goal.returns-clause-too_many
returns-clause-too_many c = λ b. refl

pub returns-clause-none : goal.returns-clause-none
returns-clause-none c = λ b. refl

pub returns-clause-choice : goal.returns-clause-choice
returns-clause-choice c = λ b. refl

pub returns-clause-case : goal.returns-clause-case
returns-clause-case c = λ b. refl

pub returns-clause-turned : goal.returns-clause-turned
returns-clause-turned c = λ b. refl

pub returns-clause-other_address : goal.returns-clause-other_address
returns-clause-other_address c = λ b. refl

pub returns-clause-itself : goal.returns-clause-itself
returns-clause-itself c = λ b. refl

pub returns-clause-no_step : goal.returns-clause-no_step
returns-clause-no_step c = λ b. refl

pub returns-clause-not_again : goal.returns-clause-not_again
returns-clause-not_again c = λ b. refl

use Rattle.std.proofs.Common.{refl}
use Rattle.fs_model_worked_examples.proofs.rows.splits.Goals as goal

pub returns-clause-own_first : goal.returns-clause-own_first
returns-clause-own_first c = λ b. refl

pub returns-clause-own_alone : goal.returns-clause-own_alone
returns-clause-own_alone c = λ b. refl

pub returns-clause-known : goal.returns-clause-known
returns-clause-known c = λ b. refl

pub returns-clause-other_swap : goal.returns-clause-other_swap
returns-clause-other_swap c = λ b. refl

pub returns-clause-other_store : goal.returns-clause-other_store
returns-clause-other_store c = λ b. refl

pub returns-clause-no_load : goal.returns-clause-no_load
returns-clause-no_load c = λ b. refl

pub returns-clause-load_behind : goal.returns-clause-load_behind
returns-clause-load_behind c = λ b. refl

pub returns-clause-by_choice : goal.returns-clause-by_choice
returns-clause-by_choice c = λ b. refl

pub returns-clause-denial : goal.returns-clause-denial
returns-clause-denial c = λ b. refl

pub returns-clause-one_of_two : goal.returns-clause-one_of_two
returns-clause-one_of_two c = λ b. refl

pub returns-clause-not_two : goal.returns-clause-not_two
returns-clause-not_two c = λ b. refl

pub returns-clause-may_store : goal.returns-clause-may_store
returns-clause-may_store c = λ b. refl

pub returns-clause-may_not_store : goal.returns-clause-may_not_store
returns-clause-may_not_store c = λ b. refl

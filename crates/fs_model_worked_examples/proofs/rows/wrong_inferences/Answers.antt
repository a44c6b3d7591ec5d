use Rattle.std.proofs.Common.{refl}
use Rattle.fs_model_worked_examples.proofs.rows.wrong_inferences.Goals as goal

pub returns-clause-no_access : goal.returns-clause-no_access
returns-clause-no_access c = λ b. refl

pub returns-clause-no_hart : goal.returns-clause-no_hart
returns-clause-no_hart c = λ b. refl

pub returns-clause-no_load : goal.returns-clause-no_load
returns-clause-no_load c = λ b. refl

pub returns-clause-two_places : goal.returns-clause-two_places
returns-clause-two_places c = λ b. refl

pub returns-clause-itself : goal.returns-clause-itself
returns-clause-itself c = λ b. refl

pub returns-clause-may_fail : goal.returns-clause-may_fail
returns-clause-may_fail c = λ b. refl

pub returns-clause-decided : goal.returns-clause-decided
returns-clause-decided c = λ b. refl

pub returns-clause-turned : goal.returns-clause-turned
returns-clause-turned c = λ b. refl

pub returns-clause-atom : goal.returns-clause-atom
returns-clause-atom c = λ b. refl

pub returns-clause-no_condition : goal.returns-clause-no_condition
returns-clause-no_condition c = λ b. refl

pub returns-clause-no_filter : goal.returns-clause-no_filter
returns-clause-no_filter c = λ b. refl

pub returns-clause-later : goal.returns-clause-later
returns-clause-later c = λ b. refl

pub returns-clause-foreign : goal.returns-clause-foreign
returns-clause-foreign c = λ b. refl

pub returns-clause-undecided : goal.returns-clause-undecided
returns-clause-undecided c = λ b. refl

pub returns-clause-unknown : goal.returns-clause-unknown
returns-clause-unknown c = λ b. refl

pub returns-clause-returned : goal.returns-clause-returned
returns-clause-returned c = λ b. refl

pub returns-clause-own_hart : goal.returns-clause-own_hart
returns-clause-own_hart c = λ b. refl

pub returns-clause-in_order : goal.returns-clause-in_order
returns-clause-in_order c = λ b. refl

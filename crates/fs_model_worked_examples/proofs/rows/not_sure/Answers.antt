use Rattle.std.proofs.Common.{refl}
use Rattle.fs_model_worked_examples.proofs.rows.not_sure.Goals as goal

pub returns-clause-one_source : goal.returns-clause-one_source
returns-clause-one_source c = λ b. refl

pub returns-clause-both_sources : goal.returns-clause-both_sources
returns-clause-both_sources c = λ b. refl

pub returns-clause-both_initial : goal.returns-clause-both_initial
returns-clause-both_initial c = λ b. refl

pub returns-clause-not_executed : goal.returns-clause-not_executed
returns-clause-not_executed c = λ b. refl

pub returns-clause-executed : goal.returns-clause-executed
returns-clause-executed c = λ b. refl

pub returns-clause-no_acquire : goal.returns-clause-no_acquire
returns-clause-no_acquire c = λ b. refl

pub returns-clause-no_hart : goal.returns-clause-no_hart
returns-clause-no_hart c = λ b. refl

pub returns-clause-no_order : goal.returns-clause-no_order
returns-clause-no_order c = λ b. refl

pub returns-clause-load : goal.returns-clause-load
returns-clause-load c = λ b. refl

pub returns-clause-returned : goal.returns-clause-returned
returns-clause-returned c = λ b. refl

pub returns-clause-unknown : goal.returns-clause-unknown
returns-clause-unknown c = λ b. refl

pub returns-clause-other_place : goal.returns-clause-other_place
returns-clause-other_place c = λ b. refl

pub returns-clause-one_place : goal.returns-clause-one_place
returns-clause-one_place c = λ b. refl

pub returns-clause-store_behind : goal.returns-clause-store_behind
returns-clause-store_behind c = λ b. refl

pub returns-clause-store_there : goal.returns-clause-store_there
returns-clause-store_there c = λ b. refl

pub returns-clause-own_store : goal.returns-clause-own_store
returns-clause-own_store c = λ b. refl

pub returns-clause-no_amo : goal.returns-clause-no_amo
returns-clause-no_amo c = λ b. refl

pub returns-clause-amo : goal.returns-clause-amo
returns-clause-amo c = λ b. refl

pub returns-clause-other_hart : goal.returns-clause-other_hart
returns-clause-other_hart c = λ b. refl

pub returns-clause-through_initial : goal.returns-clause-through_initial
returns-clause-through_initial c = λ b. refl

pub returns-clause-through_own : goal.returns-clause-through_own
returns-clause-through_own c = λ b. refl

pub returns-clause-through_other : goal.returns-clause-through_other
returns-clause-through_other c = λ b. refl

pub returns-clause-may_not_pair : goal.returns-clause-may_not_pair
returns-clause-may_not_pair c = λ b. refl

pub returns-clause-pair : goal.returns-clause-pair
returns-clause-pair c = λ b. refl

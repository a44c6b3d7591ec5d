use Rattle.std.proofs.Common.{refl}
use Rattle.fs_model_worked_examples.proofs.rows.right_trees.Goals as goal

pub returns-clause-store_buffering : goal.returns-clause-store_buffering
returns-clause-store_buffering c = λ b. refl

pub returns-clause-cases : goal.returns-clause-cases
returns-clause-cases c = λ b. refl

pub returns-clause-message_passing : goal.returns-clause-message_passing
returns-clause-message_passing c = λ b. refl

pub returns-clause-for_all : goal.returns-clause-for_all
returns-clause-for_all c = λ b. refl

pub returns-clause-coherent_reads : goal.returns-clause-coherent_reads
returns-clause-coherent_reads c = λ b. refl

pub returns-clause-between : goal.returns-clause-between
returns-clause-between c = λ b. refl

pub returns-clause-behind : goal.returns-clause-behind
returns-clause-behind c = λ b. refl

pub returns-clause-branch : goal.returns-clause-branch
returns-clause-branch c = λ b. refl

pub returns-clause-executed : goal.returns-clause-executed
returns-clause-executed c = λ b. refl

pub returns-clause-two_swaps : goal.returns-clause-two_swaps
returns-clause-two_swaps c = λ b. refl

pub returns-clause-own_store : goal.returns-clause-own_store
returns-clause-own_store c = λ b. refl

pub returns-clause-last_word : goal.returns-clause-last_word
returns-clause-last_word c = λ b. refl

pub returns-clause-again : goal.returns-clause-again
returns-clause-again c = λ b. refl

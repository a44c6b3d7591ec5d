use Rattle.fs_app_plain.proofs.Same.{forth, back, same_allowed}
use Rattle.fs_app_plain.proofs.width_laws.wide_executions_are_extended.Goals as goal

pub returns-clause-forth : goal.returns-clause-forth
returns-clause-forth c t p e test no_fault exact is = forth t test no_fault exact p e is

pub returns-clause-back : goal.returns-clause-back
returns-clause-back c t p e test no_fault exact is = back t test no_fault exact p e is

pub returns-clause-allowed : goal.returns-clause-allowed
returns-clause-allowed c t p test no_fault exact = same_allowed t test no_fault exact p

use Rattle.fs_model_laws.proofs.FencedPrograms.{fenced_alike, cheapest_alike, none_alike, tested_alike}
use Rattle.fs_model_laws.proofs.joined.solve_means.Goals as goal

pub returns-clause-fenced : goal.returns-clause-fenced
returns-clause-fenced c = fenced_alike

pub returns-clause-cheapest : goal.returns-clause-cheapest
returns-clause-cheapest c = cheapest_alike

pub returns-clause-none : goal.returns-clause-none
returns-clause-none c = none_alike

pub returns-clause-tested : goal.returns-clause-tested
returns-clause-tested c = tested_alike

use Rattle.fs_model_worked_examples.proofs.EarlyExecutions.{first_shows, second_shows, first_keeps, second_keeps, both_apart, both_bound, cheap_allows}
use Rattle.fs_model_worked_examples.proofs.early.early_reads.Goals as goal

pub returns-clause-first_shows : goal.returns-clause-first_shows
returns-clause-first_shows c = first_shows

pub returns-clause-second_shows : goal.returns-clause-second_shows
returns-clause-second_shows c = second_shows

pub returns-clause-first_keeps : goal.returns-clause-first_keeps
returns-clause-first_keeps c = first_keeps

pub returns-clause-second_keeps : goal.returns-clause-second_keeps
returns-clause-second_keeps c = second_keeps

pub returns-clause-apart : goal.returns-clause-apart
returns-clause-apart c = both_apart

pub returns-clause-bound : goal.returns-clause-bound
returns-clause-bound c = both_bound

pub returns-clause-cheap : goal.returns-clause-cheap
returns-clause-cheap c = cheap_allows

use Rattle.fs_model_laws.proofs.EmptiedExecutions.{followed_ruled_out}
use Rattle.fs_model_laws.proofs.FollowedLines.{is_followed}
use Rattle.fs_model_laws.proofs.in_place.followed_lines_rule_out.Goals as goal

pub returns-clause-alike : goal.returns-clause-alike
returns-clause-alike c = followed_ruled_out

pub returns-clause-lines : goal.returns-clause-lines
returns-clause-lines c t p lines weaker = is_followed lines p t weaker

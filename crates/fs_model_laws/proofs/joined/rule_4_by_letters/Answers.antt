use Rattle.fs_model_laws.proofs.ByLetters.{between-alike}
use Rattle.fs_model_laws.proofs.joined.rule_4_by_letters.Goals as goal

pub returns-clause-between : goal.returns-clause-between
returns-clause-between c = between-alike

use Rattle.fs_litmus_tokens.specs.Tokens.{views}
use Rattle.fs_litmus_syntax.proofs.ConditionAnswering.{means, only, stops}
use Rattle.fs_litmus_syntax.proofs.reader.read_condition.Goals as goal

pub returns-clause-means : goal.returns-clause-means
returns-clause-means c = means (views c.args.tokens.now) c.read_all.result c.read_all.ensures

pub returns-clause-only : goal.returns-clause-only
returns-clause-only c = only (views c.args.tokens.now) c.read_all.result c.read_all.ensures

pub returns-clause-stops : goal.returns-clause-stops
returns-clause-stops c = stops (views c.args.tokens.now) c.read_all.result c.read_all.ensures

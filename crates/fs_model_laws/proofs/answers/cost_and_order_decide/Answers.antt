use Rattle.fs_model_laws.proofs.Ranking.{by_cost_and_order}
use Rattle.fs_model_laws.proofs.answers.cost_and_order_decide.Goals as goal

pub returns : goal.returns
returns c = by_cost_and_order

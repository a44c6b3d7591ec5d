use Rattle.fs_model_laws.proofs.Ranked.{better-irreflexive, better-transitive, better-total, one_cheapest}
use Rattle.fs_model_laws.proofs.order.better_is_total_order.Goals as goal

pub returns-clause-irreflexive : goal.returns-clause-irreflexive
returns-clause-irreflexive c = better-irreflexive

pub returns-clause-transitive : goal.returns-clause-transitive
returns-clause-transitive c = better-transitive

pub returns-clause-total : goal.returns-clause-total
returns-clause-total c = better-total

pub returns-clause-one : goal.returns-clause-one
returns-clause-one c = one_cheapest

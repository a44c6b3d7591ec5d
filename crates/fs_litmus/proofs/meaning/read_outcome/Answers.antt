use Rattle.fs_model.specs.Condition.{condition_of}
use Rattle.fs_litmus.proofs.There.{not_missing}
use Rattle.fs_litmus.proofs.meaning.read_outcome.Goals as goal

pub returns-in-None-clause-deep : goal.returns-in-None-clause-deep
returns-in-None-clause-deep c =
    λ _ s m there. absurd (not_missing c.args.columns c.args.names.now c.args.condition.now c.in-Some.tree s condition_of c.in_ok-outcome.field-0 c.in-Some.is m there c.in-None.is c.in_ok-outcome.ensures.value)

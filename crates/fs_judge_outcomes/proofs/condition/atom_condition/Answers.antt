use Rattle.std.proofs.Common.{sym, subst}
use Rattle.fs_model.specs.Condition.{condition_of, SpeaksOf}
use Rattle.fs_model.specs.declared.outcome.Outcome.{Outcome}
use Rattle.fs_judge_outcomes.proofs.condition.atom_condition.Goals as goal

pub returns-in_ok-new-clause-speaks : goal.returns-in_ok-new-clause-speaks
returns-in_ok-new-clause-speaks c = λ harts locations place.
    subst (λ (o : Outcome). SpeaksOf harts locations (condition_of o)) (sym c.in_ok-new.ensures.ok)
    (c.ends_with-condition.ensures.speaks harts locations place)

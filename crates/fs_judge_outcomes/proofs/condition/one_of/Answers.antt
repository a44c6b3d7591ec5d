use Rattle.std.proofs.Common.{sym, subst}
use Rattle.std.proofs.lemmas.Result.{IfOk-weaker}
use Rattle.fs_judge_outcomes.specs.States.{IsPlaceOf}
use Rattle.fs_judge_outcomes.proofs.condition.one_of.Goals as goal

pub returns-clause-speaks : goal.returns-clause-speaks
returns-clause-speaks c =
    IfOk-weaker c.atom_condition.result _ _
    (λ made speaks harts locations all. speaks harts locations
    (subst (IsPlaceOf harts locations) (sym c.index-places-atom.is) (all c.args.atom.now.index c.index-places-atom.result c.requires)))
    c.atom_condition.ensures.speaks

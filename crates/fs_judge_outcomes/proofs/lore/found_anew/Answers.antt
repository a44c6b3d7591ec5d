use Rattle.std.proofs.Common.{subst}
use Rattle.fs_model.specs.declared.test.Test.{Test}
use Rattle.fs_judge_outcomes.specs.inner.Parts.{IsFoundIn}
use Rattle.fs_judge_outcomes.proofs.Asking.{at_some}
use Rattle.fs_judge_outcomes.proofs.lore.found_anew.Goals as goal

pub returns-in-Some-clause-some : goal.returns-in-Some-clause-some
returns-in-Some-clause-some c =
    subst (λ (t : Test). IsFoundIn t c.args.placement.now c.args.places.now c.args.part.now c.in-Some.found.state)
    c.test.ensures.value (at_some c.in-Some.is _ c.in_ok-found.ensures.ok)

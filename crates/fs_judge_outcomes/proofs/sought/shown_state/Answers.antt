use Rattle.std.proofs.Common.{subst}
use Rattle.fs_model.specs.declared.test.Test.{Test}
use Rattle.fs_judge_outcomes.specs.inner.Parts.{EndsIn}
use Rattle.fs_judge_outcomes.proofs.Asking.{at_some}
use Rattle.fs_judge_outcomes.proofs.sought.shown_state.Goals as goal

pub returns-clause-some : goal.returns-clause-some
returns-clause-some c =
    subst (λ (t : Test). EndsIn t c.args.placement.now c.args.places.now c.in-Some.found.state.witness.witness c.in-Some.found.state.words)
    c.test.ensures.value (at_some c.in-Some.is _ c.in_ok-found-in-Allowed.ensures.some)

use Rattle.std.proofs.Common.{Option, sym, subst}
use Rattle.std.specs.Prelude.{IfSome}
use Rattle.fs_cert_evidence.specs.Shown.{ShowsAs}
use Rattle.fs_check.specs.Ordered.{execution_in}
use Rattle.fs_check.specs.declared.ordered.OrderedCandidate.{OrderedCandidate}
use Rattle.fs_judge_outcomes.proofs.ended.ending_of.Goals as goal

pub returns-clause-some : goal.returns-clause-some
returns-clause-some c = λ w keeps.
    let e = execution_in c.in-Some.ordered in
    let shows : ShowsAs c.args.test.now c.args.placement.now w e =
    subst (λ (found : Option OrderedCandidate). IfSome found (λ o. ShowsAs c.args.test.now c.args.placement.now w (execution_in o)))
    c.in-Some.is (c.in_ok-ordered.ensures.some w keeps) in
    (e, shows.0, shows.1, sym c.in_ok-words.ensures)

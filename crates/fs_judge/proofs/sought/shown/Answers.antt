use Rattle.std.proofs.Common.{Option, IfSome, subst}
use Rattle.fs_model.specs.Witness.{Witness}
use Rattle.fs_cert_evidence.specs.Shown.{ShowsAs}
use Rattle.fs_check.specs.declared.ordered.OrderedCandidate.{OrderedCandidate}
use Rattle.fs_check.specs.Ordered.{execution_in}
use Rattle.fs_judge.proofs.sought.shown.Goals as goal

pub of-requires-clause-shows : goal.of-requires-clause-shows
of-requires-clause-shows c =
    let t = c.test-test.result.now in
    let p = c.args.placement.now in
    let w : Witness = record { choices = c.args.execution.choices; order = c.args.execution.order } in
    let shows = subst (λ (found : Option OrderedCandidate). IfSome found (λ o. ShowsAs t p w (execution_in o))) c.in-Some.is
    (c.in_ok-ordered.ensures.some w c.in_ok-file.ensures) in
    (p, shows.1)

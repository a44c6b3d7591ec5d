use Rattle.fs_check_certificate.proofs.Against.{held_verdict}
use Rattle.fs_check_certificate.proofs.held.Held.first_reason.Goals as goal

pub returns-in-Inferred-clause-ok : goal.returns-in-Inferred-clause-ok
returns-in-Inferred-clause-ok c said holds =
    held_verdict c.args.self.now c.in-Inferred.basis c.in-Inferred.inferences c.args.placement.now said
    c.reason_against.result c.in-Inferred.is holds c.reason_against.ensures.exact

use Rattle.fs_check_certificate.proofs.certificate_verdict.check_certificate.Goals as goal

pub returns-clause-ok : goal.returns-clause-ok
returns-clause-ok c said keeps =
    c.verdict_of.ensures c.args.test.value c.args.prices.now said c.in_ok-judgement.ensures.listable keeps
    (c.in_ok-judgement.ensures.ok said keeps)

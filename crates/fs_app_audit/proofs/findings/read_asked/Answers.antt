use Rattle.std.proofs.Common.{◌∙◌, ap, sym, subst}
use Rattle.fs_model.specs.declared.test.Test.{Test}
use Rattle.fs_model.specs.Test.{IsBounded}
use Rattle.fs_app_audit.proofs.Purposes.{bounded_asked, codes_asked}
use Rattle.fs_app_audit.proofs.findings.read_asked.Goals as goal

pub returns-clause-codes : goal.returns-clause-codes
returns-clause-codes c = λ t reads.
    ap (λ (u : Test). u.codes) (c.in_ok-new.ensures.ok ∙ c.in_ok-counted.ensures)
    ∙ codes_asked c.args.purpose _ t (c.in_ok-test.ensures.once t reads)

pub returns-clause-bounded : goal.returns-clause-bounded
returns-clause-bounded c =
    subst IsBounded (sym (c.in_ok-new.ensures.ok ∙ c.in_ok-counted.ensures)) (bounded_asked c.args.purpose _ c.in_ok-test.ensures.test.bounded)

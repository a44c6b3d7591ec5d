use Rattle.std.proofs.Common.{◌∙◌, All, sym, subst}
use Rattle.fs_model.specs.declared.test.Test.{Test}
use Rattle.fs_model.specs.Test.{IsBounded, IsSame, IsStart}
use Rattle.fs_model_laws.specs.InPlace.{emptied}
use Rattle.fs_app_audit.proofs.Bare.{bounded_emptied}
use Rattle.fs_app_audit.proofs.Purposes.{same_emptied}
use Rattle.fs_app_audit.proofs.in_place.read_emptied.Goals as goal

pub returns-clause-same : goal.returns-clause-same
returns-clause-same c = λ t reads.
    subst (λ (u : Test). IsSame u (emptied t)) (sym (c.in_ok-new.ensures.ok ∙ c.in_ok-made.ensures))
    (same_emptied _ t (c.in_ok-test.ensures.once t reads))

pub returns-clause-bounded : goal.returns-clause-bounded
returns-clause-bounded c =
    subst IsBounded (sym (c.in_ok-new.ensures.ok ∙ c.in_ok-made.ensures)) (bounded_emptied _ c.in_ok-test.ensures.test.bounded)

pub returns-clause-starts : goal.returns-clause-starts
returns-clause-starts c =
    subst (λ (u : Test). All IsStart u.starts) (sym (c.in_ok-new.ensures.ok ∙ c.in_ok-made.ensures))
    c.in_ok-test.ensures.test.registers

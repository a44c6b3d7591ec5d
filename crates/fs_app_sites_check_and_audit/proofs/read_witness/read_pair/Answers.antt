use Rattle.std.proofs.Common.{sym, subst}
use Rattle.std.proofs.lemmas.Result.{IfOk-weaker}
use Rattle.fs_cert_evidence.specs.WitnessFile.{IsWitnessValue}
use Rattle.fs_app_sites_check_and_audit.proofs.Parts.{said_by, says_both}
use Rattle.fs_app_sites_check_and_audit.proofs.read_witness.read_pair.Goals as goal

pub returns-clause-ok : goal.returns-clause-ok
returns-clause-ok c =
    IfOk-weaker c.witness_in.result _ _
    (λ kept found. (found.0, said_by _ _ found.0 (subst (λ d. IsWitnessValue d found.0) c.in_ok-pair.ensures found.1), found.2))
    c.witness_in.ensures.ok

pub returns-clause-bad : goal.returns-clause-bad
returns-clause-bad c =
    λ is w h. c.witness_in.ensures.bad is w
    (subst (λ d. IsWitnessValue d w) (sym c.in_ok-pair.ensures) (says_both _ _ w h))

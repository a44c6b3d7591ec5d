use Rattle.std.proofs.Common.{sym, refl}
use Rattle.serde_json.specs.View.{view}
use Rattle.fs_kinds.specs.declared.fault.Fault.TheVariants.{BadCertificate}
use Rattle.fs_cert_json.proofs.Handed.{fault-handed}
use Rattle.fs_app_sites_check_and_audit.proofs.Parts.{parts_at}
use Rattle.fs_app_sites_check_and_audit.proofs.read_witness.read_witness.Goals as goal

pub returns-in_default-clause-bad : goal.returns-in_default-clause-bad
returns-in_default-clause-bad c =
    λ _ w h. c.in_default.ensures h.lists h.names h.number h.parts

pub returns-in_default-number_in-clause-bad : goal.returns-in_default-number_in-clause-bad
returns-in_default-number_in-clause-bad c =
    λ _ w h.
    let none = c.in_default-number_in.ensures in
    let some = (parts_at (view c.args.value.now) _ _ _ w c.in-Some.ensures h).of_test in
    absurd (cc)

pub returns-in_err-file-clause-bad : goal.returns-in_err-file-clause-bad
returns-in_err-file-clause-bad c =
    fault-handed c.from_residual.result _ BadCertificate c.from_residual.ensures.1 (λ is w h.
    c.in_err-file.ensures.bad is w.witness (parts_at (view c.args.value.now) _ _ _ w c.in-Some.ensures h).of_witness)

pub returns-clause-ok : goal.returns-clause-ok
returns-clause-ok c =
    let file = c.in_ok-file.ensures.ok in (
      record { test = c.in-Some-number_in.test; witness = file.0 },
      record {
        lists = _;
        names = _;
        number = _;
        parts = c.in-Some.ensures;
        says = file.1;
        test = sym c.in-Some-number_in.ensures;
      },
      record { test = refl; keeps = file.2 },
    )

use Rattle.std.proofs.Common.{refl, subst, map}
use Rattle.serde_json.specs.View.{view}
use Rattle.fs_kinds.specs.declared.fault.Fault.TheVariants.{BadCertificate}
use Rattle.fs_cert_evidence.specs.CertificateFile.{AreCycles, IsItem}
use Rattle.fs_cert_evidence.specs.WitnessFile.{IsArrayOf}
use Rattle.fs_cert_json.specs.Kept.{answer_of, item_of, version_of}
use Rattle.fs_cert_json.proofs.Handed.{fault-handed}
use Rattle.fs_cert_json.proofs.Parts.{parts_at, sections_in, same-version}
use Rattle.fs_cert_json.proofs.read.read_certificate.Goals as goal

pub returns-in_default-clause-bad : goal.returns-in_default-clause-bad
returns-in_default-clause-bad c =
    λ _ said h. c.in_default.ensures h.answer h.cycles h.tree h.version h.witnesses (sections_in (view c.args.value.now) said h)

pub returns-in_err-read_cycles-clause-bad : goal.returns-in_err-read_cycles-clause-bad
returns-in_err-read_cycles-clause-bad c =
    fault-handed c.from_residual-in_err-read_cycles.result _ BadCertificate c.from_residual-in_err-read_cycles.ensures.1 (λ is said h.
    let parts = parts_at (view c.args.value.now) _ _ _ _ _ said c.in-Some.ensures h in
    let same = same-version (view c.in-Some.sections.version.now) said.version (version_of c.in-Some-version_in.version) parts.of_version c.in-Some-version_in.ensures in
    c.in_err-read_cycles.ensures.bad is said.cycles (subst (λ v. AreCycles v (view c.in-Some.sections.cycles.now)
    said.cycles) same parts.of_cycles))

pub returns-in_err-read_tree-clause-bad : goal.returns-in_err-read_tree-clause-bad
returns-in_err-read_tree-clause-bad c =
    fault-handed c.from_residual-in_err-read_tree.result _ BadCertificate c.from_residual-in_err-read_tree.ensures.1 (λ is said h.
    let parts = parts_at (view c.args.value.now) _ _ _ _ _ said c.in-Some.ensures h in
    let same = same-version (view c.in-Some.sections.version.now) said.version (version_of c.in-Some-version_in.version) parts.of_version c.in-Some-version_in.ensures in
    c.in_err-read_tree.ensures.bad is said.tree (subst (λ v. IsArrayOf (IsItem v) (view c.in-Some.sections.tree.now) said.tree) same parts.of_tree))

pub returns-in_err-read_witnesses-clause-bad : goal.returns-in_err-read_witnesses-clause-bad
returns-in_err-read_witnesses-clause-bad c =
    fault-handed c.from_residual-in_err-read_witnesses.result _ BadCertificate c.from_residual-in_err-read_witnesses.ensures.1 (λ is said h.
    let parts = parts_at (view c.args.value.now) _ _ _ _ _ said c.in-Some.ensures h in
    c.in_err-read_witnesses.ensures.bad is said.witnesses parts.of_witnesses)

pub returns-clause-ok : goal.returns-clause-ok
returns-clause-ok c =
    let has = c.in-Some.ensures in
    let cycles = c.in_ok-read_cycles.ensures.ok in
    let witnesses = c.in_ok-read_witnesses.ensures.ok in (
      record {
        version = version_of c.in-Some-version_in.version;
        answer = answer_of c.in_ok-read_answer.field-0;
        cycles = cycles.0;
        tree = map item_of c.in_ok-read_tree.field-0;
        witnesses = witnesses.0;
      },
      record {
        answer = _;
        cycles = _;
        tree = _;
        version = _;
        witnesses = _;
        keys = has.keys;
        at_answer = has.at_answer;
        at_cycles = has.at_cycles;
        at_tree = has.at_tree;
        at_version = has.at_version;
        at_witnesses = has.at_witnesses;
        says_answer = c.in_ok-read_answer.ensures.ok;
        says_cycles = cycles.1;
        says_tree = c.in_ok-read_tree.ensures.ok;
        says_version = c.in-Some-version_in.ensures;
        says_witnesses = witnesses.1;
      },
      record { version = refl; answer = refl; cycles = cycles.2; tree = refl; witnesses = witnesses.2 },
    )

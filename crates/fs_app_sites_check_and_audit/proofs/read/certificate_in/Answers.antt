use Rattle.std.proofs.Common.{refl, map, rules}
use Rattle.serde_json.specs.View.{view}
use Rattle.fs_kinds.specs.declared.fault.Fault.TheVariants.{BadCertificate}
use Rattle.fs_cert_evidence.specs.Inferences.{inference_of}
use Rattle.fs_cert_json.specs.Kept.{answer_of}
use Rattle.fs_cert_json.proofs.Handed.{fault-handed}
use Rattle.fs_app_sites_check_and_audit.proofs.Parts.{sections_at}
use Rattle.fs_app_sites_check_and_audit.proofs.read.certificate_in.Goals as goal

pub returns-in_default-clause-bad : goal.returns-in_default-clause-bad
returns-in_default-clause-bad c =
    λ _ said h. c.in_default.ensures h.answer h.cycles h.tree h.version h.witnesses h.sections

pub returns-in_err-read_answer-clause-bad : goal.returns-in_err-read_answer-clause-bad
returns-in_err-read_answer-clause-bad c =
    fault-handed c.from_residual.result _ BadCertificate c.from_residual.ensures.1 (λ is said h.
    c.in_err-read_answer.ensures.bad is said.answer
    (sections_at (view c.args.value.now) _ _ _ _ _ said c.in-Some.ensures h).of_answer)

pub returns-in_err-read_cycles-clause-bad : goal.returns-in_err-read_cycles-clause-bad
returns-in_err-read_cycles-clause-bad c =
    fault-handed c.from_residual-in_err-read_cycles.result _ BadCertificate c.from_residual-in_err-read_cycles.ensures.1
    (λ is said h. c.in_err-read_cycles.ensures.bad is said.cycles
    (sections_at (view c.args.value.now) _ _ _ _ _ said c.in-Some.ensures h).of_cycles)

pub returns-in_err-read_witnesses-clause-bad : goal.returns-in_err-read_witnesses-clause-bad
returns-in_err-read_witnesses-clause-bad c =
    fault-handed c.from_residual-in_err-read_witnesses.result _ BadCertificate
    c.from_residual-in_err-read_witnesses.ensures.1
    (λ is said h. c.in_err-read_witnesses.ensures.bad is said.witnesses
    (sections_at (view c.args.value.now) _ _ _ _ _ said c.in-Some.ensures h).of_witnesses)

pub returns-clause-ok : goal.returns-clause-ok
returns-clause-ok c =
    let witnesses = c.in_ok-read_witnesses.ensures.ok in (
      record {
        answer = answer_of c.in_ok-read_answer.field-0;
        cycles = map (map inference_of) c.in_ok-read_cycles.field-0;
        witnesses = witnesses.0;
      },
      record {
        answer = _;
        cycles = _;
        tree = _;
        version = _;
        witnesses = _;
        sections = c.in-Some.ensures;
        says_answer = c.in_ok-read_answer.ensures.ok;
        says_cycles = c.in_ok-read_cycles.ensures.ok;
        says_tree = c.is_empty.ensures.0 (search rules);
        says_version = c.is_fifth.ensures.0 (search rules);
        says_witnesses = witnesses.1;
      },
      record { answer = refl; cycles = refl; witnesses = witnesses.2 },
    )

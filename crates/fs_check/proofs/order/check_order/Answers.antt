use Rattle.std.proofs.Common.{length, sym, ap, subst}
use Rattle.fs_cert_evidence.specs.WitnessFile.{IsWitnessFile}
use Rattle.fs_cert_evidence.proofs.Handed.{bad-handed}
use Rattle.fs_check.proofs.Verdicts.{whole_of, stopped_of}
use Rattle.fs_check.proofs.order.check_order.Goals as goal

pub returns-in_err-file-clause-bad : goal.returns-in_err-file-clause-bad
returns-in_err-file-clause-bad c =
    bad-handed c.from_residual.result _ c.from_residual.ensures.1 (λ is w h.
    c.in_err-file.ensures.bad is w (subst (λ harts. IsWitnessFile harts c.args.witness.now w) (ap length (sym c.as_slice.ensures)) h))

pub judge_runs-requires-clause-whole : goal.judge_runs-requires-clause-whole
judge_runs-requires-clause-whole c =
    let said = c.in_ok-file.ensures.ok in
    whole_of c.args.test.now c.in_ok-file.file said.0 c.as_slice-2.result.now c.in_ok-traces.field-0 c.in-Whole.traces _ c.as_slice-2.ensures c.in_ok-traces.ensures.ok c.in-Whole.is
    said.2 said.1.lists (ap length c.as_slice.ensures)

pub returns-clause-ok : goal.returns-clause-ok
returns-clause-ok c =
    let said = c.in_ok-file.ensures.ok in (
      said.0,
      subst (λ harts. IsWitnessFile harts c.args.witness.now said.0) (ap length c.as_slice.ensures) said.1,
      stopped_of c.args.test.now c.args.placement.now c.in_ok-file.file said.0 c.as_slice-2.result.now c.in_ok-traces.field-0 c.in-Stopped.reason c.as_slice-2.ensures c.in_ok-traces.ensures.ok
          c.in-Stopped.is said.2,
    )

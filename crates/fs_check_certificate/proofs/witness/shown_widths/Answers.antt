use Rattle.std.proofs.Common.{◌+◌, ◌<◌, ◌≤◌, length, take, sym, subst, arith}
use Rattle.fs_cert_evidence.specs.WitnessFile.{KeepsWitness}
use Rattle.fs_check_certificate.specs.Leaves.{AreShown}
use Rattle.fs_check_certificate.proofs.Keeping.{one_more, all_kept}
use Rattle.fs_check_certificate.proofs.witness.shown_widths.Goals as goal

pub loop-file-preserved : goal.loop-file-preserved
loop-file-preserved c ws keeps =
    let t = c.args.test.now in
    let files = c.args.witnesses.now in
    let i = c.loop-file.file-index in
    let file = c.file-item.result in
    let test = c.loop-file-test.true in
    let within : i < length files = omega arith in
    subst (AreShown t (take (i + 1) ws)) (sym c.in_ok-push.ensures.items)
    (one_more t files ws c.loop-file.shown.items i file c.in_ok-shown_width.field-0 within keeps (c.loop-file.invariant ws keeps)
    (λ w kept. c.in_ok-shown_width.ensures.ok w (subst (λ f. KeepsWitness f w) (sym c.file-item.is) kept)))

pub returns-clause-ok : goal.returns-clause-ok
returns-clause-ok c ws keeps =
    let files = c.args.witnesses.now in
    let test = c.loop-file-test.false in
    let past : length files ≤ c.loop-file.file-index = omega arith in
    all_kept c.args.test.now files ws c.loop-file.shown.items c.loop-file.file-index past keeps (c.loop-file.invariant ws keeps)

use Rattle.std.proofs.Common.{◌≡◌, ◌∙◌, sym, subst, ap, arith, length}
use Rattle.serde_json.specs.View.{view}
use Rattle.fs_cert_evidence.specs.WitnessFile.{IsWitnessValue}
use Rattle.fs_cert_evidence.proofs.Handed.{bad-handed}
use Rattle.fs_cert_evidence.proofs.Once.{value-once}
use Rattle.fs_cert_evidence.proofs.witness.read_witness.Goals as goal

pub returns-in_err-value-clause-bad : goal.returns-in_err-value-clause-bad
returns-in_err-value-clause-bad c =
    bad-handed c.from_residual.result _ c.from_residual.ensures.1 (λ is w h. let some = h.reads in let none = c.in_err-value.ensures.bad is h.utf8 in absurd (cc))

pub returns-in_err-file-clause-bad : goal.returns-in_err-file-clause-bad
returns-in_err-file-clause-bad c =
    bad-handed c.from_residual-in_err-file.result _ c.from_residual-in_err-file.ensures.1 (λ is w h.
    let reads = h.reads in
    let here = c.in_ok-value.ensures.ok.1 in
    let same : h.value ≡ view c.in_ok-value.value = cc in
    c.in_err-file.ensures.bad is w (subst (λ d. IsWitnessValue d w) same h.says))

pub returns-then-as_slice-harts-clause-bad : goal.returns-then-as_slice-harts-clause-bad
returns-then-as_slice-harts-clause-bad c = λ _ w h.
    let reads = h.reads in
    let here = c.in_ok-value.ensures.ok.1 in
    let same : h.value ≡ view c.in_ok-value.value = cc in
    let found = c.in_ok-file.ensures.ok in
    let once = value-once (view c.in_ok-value.value) w found.0 (subst (λ d. IsWitnessValue d w) same h.says) found.1 in
    let count : length c.as_slice.result.now ≡ c.args.harts = ap length (c.as_slice.ensures ∙ (found.2.choices ∙ ap (λ v. v.choices) (sym once))) ∙ h.lists in
    omega (arith, count)

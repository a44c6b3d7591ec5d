use Rattle.std.proofs.Common.{◌∙◌, map, subst}
use Rattle.fs_model.specs.declared.test.Test.{Test}
use Rattle.fs_cert_evidence.specs.Inferences.{inference_of}
use Rattle.fs_values.specs.ThinAir.{CanBeListed}
use Rattle.fs_verdict_laws.proofs.Covering.{forbids}
use Rattle.fs_judge.specs.inner.Findings.{IsSought}
use Rattle.fs_judge.specs.declared.sought.Sought.TheVariants.{Refuted}
use Rattle.fs_judge.proofs.problem.Problem.is_refuted_within.Goals as goal

pub returns-in-Refuted-2-clause-ok : goal.returns-in-Refuted-2-clause-ok
returns-in-Refuted-2-clause-ok c =
    let t = c.args.self.now in
    let p = c.args.placement.now in
    let inferences = c.in-Refuted-2.field-0 in
    let listable : CanBeListed t = subst CanBeListed c.self.view_is c.self.invariant.listable in
    let sought : IsSought t p (Refuted inferences) =
    subst (IsSought t p) c.in-Refuted-2.is
    (subst (λ (u : Test). IsSought u p c.in_ok-refuted.field-0) (c.self.invariant.same ∙ c.self.view_is) c.in_ok-refuted.ensures.ok) in
    λ is. forbids t listable p (map inference_of inferences) sought

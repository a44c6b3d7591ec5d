use Rattle.std.proofs.Common.{map, subst}
use Rattle.std.specs.Prelude.{IfSome}
use Rattle.fs_cert_evidence.specs.Inferences.{inference_of}
use Rattle.fs_cert_evidence.specs.Trees.{IsRefuted}
use Rattle.fs_region_refutation.specs.Subtrees.{AreRefuted}
use Rattle.fs_judge.proofs.sought.is_refuted_by.Goals as goal

pub returns-clause-ok : goal.returns-clause-ok
returns-clause-ok g c holds =
    let t = c.args.basis.now in
    let p = c.args.placement.now in
    let is = map inference_of c.args.refutation.now.inferences in
    subst (λ found. IfSome found (λ left. AreRefuted left → IsRefuted t p is)) c.in-Some.is
    c.in_ok-left.ensures.refuted (c.in_ok-check.ensures holds)

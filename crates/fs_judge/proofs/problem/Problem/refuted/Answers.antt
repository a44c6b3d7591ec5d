use Rattle.std.proofs.Common.{map, subst}
use Rattle.fs_cert_evidence.specs.Inferences.{inference_of}
use Rattle.fs_values.specs.ThinAir.{CanBeListed}
use Rattle.fs_verdict_laws.proofs.Covering.{forbids}
use Rattle.fs_judge.proofs.problem.Problem.refuted.Goals as goal

pub returns-clause-ok : goal.returns-clause-ok
returns-clause-ok c =
    let t = c.args.self.now in
    let p = c.args.placement.now in
    let listable = subst CanBeListed c.self.view_is c.self.invariant.listable in
    c.forbidden.ensures.ok t (record { forbid = c.requires; judged = listable.no_fault })
    (forbids t listable p (map inference_of c.args.inferences) c.requires)

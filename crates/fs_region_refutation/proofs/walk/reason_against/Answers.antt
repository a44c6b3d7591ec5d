use Rattle.std.proofs.Common.{◌∙◌, map, ap}
use Rattle.fs_cert_evidence.specs.Refusals.{first_wrong}
use Rattle.fs_cert_evidence.specs.Inferences.{inference_of}
use Rattle.fs_region_refutation.proofs.walk.reason_against.Goals as goal

pub returns-clause-exact : goal.returns-clause-exact
returns-clause-exact c =
    let t = c.args.basis.now in
    let p = c.args.placement.now in
    let is = map inference_of c.args.inferences.now in
    let roots = c.in_ok-regions.ensures.regions in
    (roots.0, roots.1, c.in_ok-why.ensures ∙ ap (λ rs. first_wrong t p rs is 0) roots.2)

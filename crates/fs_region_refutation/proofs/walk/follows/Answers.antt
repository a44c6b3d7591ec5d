use Rattle.std.proofs.Common.{◌∙◌, ap, sym}
use Rattle.fs_cert_evidence.specs.Trees.{follows}
use Rattle.fs_cert_evidence.specs.declared.inference.Inference.{Inference}
use Rattle.fs_cert_evidence.specs.Inferences.{inference_of}
use Rattle.fs_region_refutation.specs.Views.{region_of}
use Rattle.fs_region_refutation.proofs.walk.follows.Goals as goal

pub returns-in-ByOrder : goal.returns-in-ByOrder
returns-in-ByOrder c =
    c.may_order.ensures c.args.placement.now
    ∙ ap (λ (i : Inference). follows c.args.basis.now c.args.placement.now (region_of c.args.region.now) (inference_of i)) (sym c.in-ByOrder.is)

use Rattle.std.proofs.Common.{◌≡◌, map}
use Rattle.fs_cert_evidence.specs.Refusals.{first_wrong}
use Rattle.fs_cert_evidence.specs.Inferences.{inference_of}
use Rattle.fs_region_refutation.specs.Views.{AreOf}
use Rattle.fs_region_refutation.specs.inner.Stacks.{stacked}
use Rattle.fs_region_refutation.proofs.Walked.{wrong_from}
use Rattle.fs_region_refutation.proofs.walk.reason_from.Given as goal

abbrev pub invariant-loop-index : goal.invariant-loop-index
invariant-loop-index l =
    (wrong_from l.basis l.placement (stacked l.stack.items) (map inference_of l.inferences) l.index
    ≡ first_wrong l.basis l.placement (stacked l.initial.stack.items) (map inference_of l.inferences) 0)
    × AreOf l.basis l.stack.items

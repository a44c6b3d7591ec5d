use Rattle.std.proofs.Common.{◌≡◌, ◌++◌, map}
use Rattle.fs_cert_evidence.specs.Inferences.{inference_of}
use Rattle.fs_region_refutation.specs.Views.{AreOf}
use Rattle.fs_region_refutation.specs.inner.Stacks.{stacked}
use Rattle.fs_app_why.specs.Chains.{chains_of}
use Rattle.fs_app_why.specs.Ends.{ends}
use Rattle.fs_app_why.proofs.Walked.{left_from}
use Rattle.fs_app_why.proofs.walk.chains.Given as goal

-- what was made, and what is left to be made
abbrev pub invariant-loop-index : goal.invariant-loop-index
invariant-loop-index l =
    (l.made.items ++ left_from l.basis l.placement (stacked l.stack.items) l.inferences l.index
    ≡ chains_of l.basis l.placement (ends l.basis (stacked l.initial.stack.items) (map inference_of l.inferences)))
    × AreOf l.basis l.stack.items

use Rattle.std.proofs.Common.{◌≡◌, ◌≤◌, ◌-◌, true, All, map}
use Rattle.std.specs.Prelude.{drop}
use Rattle.fs_cert_evidence.specs.Inferences.{inference_of}
use Rattle.fs_cert_evidence.specs.Trees.{refutes}
use Rattle.fs_region_refutation.specs.declared.subtrees.Subtree.{Subtree}
use Rattle.fs_region_refutation.specs.Subtrees.{IsRefutedBy}
use Rattle.fs_region_refutation.specs.Views.{AreOf, IsOf}
use Rattle.fs_region_refutation.specs.inner.Stacks.{stacked}
use Rattle.fs_region_refutation.proofs.subtrees.small_subtrees.Given as goal

-- where the subtrees so far refute their regions, and the rest does those on the stack, all refute the first ones
abbrev pub invariant-loop-index : goal.invariant-loop-index
invariant-loop-index l =
    (All (IsRefutedBy l.basis l.placement (map inference_of l.inferences)) l.all.items
    → refutes l.basis l.placement (stacked l.stack.items) (drop l.index (map inference_of l.inferences)) ≡ true
    → refutes l.basis l.placement (stacked l.initial.stack.items) (map inference_of l.inferences) ≡ true)
    × (AreOf l.basis l.stack.items
    × (All (λ (subtree : Subtree). IsOf l.basis subtree.region) l.all.items × (l.index ≤ l.count)))

abbrev pub decreases-loop-index : goal.decreases-loop-index
decreases-loop-index l = l.count - l.index

use Rattle.std.proofs.Common.{◌<◌, map, length}
use Rattle.std.specs.List.{AllByRecursion}
use Rattle.fs_cert_json.specs.Kept.{item_of}
use Rattle.fs_cert.specs.inner.Items.{AreSayable}
use Rattle.fs_cert.proofs.Walk.{LeadsTo}
use Rattle.fs_cert.proofs.Weights.{weight}
use Rattle.fs_cert.proofs.preorder.tree_of.Given as goal

-- what covers the parts that are left makes of the items so far a whole tree
abbrev pub invariant-loop-node : goal.invariant-loop-node
invariant-loop-node l = record {
  leads : LeadsTo l.board l.numbers l.pending (map item_of l.items.items);
  there : AllByRecursion (λ k. k < length l.board.board.nodes) l.pending;
  sayable : AreSayable (map item_of l.items.items);
}

-- a node weighs more than all below it
abbrev pub decreases-loop-node : goal.decreases-loop-node
decreases-loop-node l = weight 12 (length l.board.board.nodes) l.pending

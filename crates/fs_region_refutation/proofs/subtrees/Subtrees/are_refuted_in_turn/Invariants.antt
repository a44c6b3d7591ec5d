use Rattle.std.proofs.Common.{◌≡◌, ◌<◌, ◌%◌, ℕ}
use Rattle.std.specs.List.{slice_index_or}
use Rattle.fs_region_refutation.specs.declared.subtrees.Subtree.{Subtree}
use Rattle.fs_region_refutation.specs.Subtrees.{IsRefutedIn}
use Rattle.fs_region_refutation.proofs.subtrees.Subtrees.are_refuted_in_turn.Given as goal

abbrev pub invariant-loop-number : goal.invariant-loop-number
invariant-loop-number l =
    (k : ℕ) (d : Subtree) → k < l.number → k % l.workers ≡ l.worker → IsRefutedIn l.self (slice_index_or l.self.all.items k d)

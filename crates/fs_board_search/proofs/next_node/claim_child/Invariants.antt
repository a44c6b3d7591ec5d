use Rattle.std.proofs.Common.{vec_len}
use Rattle.fs_board_search.specs.inner.Steps.{Stays}
use Rattle.fs_board_search.proofs.next_node.claim_child.Given as goal

abbrev pub invariant-loop-child : goal.invariant-loop-child
invariant-loop-child l = Stays l.initial.board l.board

abbrev pub decreases-loop-child : goal.decreases-loop-child
decreases-loop-child l = vec_len l.children

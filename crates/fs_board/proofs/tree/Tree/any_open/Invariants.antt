use Rattle.std.proofs.Common.{◌≡◌, ◌-◌, vec_len}
use Rattle.fs_board.specs.Counts.{IsCounted}
use Rattle.std.specs.Arc.{arc_value}
use Rattle.std.specs.Prelude.{option_map, map}
use Rattle.fs_board.specs.Growth.{Tree}
use Rattle.fs_board.proofs.tree.Tree.any_open.Given as goal

abbrev pub invariant-loop-self : goal.invariant-loop-self
invariant-loop-self l = record {
  same : (let t : Tree = record { nodes = l.self-inside.nodes.items; bound = option_map arc_value l.self-inside.bound; witnesses = map arc_value l.self-inside.witnesses.items; limit = l.self-inside.limit } in t) ≡ l.fn.self;
  counted : IsCounted l.self-inside.nodes.items l.self-inside.next l.self-inside.free l.self-inside.held;
}

abbrev pub decreases-loop-self : goal.decreases-loop-self
decreases-loop-self l = vec_len l.self-inside.nodes - l.self-inside.next

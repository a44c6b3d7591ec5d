use Rattle.std.proofs.Common.{arith}
use Rattle.std.proofs.lemmas.Option.{slice_get_within}
use Rattle.fs_board_offers.specs.Board.{is_open}
use Rattle.fs_board.proofs.Children.{next_fits}
use Rattle.fs_board.proofs.Counts.{none_passes}
use Rattle.fs_board.proofs.tree.Tree.any_open.Goals as goal

pub returns-clause-none : goal.returns-clause-none
returns-clause-none c =
    let ns = c.loop-self.self-inside.nodes.items in
    let len = c.len.ensures in
    let past = c.loop-self-test.false in
    let ok = c.loop-self.self-inside.nodes.ok in
    none_passes is_open ns (λ k n at. c.loop-self.invariant.counted.passed k n (let w = slice_get_within ns k n at in omega arith) at)

pub overflow_add-self : goal.overflow_add-self
overflow_add-self c =
    let nodes = c.loop-self.self-inside.nodes in
    next_fits c.loop-self.self-inside.next c.len.result nodes.len nodes.cap c.loop-self-test.true c.len.ensures nodes.ok.1 nodes.small

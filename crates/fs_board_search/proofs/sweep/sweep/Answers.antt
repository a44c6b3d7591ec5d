use Rattle.std.proofs.Common.{◌≡◌, ◌∙◌, true, ap, sym, subst}
use Rattle.std.specs.Prelude.{MatchOption}
use Rattle.std.specs.Arc.{arc_value}
use Rattle.fs_board_offers.specs.Board.{is_finished}
use Rattle.fs_board_offers.specs.Offers.{slots}
use Rattle.fs_board_offers.specs.Questions.{Question}
use Rattle.fs_board_search.specs.inner.Steps.{IsTaken}
use Rattle.fs_board_search.proofs.Ends.{handed, later-fault, search-handed}
use Rattle.fs_board_search.proofs.Goes.{goes-further}
use Rattle.fs_board_search.proofs.sweep.sweep.Goals as goal

pub returns-in_err-finish_node-clause-err : goal.returns-in_err-finish_node-clause-err
returns-in_err-finish_node-clause-err g c =
    let goes = goes-further c.args.board.now c.loop-alloc.board c.next_node.new.board c.loop-alloc.invariant.goes c.in_ok-taken.ensures.goes in
    handed c.from_residual-in_err-finish_node.result _ _ c.from_residual-in_err-finish_node.ensures.1
    (λ other. later-fault c.args.board.now c.next_node.new.board _ goes (c.in_err-finish_node.ensures.err other))

pub returns-in_err-prepare-clause-err : goal.returns-in_err-prepare-clause-err
returns-in_err-prepare-clause-err g c =
    search-handed c.from_residual-in_err-prepare.result _ c.args.board.now c.loop-alloc.scout (c.requires.same ∙ sym c.loop-alloc.invariant.scout)
    c.from_residual-in_err-prepare.ensures.1 c.in_err-prepare.ensures.err

pub prepare-requires-clause-slots : goal.prepare-requires-clause-slots
prepare-requires-clause-slots g c =
    let next = c.next_node.new.board in
    let is_taken =
    subst (λ o. MatchOption o (is_finished next.board ≡ true) (λ t. IsTaken next t.node (arc_value t.part))) c.in-Some.is c.in_ok-taken.ensures.ok in
    let same = c.in_ok-taken.ensures.goes.question ∙ (c.loop-alloc.invariant.goes.question ∙ (c.requires.same ∙ sym c.loop-alloc.invariant.scout)) in
    is_taken.slots ∙ ap (λ (q : Question). slots q.offers) same

pub finish_node-requires-clause-same : goal.finish_node-requires-clause-same
finish_node-requires-clause-same g c =
    c.in_ok-taken.ensures.goes.question ∙ (c.loop-alloc.invariant.goes.question ∙ (c.requires.same
    ∙ (sym c.loop-alloc.invariant.scout ∙ sym c.in_ok-prepare.ensures.value)))

pub finish_node-requires-clause-taken : goal.finish_node-requires-clause-taken
finish_node-requires-clause-taken g c =
    let next = c.next_node.new.board in
    let is_taken =
    subst (λ o. MatchOption o (is_finished next.board ≡ true) (λ t. IsTaken next t.node (arc_value t.part))) c.in-Some.is c.in_ok-taken.ensures.ok in
    is_taken

pub loop-alloc-preserved : goal.loop-alloc-preserved
loop-alloc-preserved g c =
    let goes = goes-further c.args.board.now c.loop-alloc.board c.next_node.new.board c.loop-alloc.invariant.goes c.in_ok-taken.ensures.goes in
    record {
      scout = c.in_ok-finish_node.ensures.scout ∙ (c.in_ok-prepare.ensures.value ∙ c.loop-alloc.invariant.scout);
      goes = goes-further c.args.board.now c.next_node.new.board c.finish_node.new.board goes c.in_ok-finish_node.ensures.goes;
    }

pub returns-in_err-taken-clause-goes : goal.returns-in_err-taken-clause-goes
returns-in_err-taken-clause-goes g c =
    goes-further c.args.board.now c.loop-alloc.board c.next_node.new.board c.loop-alloc.invariant.goes c.in_err-taken.ensures.goes

pub returns-in_default-clause-goes : goal.returns-in_default-clause-goes
returns-in_default-clause-goes g c =
    goes-further c.args.board.now c.loop-alloc.board c.next_node.new.board c.loop-alloc.invariant.goes c.in_ok-taken.ensures.goes

pub returns-in_err-prepare-clause-goes : goal.returns-in_err-prepare-clause-goes
returns-in_err-prepare-clause-goes g c =
    goes-further c.args.board.now c.loop-alloc.board c.next_node.new.board c.loop-alloc.invariant.goes c.in_ok-taken.ensures.goes

pub returns-in_err-finish_node-clause-goes : goal.returns-in_err-finish_node-clause-goes
returns-in_err-finish_node-clause-goes g c =
    let goes = goes-further c.args.board.now c.loop-alloc.board c.next_node.new.board c.loop-alloc.invariant.goes c.in_ok-taken.ensures.goes in
    goes-further c.args.board.now c.next_node.new.board c.finish_node.new.board goes c.in_err-finish_node.ensures.goes

use Rattle.std.proofs.Common.{◌∙◌, ◌≤◌, ap, sym, subst}
use Rattle.fs_board_offers.specs.Board.{Board}
use Rattle.fs_board_offers.specs.Histories.{HoldsNode}
use Rattle.fs_board_offers.specs.Offers.{slots}
use Rattle.fs_board_offers.specs.Questions.{Question}
use Rattle.fs_board_search.specs.inner.Steps.{done, IsTried}
use Rattle.fs_board_search.proofs.Ends.{if-err, later-fault, search-handed}
use Rattle.fs_board_search.proofs.Goes.{goes-further, moves-later, stays-longer}
use Rattle.fs_board_search.proofs.sweep.finish_node.Goals as goal

pub returns-in_err-try_way-clause-err : goal.returns-in_err-try_way-clause-err
returns-in_err-try_way-clause-err c =
    search-handed c.from_residual-in_err-try_way.result _ c.args.board.now c.loop-way.scout
    (c.requires.same ∙ (sym c.see_bound.ensures ∙ sym c.loop-way.invariant.scout))
    c.from_residual-in_err-try_way.ensures.1 c.in_err-try_way.ensures.err

pub returns-clause-err : goal.returns-clause-err
returns-clause-err c =
    if-err c.close_or_split.result _ _ c.close_or_split.ensures.err
    (λ f why other. later-fault c.args.board.now c.loop-way.board f c.loop-way.invariant.stays.goes (why other))

pub try_way-requires-clause-same : goal.try_way-requires-clause-same
try_way-requires-clause-same c =
    c.loop-way.invariant.stays.goes.question ∙ (c.requires.same ∙ (sym c.see_bound.ensures ∙ sym c.loop-way.invariant.scout))

pub try_way-requires-clause-slots : goal.try_way-requires-clause-slots
try_way-requires-clause-slots c =
    c.requires.taken.slots
    ∙ ap (λ (q : Question). slots q.offers) (c.requires.same ∙ (sym c.see_bound.ensures ∙ sym c.loop-way.invariant.scout))

pub close_or_split-requires-clause-same : goal.close_or_split-requires-clause-same
close_or_split-requires-clause-same c =
    c.loop-way.invariant.stays.goes.question ∙ (c.requires.same ∙ (sym c.see_bound.ensures ∙ sym c.loop-way.invariant.scout))

pub close_or_split-requires-clause-taken : goal.close_or_split-requires-clause-taken
close_or_split-requires-clause-taken c =
    let stays = c.loop-way.invariant.stays in
    let taken = c.requires.taken in
    record {
      holds = subst (λ (b : Board). HoldsNode b 0 c.args.taken.now.node c.args.taken.now.part.value) (sym stays.board) taken.holds;
      slots = taken.slots ∙ ap (λ (q : Question). slots q.offers) (sym stays.goes.question);
      room = subst (λ (b : Board). done b ≤ b.limit) (sym stays.board) taken.room;
    }

pub loop-way-preserved : goal.loop-way-preserved
loop-way-preserved c =
    let stays = c.loop-way.invariant.stays in
    let tried = subst (IsTried c.loop-way.board c.try_way.new.board) c.if-branch.false c.in_ok-try_way.ensures.ok in
    record {
      scout = c.in_ok-try_way.ensures.scout ∙ c.loop-way.invariant.scout;
      stays = stays-longer c.args.board.now c.loop-way.board c.try_way.new.board stays tried;
    }

pub returns-then-branch-clause-ok : goal.returns-then-branch-clause-ok
returns-then-branch-clause-ok c =
    moves-later c.args.board.now c.loop-way.board c.try_way.new.board c.loop-way.invariant.stays
    (subst (IsTried c.loop-way.board c.try_way.new.board) c.if-branch.true c.in_ok-try_way.ensures.ok)

pub returns-then-branch-clause-goes : goal.returns-then-branch-clause-goes
returns-then-branch-clause-goes c =
    goes-further c.args.board.now c.loop-way.board c.try_way.new.board c.loop-way.invariant.stays.goes c.in_ok-try_way.ensures.goes

pub returns-in_err-try_way-clause-goes : goal.returns-in_err-try_way-clause-goes
returns-in_err-try_way-clause-goes c =
    goes-further c.args.board.now c.loop-way.board c.try_way.new.board c.loop-way.invariant.stays.goes c.in_err-try_way.ensures.goes

pub returns-clause-goes : goal.returns-clause-goes
returns-clause-goes c =
    goes-further c.args.board.now c.loop-way.board c.close_or_split.new.board c.loop-way.invariant.stays.goes c.close_or_split.ensures.goes

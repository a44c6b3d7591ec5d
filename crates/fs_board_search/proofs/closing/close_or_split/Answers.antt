use Rattle.std.proofs.Common.{◌∙◌, ap, inl, refl, sym, subst}
use Rattle.fs_board_offers.specs.Offers.{slots}
use Rattle.fs_board_offers.specs.Questions.{Question}
use Rattle.fs_board.specs.Asking.{IsMade}
use Rattle.fs_board.specs.View.{event_of, reply_of}
use Rattle.fs_board_search.specs.Tries.{IsLast}
use Rattle.fs_board_search.specs.inner.Steps.{IsTried}
use Rattle.fs_board_search.proofs.Ends.{search-handed}
use Rattle.fs_board_search.proofs.Goes.{goes-nowhere, goes-on, goes-same}
use Rattle.fs_board_search.proofs.Replied.{tried, last-large}
use Rattle.fs_board_search.proofs.closing.close_or_split.Goals as goal

pub returns-then-not-is_end-clause-err : goal.returns-then-not-is_end-clause-err
returns-then-not-is_end-clause-err c = λ other.
    let node = c.args.taken.now.node in
    let part = c.args.taken.now.part.value in
    let event = c.in_ok-event.event in
    let last = subst (λ (q : Question). IsLast q.test node part event) (sym c.requires.same) c.in_ok-event.ensures.last in inl (
      refl,
      last-large c.args.board.now c.ask.new.self node part event (reply_of c.in_ok-reply.reply) c.requires.taken.holds last c.log-legal.ensures.legal c.log-legal.ensures.offers
          c.in_ok-reply.ensures.step (sym c.is_end.ensures ∙ c.if-not-is_end.true),
    )

pub returns-clause-ok : goal.returns-clause-ok
returns-clause-ok c =
    subst (IsTried c.args.board.now c.ask.new.self) (sym c.is_end.ensures ∙ c.if-not-is_end.false)
    (tried c.args.board.now c.ask.new.self (event_of c.in_ok-event.event) (reply_of c.in_ok-reply.reply) c.in_ok-event.ensures.made.1
    c.in_ok-reply.ensures.step)

pub returns-in_err-event-clause-err : goal.returns-in_err-event-clause-err
returns-in_err-event-clause-err c =
    search-handed c.from_residual.result _ c.args.board.now c.args.scout.now c.requires.same c.from_residual.ensures.1
    c.in_err-event.ensures.err

pub last-requires : goal.last-requires
last-requires c = c.requires.taken.slots ∙ ap (λ (q : Question). slots q.offers) c.requires.same

pub ask-requires : goal.ask-requires
ask-requires c = subst (λ (q : Question). IsMade q c.in_ok-event.event) (sym c.requires.same) c.in_ok-event.ensures.made.0

pub returns-in_err-event-clause-goes : goal.returns-in_err-event-clause-goes
returns-in_err-event-clause-goes c = goes-nowhere c.args.board.now

pub returns-in_err-reply-clause-goes : goal.returns-in_err-reply-clause-goes
returns-in_err-reply-clause-goes c = goes-same c.args.board.now c.ask.new.self c.in_err-reply.ensures.err

pub returns-then-not-is_end-clause-goes : goal.returns-then-not-is_end-clause-goes
returns-then-not-is_end-clause-goes c =
    goes-on c.args.board.now c.ask.new.self 0 (event_of c.in_ok-event.event) (reply_of c.in_ok-reply.reply) c.in_ok-reply.ensures.step

pub returns-in_err-keep_children-clause-goes : goal.returns-in_err-keep_children-clause-goes
returns-in_err-keep_children-clause-goes c =
    goes-on c.args.board.now c.ask.new.self 0 (event_of c.in_ok-event.event) (reply_of c.in_ok-reply.reply) c.in_ok-reply.ensures.step

pub returns-clause-goes : goal.returns-clause-goes
returns-clause-goes c =
    goes-on c.args.board.now c.ask.new.self 0 (event_of c.in_ok-event.event) (reply_of c.in_ok-reply.reply) c.in_ok-reply.ensures.step

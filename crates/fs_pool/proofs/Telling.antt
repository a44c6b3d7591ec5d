-- The question of the board is the one asked.
use Rattle.std.proofs.Common.{ℕ, sym, ap, subst, ◌∙◌}
use Rattle.fs_board_offers.specs.Board.{Event, Reply}
use Rattle.fs_board_offers.specs.Questions.{Question}
use Rattle.fs_board.specs.declared.event.Event.{Event as CodeEvent}
use Rattle.fs_board.specs.declared.event.Reply.{Reply as CodeReply}
use Rattle.fs_board.specs.Asking.{IsMade, Tells}
use Rattle.fs_board.specs.View.{Search, Answers}
use Rattle.fs_board.proofs.Telling.{limit-kept}
use Rattle.fs_pool.specs.Asked.{IsAsked}

pub tells_asked : (s : Search) (q : Question) (limit : ℕ) (r : CodeReply) → IsAsked s q limit → Tells s.question r → Tells q r
tells_asked s q limit r asked tells = subst (λ (p : Question). Tells p r) asked.question tells

pub made_asked : (s : Search) (q : Question) (limit : ℕ) (e : CodeEvent) → IsAsked s q limit → IsMade q e → IsMade s.question e
made_asked s q limit e asked made = subst (λ (p : Question). IsMade p e) (sym asked.question) made

-- and it stays so
pub still_asked : (old new : Search) (q : Question) (limit w : ℕ) (e : Event) (r : Reply) → IsAsked old q limit → Answers old new w e r
    → IsAsked new q limit
still_asked old new q limit w e r asked a = record {
  question = ap (λ (s : Search). s.question) a.rest ∙ asked.question;
  limit = limit-kept old new w e r a ∙ asked.limit;
}

-- A step of the board leaves its question as it was.
use Rattle.std.proofs.Common.{◌≡◌, ℕ, ap}
use Rattle.fs_board_offers.specs.Board.{Event, Reply}
use Rattle.fs_board.specs.View.{Search, Answers}

pub question_stays : (old new : Search) (w : ℕ) (e : Event) (r : Reply) → Answers old new w e r → new.question ≡ old.question
question_stays old new w e r a = ap (λ (s : Search). s.question) a.rest

-- How a search goes on.
use Rattle.std.specs.Prelude.{◌≡◌, List, ◌++◌}
use Rattle.fs_board_offers.specs.Histories.{LogEntry}
use Rattle.fs_board.specs.View.{Search}

-- the same question and limit, and a log that begins with what was logged before
pub record GoesOn (old new : Search) : Type 0 where
  pub question : new.question ≡ old.question
  pub limit : new.board.limit ≡ old.board.limit
  pub entries : List LogEntry
  pub log : new.log ≡ old.log ++ entries

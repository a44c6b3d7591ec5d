-- What an answer's board goes on from.
use Rattle.std.specs.Prelude.{ℕ, List, drop}
use Rattle.fs_board_offers.specs.Receipts.{Pass, IsAgreed}
use Rattle.fs_board.specs.View.{Search}
use Rattle.fs_board_search.specs.Histories.{GoesOn}

-- A search goes on from one whose log agrees with the passes, but for so many entries at its head.
pub record GoesOnFrom (passes : List Pass) (since : ℕ) (s : Search) : Type 0 where
  pub left : Search
  pub agreed : IsAgreed passes (drop since left.log)
  pub goes : GoesOn left s

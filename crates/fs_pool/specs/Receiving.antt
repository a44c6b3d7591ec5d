-- The passes of a desk, and what an event adds to one.
use Rattle.std.specs.Prelude.{◌≡◌, ℕ, zero, suc, List, [], ◌∷◌, ◌++◌}
use Rattle.fs_board_offers.specs.Board.{Event}
use Rattle.fs_board_offers.specs.Receipts.{Pass, Receipt}

-- the passes of the workers from 0 on, without receipts
abbrev pub first_passes : ℕ → List Pass
first_passes zero = []
first_passes (suc n) = first_passes n ++ record { worker = n; receipts = [] } ∷ []

-- the pass has one receipt more, which is of this event; its number and its reply are judged at the end
pub record IsReceived (old new : Pass) (e : Event) : Type 0 where
  pub worker : new.worker ≡ old.worker
  pub last : Receipt
  pub receipts : new.receipts ≡ old.receipts ++ last ∷ []
  pub event : last.event ≡ e

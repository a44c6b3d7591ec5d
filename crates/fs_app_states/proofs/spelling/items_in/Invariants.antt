use Rattle.std.proofs.Common.{◌≡◌, map, drop}
use Rattle.fs_app_states.specs.Blocks.{item_now}
use Rattle.fs_app_states.specs.Lines.{items_in}
use Rattle.fs_app_states.proofs.Onward.{joined}
use Rattle.fs_app_states.proofs.spelling.items_in.Given as goal

-- the items so far, and behind them those of the pieces that are left
abbrev pub invariant-loop-piece : goal.invariant-loop-piece
invariant-loop-piece l =
    items_in (map (λ piece. piece.now) l.fn.pieces)
    ≡ joined (map item_now l.items.items) (items_in (map (λ piece. piece.now) (drop l.piece-index l.fn.pieces)))

-- The history that ends at a full board, step by step.
use Rattle.std.proofs.Common.{None, Some, refl, Box}
use Rattle.std.specs.declared.alloc.Global.{Global}
use Rattle.fs_kinds.specs.declared.kind.Kind.TheVariants.{WR}
use Rattle.fs_board_offers.specs.Board.{Board}
use Rattle.fs_board_offers.specs.Histories.{IsHistory}
use Rattle.fs_model_worked_examples.specs.StoreBuffering.{sb}
use Rattle.fs_model_worked_examples.specs.Rows.{offers, part}
use Rattle.fs_model_worked_examples.specs.Limits.{until_full}

pub history : (p q : Box (Unit {0}) Global) → (board : Board) × IsHistory (sb p q) offers 13 until_full board
history p q = (
  _,
  (
    _,
    (refl, refl),
    (
      _,
      (part None None, refl, refl, refl, refl, refl, refl),
      (
        _,
        (refl, refl),
        (
          _,
          (refl, refl, refl),
          (
            _,
            (refl, refl),
            (
              _,
              (part (Some (Some WR)) None, refl, refl, refl),
              (_, (part (Some (Some WR)) None, refl, refl, refl, refl), (_, (refl, refl), refl)),
            ),
          ),
        ),
      ),
    ),
  ),
)

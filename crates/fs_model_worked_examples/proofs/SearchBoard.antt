-- The history of two workers, step by step.
use Rattle.std.proofs.Common.{◌≡◌, None, Some, refl, Box}
use Rattle.std.specs.declared.alloc.Global.{Global}
use Rattle.fs_kinds.specs.declared.kind.Kind.TheVariants.{WR, RwRw}
use Rattle.fs_model.specs.Allows.{Allows}
use Rattle.fs_board_offers.specs.Board.{Board}
use Rattle.fs_board_offers.specs.Histories.{IsHistory}
use Rattle.fs_model_worked_examples.specs.StoreBuffering.{sb, fences}
use Rattle.fs_model_worked_examples.specs.Rows.{offers, part, two_workers}

pub history : (p q : Box (Unit {0}) Global) → (Allows (sb p q) (fences (Some WR) (Some WR)) → ⊥)
    → (board : Board) × IsHistory (sb p q) offers 14 two_workers board × (board.bound ≡ Some (fences (Some WR) (Some WR)))
history p q forbids = (
  _,
  (
    _,
    (refl, refl),
    (
      _,
      (part None None, refl, refl, refl, refl, refl, refl),
      (
        _,
        (refl, refl),
        (
          _,
          (refl, refl, refl),
          (
            _,
            (part (Some (Some WR)) None, refl, refl, refl),
            (
              _,
              (part (Some (Some WR)) None, refl, refl, refl, refl, refl, refl),
              (
                _,
                (refl, refl, refl),
                (
                  _,
                  (part (Some (Some WR)) (Some (Some WR)), refl, refl, forbids, refl),
                  (
                    _,
                    (refl, refl, refl),
                    (
                      _,
                      (part (Some (Some RwRw)) None, refl, refl, refl),
                      (
                        _,
                        (refl, refl, refl),
                        (
                          _,
                          (part (Some (Some WR)) (Some (Some RwRw)), refl, refl, refl),
                          (
                            _,
                            (refl, refl),
                            (
                              _,
                              (refl, refl, refl),
                              refl,
                            ),
                          ),
                        ),
                      ),
                    ),
                  ),
                ),
              ),
            ),
          ),
        ),
      ),
    ),
  ),
  refl,
)

-- The histories with placements of equal cost, step by step.
use Rattle.std.proofs.Common.{◌≡◌, None, Some, refl, Box}
use Rattle.std.specs.declared.alloc.Global.{Global}
use Rattle.fs_kinds.specs.declared.kind.Kind.TheVariants.{WW, WRw, RwRw}
use Rattle.fs_model.specs.Allows.{Allows}
use Rattle.fs_board_offers.specs.Board.{Board}
use Rattle.fs_board_offers.specs.Histories.{IsHistory}
use Rattle.fs_model_worked_examples.specs.Ties.{two_writes, equal_offers, between_stores, stores_part, earlier_last, earlier_first}

module _ (p q : Box (Unit {0}) Global) where
  pub later_posted : (Allows (two_writes p q) (between_stores (Some WRw) (Some WRw)) → ⊥)
      → (Allows (two_writes p q) (between_stores (Some WRw) (Some WW)) → ⊥)
      → (board : Board) × IsHistory (two_writes p q) equal_offers 8 earlier_last board × (board.bound ≡ Some (between_stores (Some WRw) (Some WW)))
  later_posted later earlier = (
    _,
    (
      _,
      (refl, refl),
      (
        _,
        (stores_part None None, refl, refl, refl, refl, refl, refl),
        (
          _,
          (refl, refl, refl),
          (
            _,
            (stores_part (Some (Some WRw)) None, refl, refl, refl, refl, refl, refl),
            (
              _,
              (refl, refl, refl),
              (
                _,
                (stores_part (Some (Some WRw)) (Some (Some WRw)), refl, refl, later, refl),
                (
                  _,
                  (refl, refl, refl),
                  (
                    _,
                    (stores_part (Some (Some WRw)) (Some (Some WW)), refl, refl, refl),
                    (
                      _,
                      (stores_part (Some (Some WRw)) (Some (Some WW)), refl, refl, earlier, refl),
                      (
                        _,
                        (refl, refl, refl),
                        (
                          _,
                          (stores_part (Some (Some WRw)) (Some (Some RwRw)), refl, refl, refl),
                          (_, (refl, refl, refl), (_, (stores_part (Some (Some WRw)) (Some None), refl, refl, refl), refl)),
                        ),
                      ),
                    ),
                  ),
                ),
              ),
            ),
          ),
        ),
      ),
    ),
    refl,
  )

  pub earlier_posted : (Allows (two_writes p q) (between_stores (Some WRw) (Some WW)) → ⊥)
      → (board : Board) × IsHistory (two_writes p q) equal_offers 8 earlier_first board × (board.bound ≡ Some (between_stores (Some WRw) (Some WW)))
  earlier_posted earlier = (
    _,
    (
      _,
      (refl, refl),
      (
        _,
        (stores_part None None, refl, refl, refl, refl, refl, refl),
        (
          _,
          (refl, refl, refl),
          (
            _,
            (stores_part (Some (Some WRw)) None, refl, refl, refl, refl, refl, refl),
            (
              _,
              (refl, refl, refl),
              (
                _,
                (stores_part (Some (Some WRw)) (Some (Some WW)), refl, refl, earlier, refl),
                (
                  _,
                  (refl, refl, refl),
                  (_, (stores_part (Some (Some WRw)) (Some (Some WRw)), refl, refl, refl), refl),
                ),
              ),
            ),
          ),
        ),
      ),
    ),
    refl,
  )

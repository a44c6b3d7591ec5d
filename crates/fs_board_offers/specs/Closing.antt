-- Why a node of the board is closed, and what a finished board answers.
use Rattle.std.specs.Prelude.{◌≡◌, ℕ, true, Option, None, Some, List, [], map}
use Rattle.std.specs.List.{AllZip, range_with_len}
use Rattle.fs_kinds.specs.declared.kind.Kind.TheVariants.{RwRw}
use Rattle.fs_kinds.specs.declared.placement.Entry.{Entry}
use Rattle.fs_kinds.specs.Placement.{all_with}
use Rattle.fs_board_offers.specs.Offers.{Offers, slots, IsPlacement, IsCheapest}
use Rattle.fs_model.specs.declared.test.Test.{Test}
use Rattle.fs_model.specs.Execution.{Execution}
use Rattle.fs_model.specs.Allows.{Allows}
use Rattle.fs_model.specs.Witness.{Witness}
use Rattle.fs_cert_evidence.specs.Widths.{width}
use Rattle.fs_board_offers.specs.Parts.{Part, floor, filled}
use Rattle.fs_board_offers.specs.Pruning.{is_pruned}
use Rattle.fs_board_offers.specs.Valid.{Refutes, RefutesBy}
use Rattle.fs_board_offers.specs.Board.{Status, Open, Held, Split, Costly, Witnessed, Bounded, Posted}

-- Nothing under a closed node that forbids the outcome is better than the bound: it is pruned by cost alone, as is a
-- node that was posted; or one witness shows the outcome with rw,rw in its undecided slots; or the witnesses from the
-- first on, so many, bound it. A leaf of a certificate's tree says the same of the answer. A node that isn't closed
-- needs no reason.
abbrev pub IsClosedFor : Test → Offers → (bound : Option (List Entry)) → List Witness → Part → Status → Type 0
IsClosedFor t offers bound witnesses part Open = Unit {0}
IsClosedFor t offers bound witnesses part (Held worker) = Unit {0}
IsClosedFor t offers bound witnesses part (Split slot first) = Unit {0}
IsClosedFor t offers bound witnesses part Costly = is_pruned offers bound part [] ≡ true
IsClosedFor t offers bound witnesses part (Witnessed j) = Refutes t witnesses (filled part) j
IsClosedFor t offers bound witnesses part (Bounded first count) =
    (es : List Execution) × AllZip (RefutesBy t witnesses (floor part)) (range_with_len first count) es
    × (is_pruned offers bound part (map (width t) es) ≡ true)
IsClosedFor t offers bound witnesses part Posted = is_pruned offers bound part [] ≡ true

-- a placement that forbids the outcome
pub record IsForbidden (t : Test) (offers : Offers) (p : List Entry) : Type 0 where
  pub placement : IsPlacement offers p
  pub forbids : Allows t p → ⊥

-- the bound is the cheapest placement that forbids the outcome; with no bound, a witness shows the outcome with rw,rw
-- in every slot
abbrev pub IsFinalAnswer : Test → Offers → List Witness → (bound : Option (List Entry)) → Type 0
IsFinalAnswer t offers witnesses (Some p) = IsCheapest t offers p
IsFinalAnswer t offers witnesses None = (j : ℕ) × Refutes t witnesses (all_with (Some RwRw) (slots offers)) j

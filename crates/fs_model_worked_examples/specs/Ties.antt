-- Two harts that each store 2 to one location and then 1 to the other one's: shown would be 2 in both. The board of it
-- where placements cost the same.
use Rattle.std.specs.Prelude.{Option, None, Some, List, [], ◌∷◌, pos, codes}
use Rattle.std.proofs.Common.{Box}
use Rattle.std.specs.declared.alloc.Global.{Global}
use Rattle.fs_kinds.specs.declared.kind.Kind.{Kind}
use Rattle.fs_kinds.specs.declared.kind.Kind.TheVariants.{WW, WRw, RwRw}
use Rattle.fs_kinds.specs.declared.placement.Entry.{Entry}
use Rattle.fs_kinds.specs.PriceTable.{PriceTable}
use Rattle.fs_instr.specs.Names.{plain}
use Rattle.fs_instr.specs.declared.names.ImmOp.TheVariants.{Ori}
use Rattle.fs_instr.specs.declared.instr.Instr.{Instr}
use Rattle.fs_instr.specs.declared.instr.Instr.TheVariants.{Immediate, Sw}
use Rattle.fs_model.specs.declared.outcome.Outcome.TheVariants as outcome
use Rattle.fs_model.specs.declared.test.Test.{Test}
use Rattle.fs_model.specs.declared.test.Quantifier.TheVariants.{Exists}
use Rattle.fs_model.specs.Slots.{slot_at}
use Rattle.fs_board_offers.specs.Offers.{Offers, offers_for}
use Rattle.fs_board_offers.specs.Parts.{Part}
use Rattle.fs_board_offers.specs.Board.{Take, Claim, SplitAt, CutCost, Post, Given, Children, Closed, Cheaper}
use Rattle.fs_board_offers.specs.Histories.{LogEntry}
use Rattle.fs_model_worked_examples.specs.StoreBuffering.{registers}
use Rattle.fs_model_worked_examples.specs.Rows.{entry}

-- ori x5,x0,2 / sw x5,0(x6) / ori x7,x0,1 / sw x7,0(x8)
abbrev pub code : List Instr
code = Immediate Ori 5 0 (pos 2) ∷ Sw plain 5 6 (pos 0) ∷ Immediate Ori 7 0 (pos 1) ∷ Sw plain 7 8 (pos 0) ∷ []

-- the condition is `x=2 /\ y=2`
abbrev pub two_writes : Box (Unit {0}) Global → Box (Unit {0}) Global → Test
two_writes p q = record {
  name = codes "2+2W";
  codes = code ∷ code ∷ [];
  starts = registers 4096 4112 ∷ registers 4112 4096 ∷ [];
  locations = record { name = codes "x"; word = 0 } ∷ record { name = codes "y"; word = 0 } ∷ [];
  quantifier = Exists;
  condition = outcome.Both' p (outcome.LocationIs 0 2) q (outcome.LocationIs 1 2);
}

-- w,w and w,rw cost 2, and rw,rw 3
abbrev pub equal_prices : PriceTable
equal_prices = record { prices = None ∷ None ∷ None ∷ None ∷ Some 2 ∷ Some 2 ∷ None ∷ None ∷ Some 3 ∷ None ∷ []; weights = [] }

-- what they offer before the second store of each hart
abbrev pub equal_offers : Offers
equal_offers = offers_for equal_prices (slot_at 0 3 ∷ slot_at 1 3 ∷ [])

-- a fence, or none, there
abbrev pub between_stores : Option Kind → Option Kind → List Entry
between_stores first second = record { slot = slot_at 0 3; kind = first } ∷ record { slot = slot_at 1 3; kind = second } ∷ []

-- what is decided
abbrev pub stores_part : (first second : Option (Option Kind)) → Part
stores_part first second = record { slot = slot_at 0 3; decided = first } ∷ record { slot = slot_at 1 3; decided = second } ∷ []

-- Node 3 has w,rw before hart 0's second store. Of its children 5 has none before hart 1's, 6 has w,w, 7 has w,rw and 8
-- has rw,rw.
abbrev up_to_its_children : List LogEntry → List LogEntry
up_to_its_children later =
    entry 0 Take (Given 0 (stores_part None None))
    ∷ entry 0 (SplitAt 0 (slot_at 0 3)) (Children 1 4)
    ∷ entry 0 (Claim 3) (Given 3 (stores_part (Some (Some WRw)) None))
    ∷ entry 0 (SplitAt 3 (slot_at 1 3)) (Children 5 4)
    ∷ later

-- Node 6 costs as much as what is posted, and is before it: it isn't pruned, and lowers the bound. Node 8 costs more,
-- and node 5 less.
abbrev pub earlier_last : List LogEntry
earlier_last = up_to_its_children (
    entry 0 (Claim 7) (Given 7 (stores_part (Some (Some WRw)) (Some (Some WRw))))
    ∷ entry 0 (Post 7 (between_stores (Some WRw) (Some WRw))) Closed
    ∷ entry 0 (Claim 6) (Given 6 (stores_part (Some (Some WRw)) (Some (Some WW))))
    ∷ entry 0 (CutCost 6) Cheaper
    ∷ entry 0 (Post 6 (between_stores (Some WRw) (Some WW))) Closed
    ∷ entry 0 (Claim 8) (Given 8 (stores_part (Some (Some WRw)) (Some (Some RwRw))))
    ∷ entry 0 (CutCost 8) Closed
    ∷ entry 0 (Claim 5) (Given 5 (stores_part (Some (Some WRw)) (Some None)))
    ∷ entry 0 (CutCost 5) Cheaper
    ∷ [])

-- Here the earlier one is posted first. Node 7 costs as much and isn't before it: it is pruned.
abbrev pub earlier_first : List LogEntry
earlier_first = up_to_its_children (
    entry 0 (Claim 6) (Given 6 (stores_part (Some (Some WRw)) (Some (Some WW))))
    ∷ entry 0 (Post 6 (between_stores (Some WRw) (Some WW))) Closed
    ∷ entry 0 (Claim 7) (Given 7 (stores_part (Some (Some WRw)) (Some (Some WRw))))
    ∷ entry 0 (CutCost 7) Closed
    ∷ [])

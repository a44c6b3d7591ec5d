-- What is said of store buffering, as the laws on answers tell it: witnesses, and a history of the board.
use Rattle.std.specs.Prelude.{ℕ, Option, None, Some, List, [], ◌∷◌}
use Rattle.fs_kinds.specs.declared.kind.Kind.{Kind}
use Rattle.fs_kinds.specs.declared.kind.Kind.TheVariants.{WR, RwRw}
use Rattle.fs_kinds.specs.declared.reason.OperationName.{OperationName as Name}
use Rattle.fs_kinds.specs.declared.reason.Reason.{Reason}
use Rattle.fs_kinds.specs.declared.reason.Reason.TheVariants.{Rule}
use Rattle.fs_kinds.specs.PriceTable.{PriceTable}
use Rattle.fs_model.specs.Slots.{slot_at}
use Rattle.fs_model.specs.declared.step.Choice.TheVariants.{Word}
use Rattle.fs_model.specs.Witness.{Witness}
use Rattle.fs_model_worked_examples.specs.StoreBuffering.{fences}
use Rattle.fs_board_offers.specs.Offers.{Offers, offers_for}
use Rattle.fs_board_offers.specs.Parts.{Part}
use Rattle.fs_board_offers.specs.Board.{Event, Reply, Take, Claim, Adopt, SplitAt, CutCost, Post, Given, Gone, Children, NotYours, Decided, Closed, Cheaper}
use Rattle.fs_board_offers.specs.Histories.{LogEntry}

-- the operation of instruction number `at` of a hart
abbrev pub named : ℕ → ℕ → Name
named hart at = record { hart = hart; at = at }

-- both loads return 0, and come before the stores
abbrev pub loads_first : Witness
loads_first = record {
  choices = (Word 0 ∷ []) ∷ (Word 0 ∷ []) ∷ [];
  order = named 0 2 ∷ named 1 2 ∷ named 0 1 ∷ named 1 1 ∷ [];
}

-- hart 0's store and load are the other way round than rule 4 has them
abbrev pub against_rule_4 : Reason
against_rule_4 = Rule 4 (named 0 1) (named 0 2)

-- no choice for hart 1, which has a load
abbrev pub one_choice : Witness
one_choice = record { choices = (Word 0 ∷ []) ∷ [] ∷ []; order = [] }

-- r,r and r,w cost 3, w,r 9, w,w 2, rw,rw 10 and tso 5
abbrev pub prices : PriceTable
prices = record { prices = Some 3 ∷ Some 3 ∷ None ∷ Some 9 ∷ Some 2 ∷ None ∷ None ∷ None ∷ Some 10 ∷ Some 5 ∷ []; weights = [] }

-- what they offer before the load of each hart
abbrev pub offers : Offers
offers = offers_for prices (slot_at 0 2 ∷ slot_at 1 2 ∷ [])

-- what is decided there
abbrev pub part : (first second : Option (Option Kind)) → Part
part first second = record { slot = slot_at 0 2; decided = first } ∷ record { slot = slot_at 1 2; decided = second } ∷ []

abbrev pub entry : ℕ → Event → Reply → LogEntry
entry worker event reply = record { worker = worker; event = event; reply = reply }

-- Two workers find w,r before each load. Node 4 has w,r before hart 0's load and node 6 rw,rw; of node 4's children 11
-- has w,r before hart 1's load and 13 has rw,rw.
abbrev pub two_workers : List LogEntry
two_workers =
    entry 0 Take (Given 0 (part None None))
    ∷ entry 0 (SplitAt 0 (slot_at 0 2)) (Children 1 7)
    ∷ entry 1 (CutCost 0) NotYours
    ∷ entry 1 (Claim 4) (Given 4 (part (Some (Some WR)) None))
    ∷ entry 1 (SplitAt 4 (slot_at 0 2)) Decided
    ∷ entry 1 (SplitAt 4 (slot_at 1 2)) (Children 8 7)
    ∷ entry 0 (Claim 11) (Given 11 (part (Some (Some WR)) (Some (Some WR))))
    ∷ entry 0 (Post 11 (fences (Some WR) (Some WR))) Closed
    ∷ entry 1 (Claim 6) (Given 6 (part (Some (Some RwRw)) None))
    ∷ entry 1 (CutCost 6) Cheaper
    ∷ entry 1 (Claim 13) (Given 13 (part (Some (Some WR)) (Some (Some RwRw))))
    ∷ entry 1 (CutCost 13) Closed
    ∷ entry 0 (Claim 11) Gone
    ∷ entry 0 (Adopt 6) (Given 6 (part (Some (Some RwRw)) None))
    ∷ []

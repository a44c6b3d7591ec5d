-- Valid certificates for offers: for a placement what shows that it forbids the outcome, and a tree that leaves no
-- better placement; for none an execution that shows the outcome with rw,rw in every slot.
use Rattle.std.specs.Prelude.{◌≡◌, ℕ, ◌<◌, nat_le, Bool, true, Option, None, Some, List, [], ◌∷◌, ◌++◌, map, slice_get}
use Rattle.std.specs.List.{AllZip}
use Rattle.fs_kinds.specs.declared.placement.Entry.{Entry}
use Rattle.fs_kinds.specs.declared.slot.Slot.{Slot}
use Rattle.fs_model.specs.declared.test.Test.{Test}
use Rattle.fs_model.specs.Execution.{Execution}
use Rattle.fs_model.specs.Allows.{Allows, RefutesAll}
use Rattle.fs_model.specs.Witness.{Witness}
use Rattle.fs_cert_evidence.specs.Widths.{width}
use Rattle.fs_cert_evidence.specs.Certificate.{Certificate, Version, First, Second, Fourth, Answer, Fenced, Item, SplitAt, Costly, Refuted, Bounded, fence_words}
pub use Rattle.fs_cert_evidence.specs.Valid.{Forbid, RefutesBy, Refutes, IsValidForNone}
use Rattle.fs_board_offers.specs.Offers.{Offers, slots, cost, IsPlacement, IsCheapest}
use Rattle.fs_board_offers.specs.Parts.{Part, undecided, is_undecided, floor, filled, child_parts}
use Rattle.fs_board_offers.specs.Pruning.{is_pruned}

-- ---- the tree

-- even the least placement under the part is no better than the answer p: by cost alone, or by cost and order
abbrev pub is_costly : Version → Offers → List Entry → Part → Bool
is_costly First offers p part = nat_le (cost offers p) (cost offers (floor part))
is_costly Second offers p part = is_pruned offers (Some p) part []
is_costly Fourth offers p part = is_pruned offers (Some p) part []

-- the witnesses of these numbers give executions that show the outcome under the part's floor, and they bound the part
abbrev pub Bounds : Test → Offers → List Witness → List Entry → Part → List ℕ → Type 0
Bounds t offers witnesses p part js =
    (es : List Execution) × AllZip (RefutesBy t witnesses (floor part)) js es
    × (is_pruned offers (Some p) part (map (width t) es) ≡ true)

module _ (t : Test) (offers : Offers) (c : Certificate) (p : List Entry) where
  -- the items are one whole tree for each of these parts, in preorder
  abbrev pub Covers : List Part → List Item → Type 0
  Covers [] [] = Unit {0}
  Covers [] (item ∷ items) = ⊥
  Covers (part ∷ parts) [] = ⊥
  Covers (part ∷ parts) (SplitAt k ∷ items) =
      (slot : Slot) × (slice_get (slots offers) k ≡ Some slot) × (is_undecided slot part ≡ true)
      × Covers (child_parts offers slot part ++ parts) items
  Covers (part ∷ parts) (Costly ∷ items) = (is_costly c.version offers p part ≡ true) × Covers parts items
  Covers (part ∷ parts) (Refuted j ∷ items) = Refutes t c.witnesses (filled part) j × Covers parts items
  Covers (part ∷ parts) (Bounded js ∷ items) = Bounds t offers c.witnesses p part js × Covers parts items

-- ---- the whole

-- p is the placement that is answered
pub record IsAnswered (offers : Offers) (answer : Answer) (p : List Entry) : Type 0 where
  pub placement : IsPlacement offers p
  pub answered : answer ≡ Fenced (cost offers p) (fence_words p)

-- a valid certificate for the placement p
pub record IsValidFor (t : Test) (offers : Offers) (c : Certificate) (p : List Entry) : Type 0 where
  pub answered : IsAnswered offers c.answer p
  pub cycles : Forbid t p c.cycles
  pub tree : Covers t offers c p (undecided offers ∷ []) c.tree

-- a valid certificate, with the placement that it answers or none
abbrev pub IsValid : Test → Offers → Certificate → Option (List Entry) → Type 0
IsValid t offers c (Some p) = IsValidFor t offers c p
IsValid t offers c None = IsValidForNone t c

-- ---- what it shows

-- p forbids the outcome, and every cheaper placement allows it
pub record IsLeastCost (t : Test) (offers : Offers) (p : List Entry) : Type 0 where
  pub placement : IsPlacement offers p
  pub forbids : Allows t p → ⊥
  pub cheaper : (q : List Entry) → IsPlacement offers q → cost offers q < cost offers p → Allows t q

-- what a certificate of the version shows of a placement
abbrev pub IsBest : Version → Test → Offers → List Entry → Type 0
IsBest First = IsLeastCost
IsBest Second = IsCheapest
IsBest Fourth = IsCheapest

-- what it shows of an answer
abbrev pub IsRight : Version → Test → Offers → Option (List Entry) → Type 0
IsRight version t offers (Some p) = IsBest version t offers p
IsRight version t offers None = (e : Execution) × RefutesAll t e

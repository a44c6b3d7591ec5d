-- What a certificate is made of, and the answers that it may give.
use Rattle.std.specs.Prelude.{◌≡◌, ℕ, ◌<◌, Option, None, Some, List, [], ◌∷◌}
use Rattle.std.specs.List.{flat_map}
use Rattle.fs_kinds.specs.declared.kind.Kind.{Kind}
use Rattle.fs_kinds.specs.declared.placement.Entry.{Entry}
use Rattle.fs_kinds.specs.declared.reason.OperationName.{OperationName as Name}
use Rattle.fs_kinds.specs.declared.slot.Slot.{Slot}
use Rattle.fs_kinds.specs.PriceTable.{PriceTable, cost}
use Rattle.fs_kinds.specs.Slot.{fence_word}
use Rattle.fs_model.specs.declared.test.Test.{Test}
use Rattle.fs_model.specs.Allows.{Allows, IsPlacement, IsCheapest, RefutesAll}
use Rattle.fs_model.specs.Execution.{Execution}
use Rattle.fs_model.specs.Witness.{Witness}
use Rattle.fs_cert_evidence.specs.Judged.{Cause}

-- In the first version ties are left open, in the second the answer is the first of the cheapest. So it is in the
-- fourth, which has inferences in place of cycles. There is no third.
pub data Version : Type 0 where
  First : Version
  Second : Version
  Fourth : Version

-- a cost and the words of the fences, such as `P0:3=w,w`; or none
pub data Answer : Type 0 where
  Fenced : (cost : ℕ) (fences : List (List ℕ)) → Answer
  NoneForbids : Answer

-- one step of a cycle: an operation, and why it comes before the next one
pub record Link : Type 0 where
  pub operation : Name
  pub cause : Cause

-- One step of a refutation. The first five split a region, or drop runs from it; the others end it:
--   Cycle: each link must come before the next one, and the last before the first;
--   Stale: the load would return from a store that an own store before it overwrites, against the load value axiom;
--   Reversed: the store of a pair would be before what the pair's load returns from, against atomicity;
--   Parted: a store of another hart would be between the two, against atomicity.
pub data Inference : Type 0 where
  ByChoice : (name : Name) → Inference
  BySource : (load : Name) → Inference
  ByOrder : (first second : Name) → Inference
  ByCases : (condition : ℕ) → Inference
  Filter : (hart : ℕ) → Inference
  Cycle : (links : List Link) → Inference
  Stale : (load store : Name) → Inference
  Reversed : (load store : Name) → Inference
  Parted : (load store other : Name) → Inference

-- what is to show that the answer forbids the outcome: a cycle for each showing candidate, in their order; or the steps
-- of a refutation
pub data Cycles : Type 0 where
  Listed : (cycles : List (List Link)) → Cycles
  Inferred : (inferences : List Inference) → Cycles

abbrev pub IsEmpty : Cycles → Type 0
IsEmpty (Listed cycles) = cycles ≡ []
IsEmpty (Inferred inferences) = inferences ≡ []

-- the cycles of a list; of a refutation none
abbrev pub listed_in : Cycles → List (List Link)
listed_in (Listed cycles) = cycles
listed_in (Inferred inferences) = []

-- An item of a tree in preorder: a node that splits at the slot of this number, or a leaf. A leaf costs too much, or
-- the witness of this number refutes it, or the witnesses of these numbers bound it; the last not in the first version.
pub data Item : Type 0 where
  SplitAt : (slot : ℕ) → Item
  Costly : Item
  Refuted : (witness : ℕ) → Item
  Bounded : (witnesses : List ℕ) → Item

pub record Certificate : Type 0 where
  pub version : Version
  pub answer : Answer
  pub cycles : Cycles
  pub tree : List Item
  pub witnesses : List Witness

-- the word of a filled slot
abbrev pub words_at : Slot → Option Kind → List (List ℕ)
words_at slot None = []
words_at slot (Some kind) = fence_word slot kind ∷ []

-- the words of the filled slots, in slot order
abbrev pub fence_words : List Entry → List (List ℕ)
fence_words = flat_map (λ e. words_at e.slot e.kind)

-- p forbids the outcome, and every cheaper placement allows it
pub record IsLeastCost (t : Test) (prices : PriceTable) (p : List Entry) : Type 0 where
  pub placement : IsPlacement t prices p
  pub forbids : Allows t p → ⊥
  pub cheaper : (q : List Entry) → IsPlacement t prices q → cost prices q < cost prices p → Allows t q

-- what a certificate of the version shows of a placement
abbrev pub IsBest : Version → Test → PriceTable → List Entry → Type 0
IsBest First = IsLeastCost
IsBest Second = IsCheapest
IsBest Fourth = IsCheapest

-- what it shows of an answer: the placement is the best one, as the version has it; or none is right, since an
-- execution shows the outcome with rw,rw in every slot
abbrev pub IsRight : Version → Test → PriceTable → Option (List Entry) → Type 0
IsRight version t prices (Some p) = IsBest version t prices p
IsRight version t prices None = (e : Execution) × RefutesAll t e

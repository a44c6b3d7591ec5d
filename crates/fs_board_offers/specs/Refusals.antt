-- Why a certificate is refused: the first reason in the order in which they stand here, and in the tree the first item
-- that fails.
use Rattle.std.specs.Prelude.{◌≡◌, ◌≢◌, ℕ, ◌+◌, ◌⊎◌, Bool, true, false, Some, option_map, unwrap_or, List, [], ◌∷◌, ◌++◌, All, length, slice_get}
use Rattle.fs_kinds.specs.declared.kind.Kind.TheVariants.{RwRw}
use Rattle.fs_kinds.specs.declared.placement.Entry.{Entry}
use Rattle.fs_kinds.specs.Placement.{all_with}
use Rattle.fs_kinds.specs.declared.reason.Reason.{Reason}
use Rattle.fs_kinds.specs.declared.reason.Reason.TheVariants as reason
use Rattle.fs_kinds.specs.declared.slot.Slot.{Slot}
use Rattle.fs_model.specs.declared.test.Test.{Test}
use Rattle.fs_model.specs.Slots as test
use Rattle.fs_cert_evidence.specs.Certificate.{Certificate, Answer, Fenced, NoneForbids, Item, SplitAt, Costly, Refuted, Bounded, IsEmpty}
pub use Rattle.fs_cert_evidence.specs.Refusals.{IsCyclesRefusal, IsFirstUnshown}
use Rattle.fs_board_offers.specs.Offers.{Offers, slots}
use Rattle.fs_board_offers.specs.Parts.{Part, undecided, is_undecided, floor, filled, child_parts}
use Rattle.fs_board_offers.specs.Valid.{Forbid, Refutes, Bounds, IsAnswered, is_costly}

-- the answer isn't a placement of the offers, or an answer of none has more or less than its witness
abbrev pub IsBad : Offers → Certificate → Answer → Type 0
IsBad offers c (Fenced cost fences) = (p : List Entry) → IsAnswered offers (Fenced cost fences) p → ⊥
IsBad offers c NoneForbids = (IsEmpty c.cycles → ⊥) ⊎ ((c.tree ≢ []) ⊎ (length c.witnesses ≢ 1))

abbrev pub IsBadAnswer : Offers → Certificate → Type 0
IsBadAnswer offers c = IsBad offers c c.answer

-- the slot of this number is there and undecided
abbrev pub is_free : Offers → ℕ → Part → Bool
is_free offers k part = unwrap_or (option_map (λ slot. is_undecided slot part) (slice_get (slots offers) k)) false

module _ (t : Test) (offers : Offers) (c : Certificate) (p : List Entry) where
  -- the first of these items that fails as a tree of these parts; the first one has the number k in the whole tree
  abbrev pub Fails : List Part → List Item → (k : ℕ) → Reason → Type 0
  -- items left over, or a tree without an end
  Fails [] [] k r = ⊥
  Fails [] (item ∷ items) k r = r ≡ reason.Tree
  Fails (part ∷ parts) [] k r = r ≡ reason.Tree
  -- a slot that isn't there or is split twice
  Fails (part ∷ parts) (SplitAt j ∷ items) k r =
      ((is_free offers j part ≡ false) × (r ≡ reason.Tree))
      ⊎ ((slot : Slot) × (slice_get (slots offers) j ≡ Some slot) × (is_undecided slot part ≡ true)
      × Fails (child_parts offers slot part ++ parts) items (k + 1) r)
  -- a leaf that is better than the answer
  Fails (part ∷ parts) (Costly ∷ items) k r =
      ((is_costly c.version offers p part ≡ false) × (r ≡ reason.Node k))
      ⊎ ((is_costly c.version offers p part ≡ true) × Fails parts items (k + 1) r)
  -- a witness that isn't there or shows nothing against the leaf
  Fails (part ∷ parts) (Refuted j ∷ items) k r =
      ((Refutes t c.witnesses (filled part) j → ⊥) × (r ≡ reason.Witness j))
      ⊎ (Refutes t c.witnesses (filled part) j × Fails parts items (k + 1) r)
  -- the first witness that isn't there or shows nothing against the leaf's floor; or witnesses that don't bound the
  -- leaf
  Fails (part ∷ parts) (Bounded js ∷ items) k r =
      ((j : ℕ) × IsFirstUnshown t c.witnesses (floor part) js j × (r ≡ reason.Witness j))
      ⊎ ((All (Refutes t c.witnesses (floor part)) js × (Bounds t offers c.witnesses p part js → ⊥) × (r ≡ reason.Node k))
      ⊎ (Bounds t offers c.witnesses p part js × Fails parts items (k + 1) r))

-- the reason against a certificate of a placement, from its cycles on; those against witnesses are none
abbrev pub IsPlacedRefusal : Test → Offers → Certificate → List Entry → Reason → Type 0
IsPlacedRefusal t offers c p reason.Cycles = IsCyclesRefusal t p c.cycles reason.Cycles
IsPlacedRefusal t offers c p (reason.Cycle index) = IsCyclesRefusal t p c.cycles (reason.Cycle index)
IsPlacedRefusal t offers c p other = Forbid t p c.cycles × Fails t offers c p (undecided offers ∷ []) c.tree 0 other

-- a reason against a certificate whose answer is one
abbrev pub IsRefusedAfter : Test → Offers → Certificate → Reason → Answer → Type 0
IsRefusedAfter t offers c why (Fenced cost fences) =
    (p : List Entry) × IsAnswered offers (Fenced cost fences) p × IsPlacedRefusal t offers c p why
IsRefusedAfter t offers c why NoneForbids =
    (IsBadAnswer offers c → ⊥) × (Refutes t c.witnesses (all_with (Some RwRw) (test.slots t)) 0 → ⊥)
    × (why ≡ reason.Witness 0)

abbrev pub IsRefusal : Test → Offers → Certificate → Reason → Type 0
IsRefusal t offers c reason.Answer = IsBadAnswer offers c
IsRefusal t offers c why = IsRefusedAfter t offers c why c.answer

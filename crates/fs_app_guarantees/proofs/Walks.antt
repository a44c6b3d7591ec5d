-- The items of a tree can't cover it and fail, and fail for one reason.
use Rattle.std.proofs.Common.{◌≡◌, ℕ, ◌+◌, true, false, Some, option_map, unwrap_or, List, [], ◌∷◌, ◌++◌, sym, ap, subst, ◌∙◌, inl, inr, All}
use Rattle.std.specs.Prelude.{slice_get}
use Rattle.std.specs.List.{AllZip}
use Rattle.std.proofs.lemmas.Bool.{false≢true}
use Rattle.std.proofs.lemmas.List.Elements.{All-nil, All-cons}
use Rattle.fs_kinds.specs.declared.placement.Entry.{Entry}
use Rattle.fs_kinds.specs.declared.reason.Reason.{Reason}
use Rattle.fs_kinds.specs.declared.reason.Reason.TheVariants as reason
use Rattle.fs_kinds.specs.declared.slot.Slot.{Slot}
use Rattle.fs_model.specs.declared.test.Test.{Test}
use Rattle.fs_model.specs.Execution.{Execution}
use Rattle.fs_model.specs.Witness.{Witness}
use Rattle.fs_cert_evidence.specs.Certificate.{Certificate, Item, SplitAt, Costly, Refuted, Bounded}
use Rattle.fs_cert_evidence.specs.Refusals.{IsFirstUnshown}
use Rattle.fs_board_offers.specs.Offers.{Offers, slots}
use Rattle.fs_board_offers.specs.Parts.{Part, is_undecided, floor, child_parts}
use Rattle.fs_board_offers.specs.Refusals.{is_free, Fails}
use Rattle.fs_board_offers.specs.Valid.{RefutesBy, Refutes, Bounds, Covers}
use Rattle.fs_app_guarantees.proofs.Firsts.{same_Some, first_once, none_fails}

-- a slot that is there and undecided is free
is_free_at : (offers : Offers) (j : ℕ) (part : Part) (slot : Slot) → slice_get (slots offers) j ≡ Some slot → is_undecided slot part ≡ true → is_free offers j part ≡ true
is_free_at offers j part slot there free = ap (λ o. unwrap_or (option_map (λ s. is_undecided s part) o) false) there ∙ free

not_free : (offers : Offers) (j : ℕ) (part : Part) (slot : Slot) → is_free offers j part ≡ false → slice_get (slots offers) j ≡ Some slot → is_undecided slot part ≡ true → ⊥
not_free offers j part slot missing there free = false≢true (sym missing ∙ is_free_at offers j part slot there free)

same_slot : (offers : Offers) (j : ℕ) (s u : Slot) → slice_get (slots offers) j ≡ Some s → slice_get (slots offers) j ≡ Some u → s ≡ u
same_slot offers j s u left right = same_Some s u (sym left ∙ right)

-- witnesses that bound a leaf show what they should
each_refutes : (t : Test) (witnesses : List Witness) (p : List Entry) (js : List ℕ) (es : List Execution) → AllZip (RefutesBy t witnesses p) js es → All (Refutes t witnesses p) js
each_refutes t witnesses p [] es all = All-nil (Refutes t witnesses p)
each_refutes t witnesses p (j ∷ js) [] all = absurd all
each_refutes t witnesses p (j ∷ js) (e ∷ es) all = All-cons (Refutes t witnesses p) j js (e, all.0) (each_refutes t witnesses p js es all.1)

all_shown : (t : Test) (witnesses : List Witness) (p : List Entry) (js : List ℕ) (j : ℕ) → All (Refutes t witnesses p) js → IsFirstUnshown t witnesses p js j → ⊥
all_shown t witnesses p js j all h = none_fails (Refutes t witnesses p) js h.0 j h.1 h.2 all h.4

unshown_once : (t : Test) (witnesses : List Witness) (p : List Entry) (js : List ℕ) (i j : ℕ) → IsFirstUnshown t witnesses p js i → IsFirstUnshown t witnesses p js j → i ≡ j
unshown_once t witnesses p js i j h k = first_once (Refutes t witnesses p) h.0 k.0 i j h.1 k.1 (sym h.2 ∙ k.2) h.3 h.4 k.3 k.4

module _ (t : Test) (offers : Offers) (c : Certificate) (p : List Entry) where
  bounding : (part : Part) (js : List ℕ) → Bounds t offers c.witnesses p part js → All (Refutes t c.witnesses (floor part)) js
  bounding part js h = each_refutes t c.witnesses (floor part) js h.0 h.1

  abbrev Failing : List Part → List Item → ℕ → Reason → Type 0
  Failing = Fails t offers c p

  -- the same split by another name of its slot
  resplit : (part : Part) (parts : List Part) (items : List Item) (k : ℕ) (r : Reason) (s u : Slot) → s ≡ u
      → Failing (child_parts offers s part ++ parts) items k r → Failing (child_parts offers u part ++ parts) items k r
  resplit part parts items k r s u same h = subst (λ slot. Failing (child_parts offers slot part ++ parts) items k r) same h

  pub covers_or_fails : (parts : List Part) (items : List Item) (k : ℕ) (r : Reason) → Covers t offers c p parts items → Failing parts items k r → ⊥
  covers_or_fails [] [] k r h f = f
  covers_or_fails [] (item ∷ items) k r h f = h
  covers_or_fails (part ∷ parts) [] k r h f = h
  covers_or_fails (part ∷ parts) (SplitAt j ∷ items) k r h f = elim f [
    | inl bad ↦ not_free offers j part h.0 bad.0 h.1 h.2
    | inr on ↦ covers_or_fails (child_parts offers h.0 part ++ parts) items (k + 1) r h.3
        (resplit part parts items (k + 1) r on.0 h.0 (same_slot offers j on.0 h.0 on.1 h.1) on.3)
  ]
  covers_or_fails (part ∷ parts) (Costly ∷ items) k r h f = elim f [
    | inl bad ↦ false≢true (sym bad.0 ∙ h.0)
    | inr on ↦ covers_or_fails parts items (k + 1) r h.1 on.1
  ]
  covers_or_fails (part ∷ parts) (Refuted j ∷ items) k r h f = elim f [
    | inl bad ↦ bad.0 h.0
    | inr on ↦ covers_or_fails parts items (k + 1) r h.1 on.1
  ]
  covers_or_fails (part ∷ parts) (Bounded js ∷ items) k r h f = elim f [
    | inl unshown ↦ all_shown t c.witnesses (floor part) js unshown.0 (bounding part js h.0) unshown.1
    | inr shown ↦ elim shown [
      | inl bad ↦ bad.1 h.0
      | inr on ↦ covers_or_fails parts items (k + 1) r h.1 on.1
    ]
  ]

  pub fails_once : (parts : List Part) (items : List Item) (k : ℕ) (r s : Reason) → Failing parts items k r → Failing parts items k s → r ≡ s
  fails_once [] [] k r s f g = absurd f
  fails_once [] (item ∷ items) k r s f g = f ∙ sym g
  fails_once (part ∷ parts) [] k r s f g = f ∙ sym g
  fails_once (part ∷ parts) (SplitAt j ∷ items) k r s f g = elim f [
    | inl bad ↦ elim g [
      | inl too ↦ bad.1 ∙ sym too.1
      | inr on ↦ absurd (not_free offers j part on.0 bad.0 on.1 on.2)
    ]
    | inr on ↦ elim g [
      | inl bad ↦ absurd (not_free offers j part on.0 bad.0 on.1 on.2)
      | inr too ↦ fails_once (child_parts offers on.0 part ++ parts) items (k + 1) r s on.3
          (resplit part parts items (k + 1) s too.0 on.0 (same_slot offers j too.0 on.0 too.1 on.1) too.3)
    ]
  ]
  fails_once (part ∷ parts) (Costly ∷ items) k r s f g = elim f [
    | inl bad ↦ elim g [
      | inl too ↦ bad.1 ∙ sym too.1
      | inr on ↦ absurd (false≢true (sym bad.0 ∙ on.0))
    ]
    | inr on ↦ elim g [
      | inl bad ↦ absurd (false≢true (sym bad.0 ∙ on.0))
      | inr too ↦ fails_once parts items (k + 1) r s on.1 too.1
    ]
  ]
  fails_once (part ∷ parts) (Refuted j ∷ items) k r s f g = elim f [
    | inl bad ↦ elim g [
      | inl too ↦ bad.1 ∙ sym too.1
      | inr on ↦ absurd (bad.0 on.0)
    ]
    | inr on ↦ elim g [
      | inl bad ↦ absurd (bad.0 on.0)
      | inr too ↦ fails_once parts items (k + 1) r s on.1 too.1
    ]
  ]
  fails_once (part ∷ parts) (Bounded js ∷ items) k r s f g = elim f [
    | inl first ↦ elim g [
      | inl too ↦ first.2 ∙ ap reason.Witness (unshown_once t c.witnesses (floor part) js first.0 too.0 first.1 too.1) ∙ sym too.2
      | inr shown ↦ elim shown [
        | inl bad ↦ absurd (all_shown t c.witnesses (floor part) js first.0 bad.0 first.1)
        | inr on ↦ absurd (all_shown t c.witnesses (floor part) js first.0 (bounding part js on.0) first.1)
      ]
    ]
    | inr shown ↦ elim g [
      | inl first ↦ elim shown [
        | inl bad ↦ absurd (all_shown t c.witnesses (floor part) js first.0 bad.0 first.1)
        | inr on ↦ absurd (all_shown t c.witnesses (floor part) js first.0 (bounding part js on.0) first.1)
      ]
      | inr others ↦ elim shown [
        | inl bad ↦ elim others [
          | inl too ↦ bad.2 ∙ sym too.2
          | inr on ↦ absurd (bad.1 on.0)
        ]
        | inr on ↦ elim others [
          | inl bad ↦ absurd (bad.1 on.0)
          | inr too ↦ fails_once parts items (k + 1) r s on.1 too.1
        ]
      ]
    ]
  ]

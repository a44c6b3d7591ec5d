-- Floors of parts, and lists of witnesses.
use Rattle.std.proofs.Common.{◌≡◌, ℕ, zero, suc, Option, Some, None, List, [], ◌∷◌, ◌++◌, refl, sym, ap, subst, ◌∙◌, inl, inr}
use Rattle.std.specs.Prelude.{slice_get}
use Rattle.fs_kinds.specs.declared.kind.Kind.{Kind}
use Rattle.fs_kinds.specs.declared.placement.Entry.{Entry}
use Rattle.fs_kinds.specs.declared.slot.Slot.{Slot}
use Rattle.fs_kinds.specs.Placement.{slots_of, with_kind}
use Rattle.fs_kinds.proofs.Entries.{slots_of-with_kind}
use Rattle.fs_model.specs.declared.test.Test.{Test}
use Rattle.fs_model.specs.Execution.{Execution}
use Rattle.fs_board_offers.specs.Parts.{Part, filled_with, floor, slots_in_part}
use Rattle.fs_model_laws.proofs.Places.{at-append}
use Rattle.fs_cert_evidence.specs.Evidence.{Shown, IsWitnessAt}
use Rattle.fs_board.specs.Growth.{AreWitnesses}

pub slots-filled : (kind : Option Kind) (part : Part) → slots_of (filled_with kind part) ≡ slots_in_part part
slots-filled kind [] = refl
slots-filled kind (d ∷ part) = ap (λ (ss : List Slot). d.slot ∷ ss) (slots-filled kind part)

-- with a kind put at a slot a placement has the same slots
pub slots_with : (s : Slot) (kind : Option Kind) (p q : List Entry) → q ≡ with_kind s kind p → slots_of q ≡ slots_of p
slots_with s kind p q is = ap slots_of is ∙ slots_of-with_kind s kind p

-- a placement that is the floor has the slots of the part
pub floor-slots : (part : Part) (p : List Entry) (ss : List Slot) → p ≡ floor part → slots_in_part part ≡ ss → slots_of p ≡ ss
floor-slots part p ss is same = ap slots_of is ∙ (slots-filled None part ∙ same)

at-last : (w v : Shown) (k : ℕ) → slice_get (w ∷ []) k ≡ Some v → w ≡ v
at-last w v zero at = cc
at-last w v (suc k) at = absurd (cc)

pub no-witnesses : (t : Test) (ss : List Slot) → AreWitnesses t ss []
no-witnesses t ss k w at = absurd (cc)

pub one-more : (t : Test) (ss : List Slot) (ws : List Shown) (w : Shown) (more : List Shown) → more ≡ ws ++ w ∷ [] → AreWitnesses t ss ws
    → (e : Execution) × IsWitnessAt t ss w e → AreWitnesses t ss more
one-more t ss ws w more is each new = λ k v at.
    elim (at-append ws (w ∷ []) k v (ap (λ l. slice_get l k) (sym is) ∙ at)) [
      | inl old ↦ each k v old
      | inr last ↦ subst (λ (x : Shown). (e : Execution) × IsWitnessAt t ss x e) (at-last w v last.0 last.1) new
    ]

-- a witness of the list once more in another list
pub picked-more : (t : Test) (ss : List Slot) (ws vs more : List Shown) (w : Shown) (k : ℕ) → more ≡ vs ++ w ∷ [] → slice_get ws k ≡ Some w
    → AreWitnesses t ss ws → AreWitnesses t ss vs → AreWitnesses t ss more
picked-more t ss ws vs more w k is at all each = one-more t ss vs w more is each (all k w at)

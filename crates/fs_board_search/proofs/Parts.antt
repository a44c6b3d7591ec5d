-- Parts that are filled, and what shows it of them.
use Rattle.std.proofs.Common.{◌≡◌, Bool, true, false, Option, Some, None, List, [], ◌∷◌, refl, sym, ap₂, subst, ◌∙◌}
use Rattle.std.specs.Prelude.{is_none, unwrap_or, ◌||◌}
use Rattle.std.specs.List.{list_any}
use Rattle.std.proofs.lemmas.Bool.{false≢true}
use Rattle.fs_kinds.specs.declared.kind.Kind.{Kind}
use Rattle.fs_kinds.specs.declared.kind.Kind.TheVariants.{RwRw}
use Rattle.fs_kinds.specs.declared.placement.Entry.{Entry}
use Rattle.fs_kinds.specs.declared.slot.Slot.{Slot}
use Rattle.fs_kinds.specs.Placement.{slots_of}
use Rattle.fs_model.specs.declared.test.Test.{Test}
use Rattle.fs_model.specs.Execution.{Execution}
use Rattle.fs_model.specs.Allows.{Shows}
use Rattle.fs_cert_evidence.specs.Shown.{IsShownBy}
use Rattle.fs_board_offers.specs.Parts.{Part, Decision, floor, filled}
use Rattle.fs_cert_evidence.specs.Evidence.{Shown, IsWitnessAt}

entry-same : (d : Decision) → is_none d.decided ≡ false → unwrap_or d.decided None ≡ unwrap_or d.decided (Some RwRw)
entry-same d some = elim d.decided as (λ o. is_none o ≡ false → unwrap_or o None ≡ unwrap_or o (Some RwRw)) [
  | None ↦ λ e. absurd (false≢true (sym e))
  | Some kind ↦ λ e. refl
] some

or-false : (a b : Bool) → (a || b) ≡ false → (a ≡ false) × (b ≡ false)
or-false true b e = absurd (false≢true (sym e))
or-false false b e = (refl, e)

-- with no undecided slot there is one completion
pub floor-filled : (part : Part) → list_any (λ d. is_none d.decided) part ≡ false → floor part ≡ filled part
floor-filled [] e = refl
floor-filled (d ∷ part) e =
    let both = or-false (is_none d.decided) (list_any (λ d. is_none d.decided) part) e in
    ap₂ (λ (k : Option Kind) (p : List Entry). record { slot = d.slot; kind = k } ∷ p) (entry-same d both.0) (floor-filled part both.1)

-- ---- verdicts on a node that has no undecided slot

-- a witness of its one placement shows the outcome with the filled part
pub leaf-shown : (t : Test) (part : Part) (p : List Entry) (w v : Shown) → list_any (λ d. is_none d.decided) part ≡ false → p ≡ floor part
    → v ≡ w → (e : Execution) × IsWitnessAt t (slots_of p) w e × Shows t p e → IsShownBy t (filled part) v.witness
leaf-shown t part p w v none is copy shown =
    subst (λ (x : Shown). IsShownBy t (filled part) x.witness) (sym copy)
    (shown.0, (shown.1.shows.0, subst (λ (x : List Entry). Shows t x shown.0) (is ∙ floor-filled part none) shown.2))

-- ---- witnesses of a placement

-- a witness of a placement has its widths at the placement's slots, which these are
pub made-at : (t u : Test) (p : List Entry) (ss : List Slot) (w v : Shown) → t ≡ u → slots_of p ≡ ss → v ≡ w
    → (e : Execution) × IsWitnessAt t (slots_of p) w e × Shows t p e → (e : Execution) × IsWitnessAt u ss v e
made-at t u p ss w v same over copy shown =
    subst (λ (x : Shown). (e : Execution) × IsWitnessAt u ss x e) (sym copy)
    (subst (λ (x : Test). (e : Execution) × IsWitnessAt x ss w e) same
    (subst (λ (us : List Slot). (e : Execution) × IsWitnessAt t us w e) over (shown.0, shown.1)))

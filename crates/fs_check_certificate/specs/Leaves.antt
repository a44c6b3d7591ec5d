-- What is kept of a certificate's witnesses, and what is said of the leaves of its tree.
use Rattle.std.specs.Prelude.{◌≡◌, ℕ, Bool, true, false, Option, None, Some, List, [], All}
use Rattle.std.specs.List.{AllZip}
use Rattle.fs_kinds.specs.declared.placement.Entry.{Entry}
use Rattle.fs_board_offers.specs.Offers.{Offers}
use Rattle.fs_model.specs.declared.test.Test.{Test}
use Rattle.fs_model.specs.Slots.{slots}
use Rattle.fs_model.specs.Execution.{Execution}
use Rattle.fs_model.specs.Witness.{Witness}
use Rattle.fs_cert_evidence.specs.Widths.{width}
use Rattle.fs_board_offers.specs.Parts.{Part, floor}
use Rattle.fs_cert_evidence.specs.Shown.{ShowsAs, IsShownBy}
use Rattle.fs_board_offers.specs.Valid.{Refutes, Bounds}
use Rattle.fs_cert_evidence.specs.Refusals.{IsFirstUnshown}
use Rattle.fs_cert_evidence.specs.declared.evidence.Pairs.{Pairs}
use Rattle.fs_cert_evidence.specs.Evidence.{widths_of}
use Rattle.fs_check_certificate.specs.declared.bounds.Bounding.{Bounding}
use Rattle.fs_check_certificate.specs.declared.bounds.Bounding.TheVariants.{Holds, Unshown, Fails}

abbrev pub Decides : Bool → Type 0 → Type 0
Decides true P = P
Decides false P = P → ⊥

-- what is kept of a witness: nothing where it doesn't show the outcome even without fences, else its widths, by the
-- test's slots
abbrev pub ShowsWidths : Test → Witness → Option (List Pairs) → Type 0
ShowsWidths t w None = IsShownBy t [] w → ⊥
ShowsWidths t w (Some widths) = (e : Execution) × ShowsAs t [] w e × (widths ≡ widths_of (width t e) (slots t))

abbrev pub AreShown : Test → List Witness → List (Option (List Pairs)) → Type 0
AreShown t = AllZip (ShowsWidths t)

-- what is said of a leaf that witnesses are to bound
abbrev pub IsBounding : Test → Offers → List Witness → List Entry → Part → List ℕ → Bounding → Type 0
IsBounding t offers ws p part js Holds = Bounds t offers ws p part js
IsBounding t offers ws p part js (Unshown j) = IsFirstUnshown t ws (floor part) js j
IsBounding t offers ws p part js Fails = All (Refutes t ws (floor part)) js × (Bounds t offers ws p part js → ⊥)

-- What a walk over a tree's items shows.
use Rattle.std.specs.Prelude.{◌≡◌, ℕ, ◌+◌, Option, None, Some, List, [], ◌∷◌}
use Rattle.fs_kinds.specs.declared.placement.Entry.{Entry}
use Rattle.fs_kinds.specs.declared.reason.Reason.{Reason}
use Rattle.fs_kinds.specs.declared.slot.Slot.{Slot}
use Rattle.fs_model.specs.declared.test.Test.{Test}
use Rattle.fs_model.specs.Slots as test
use Rattle.fs_model.specs.Test.{IsBounded}
use Rattle.fs_cert_evidence.specs.Certificate.{Certificate, Item}
use Rattle.fs_board_offers.specs.Offers.{Offers, slots}
use Rattle.fs_board_offers.specs.Parts.{Part, slots_in_part}
use Rattle.fs_board_offers.specs.Valid.{Covers}
use Rattle.fs_board_offers.specs.Refusals.{Fails}
use Rattle.fs_cert_evidence.specs.declared.evidence.Pairs.{Pairs}
use Rattle.fs_cert_json.specs.declared.certificate.Version.{Version as CodeVersion}
use Rattle.fs_cert_json.specs.Kept.{version_of}
use Rattle.fs_check_certificate.specs.Breaks.{all_breaks}
use Rattle.fs_check_certificate.specs.Leaves.{AreShown}

-- each part has the slots of the test
abbrev pub AreOfTest : Test → List Part → Type 0
AreOfTest t [] = Unit {0}
AreOfTest t (part ∷ parts) = (slots_in_part part ≡ test.slots t) × AreOfTest t parts

-- the version and the slots are those of the certificate and of the test, for which the offers are, and this is what is
-- kept of the witnesses, and what it costs to break them
pub record AreGrounds (t : Test) (offers : Offers) (c : Certificate) (version : CodeVersion) (its_slots : List Slot) (shown : List (Option (List Pairs)))
    (breaks : List (List (Option ℕ))) : Type 0 where
  pub bounded : IsBounded t
  pub version_is : c.version ≡ version_of version
  pub offered : slots offers ≡ test.slots t
  pub slots_are : its_slots ≡ test.slots t
  pub shown_are : AreShown t c.witnesses shown
  pub breaks_are : breaks ≡ all_breaks offers (test.slots t) shown

-- What is left leads to the whole: where the items left cover the parts left, or fail for a reason, so do all items the
-- parts at the beginning. The numbers are those of the first item, and of the first that is left.
pub record LeadsTo (t : Test) (offers : Offers) (c : Certificate) (p : List Entry) (rest : List Part) (left : List Item) (next : ℕ)
    (parts : List Part) (items : List Item) (k : ℕ) : Type 0 where
  pub covers : Covers t offers c p rest left → Covers t offers c p parts items
  pub fails : (r : Reason) → Fails t offers c p rest left next r → Fails t offers c p parts items k r

-- the item holds and leaves these parts, or the tree fails at it for the reason
abbrev pub IsTaken : Test → Offers → Certificate → List Entry → List Part → Item → ℕ → Option Reason → List Part → Type 0
IsTaken t offers c p parts item k None rest =
    AreOfTest t rest × ((left : List Item) → LeadsTo t offers c p rest left (k + 1) parts (item ∷ left) k)
IsTaken t offers c p parts item k (Some r) rest = (left : List Item) → Fails t offers c p parts (item ∷ left) k r

-- the leaf holds for its part, or fails for the reason, whatever parts come after it
abbrev pub IsLeaf : Test → Offers → Certificate → List Entry → Part → Item → ℕ → Option Reason → Type 0
IsLeaf t offers c p part leaf k why = (parts : List Part) → AreOfTest t parts → IsTaken t offers c p (part ∷ parts) leaf k why parts

-- the items cover the parts, or fail for the reason
abbrev pub IsWalked : Test → Offers → Certificate → List Entry → List Part → List Item → Option Reason → Type 0
IsWalked t offers c p parts items None = Covers t offers c p parts items
IsWalked t offers c p parts items (Some r) = Fails t offers c p parts items 0 r

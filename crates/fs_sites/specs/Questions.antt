-- One fence for a function in all its copies, and several tests in one question. A site is a place in a function, and
-- a place in a test is a copy of it. A placement over sites has an entry for each, in the order of their numbers; the
-- slots of these entries are names only.
use Rattle.std.specs.Prelude.{◌≡◌, ℕ, true, Option, Some, option_and_then, List, All, map, slice_get}
use Rattle.fs_kinds.specs.declared.kind.Kind.{Kind}
use Rattle.fs_kinds.specs.declared.kind.Kind.TheVariants.{RwRw}
use Rattle.fs_kinds.specs.declared.placement.Entry.{Entry}
use Rattle.fs_kinds.specs.declared.slot.Slot.{Slot}
use Rattle.fs_kinds.specs.Placement.{all_with}
use Rattle.fs_kinds.specs.Slot.{is_rising}
use Rattle.fs_model.specs.declared.test.Test.{Test}
use Rattle.fs_model.specs.Allows.{Allows}
use Rattle.fs_model.specs.Test.{IsBounded, IsStart}
use Rattle.fs_board_offers.specs.Offers.{Offers, slots, is_better, IsPlacement}
use Rattle.fs_board_offers.specs.Questions.{HasTop}
use Rattle.fs_sites.specs.Plans.{ArePlain}
use Rattle.fs_sites.specs.declared.question.Place.{Place}

-- a test, whose outcome is to be ruled out, with its places: before the instruction of a place's slot stands the fence of
-- its site
pub record Part : Type 0 where
  pub test : Test
  pub places : List Place

-- the tests, and what may stand at the sites: offer number k is that of site number k
pub record Question : Type 0 where
  pub parts : List Part
  pub offers : Offers

-- the fence of the site of this number; none past the last site
abbrev pub kind_of : ℕ → List Entry → Option Kind
kind_of site p = option_and_then (λ e. e.kind) (slice_get p site)

-- what stands in a test with these places: at each the fence of its site
abbrev pub image : List Place → List Entry → List Entry
image places p = map (λ place. record { slot = place.slot; kind = kind_of place.site p }) places

-- with these fences of the sites some test's outcome is allowed
abbrev pub AllowsIn : List Part → List Entry → Type 0
AllowsIn parts p =
    (number : ℕ) × (part : Part) × (slice_get parts number ≡ Some part) × Allows part.test (image part.places p)

-- p forbids each test's outcome, and every better placement allows one
pub record IsCheapestIn (q : Question) (p : List Entry) : Type 0 where
  pub placement : IsPlacement q.offers p
  pub forbids : AllowsIn q.parts p → ⊥
  pub better : (r : List Entry) → IsPlacement q.offers r → is_better q.offers r p ≡ true → AllowsIn q.parts r

-- rw,rw at each site
abbrev pub top : Offers → List Entry
top offers = all_with (Some RwRw) (slots offers)

-- ---- what may be asked

abbrev pub slots_at : List Place → List Slot
slots_at = map (λ place. place.slot)

pub record IsPart (part : Part) : Type 0 where
  pub rising : is_rising (slots_at part.places) ≡ true
  pub bounded : IsBounded part.test
  pub starts : All IsStart part.test.starts

-- rw,rw is offered at each site, and no kind is written there
pub record IsQuestion (q : Question) : Type 0 where
  pub parts : All IsPart q.parts
  pub top : HasTop q.offers
  pub plain : ArePlain q.offers

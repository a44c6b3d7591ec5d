-- The bar of an execution: the pairs that its order keeps at all places of a site.
use Rattle.std.specs.Prelude.{◌≡◌, ◌<◌, ◌≤◌, ℕ, true, Some, List, slice_get}
use Rattle.fs_kinds.specs.declared.placement.Entry.{Entry}
use Rattle.fs_kinds.specs.Kind.{Pair}
use Rattle.fs_board_offers.specs.Offers.{Offers, IsPlacement}
use Rattle.fs_model.specs.Allows.{Allows}
use Rattle.fs_cert_evidence.specs.declared.evidence.Pairs.{Pairs}
use Rattle.fs_cert_evidence.specs.Evidence.{Shown, keeps}
use Rattle.fs_sites.specs.Plans.{is_within}
use Rattle.fs_sites.specs.Answers.{IsShownIn}
use Rattle.fs_sites.specs.Questions.{Part, AllowsIn, image}
use Rattle.fs_sites.specs.declared.question.Place.{Place}

-- each pair of the first is one of the second
abbrev pub Has : Pairs → Pairs → Type 0
Has first second = (pair : Pair) → keeps first pair ≡ true → keeps second pair ≡ true

-- the pairs are kept at each of the first places, so many, that is one of the site
abbrev pub AreKeptBefore : ℕ → List Place → List Pairs → (site : ℕ) → Pairs → Type 0
AreKeptBefore most places widths site pairs =
    (k : ℕ) (place : Place) (width : Pairs) → k < most → slice_get places k ≡ Some place
    → slice_get widths k ≡ Some width → place.site ≡ site → Has pairs width

-- and at each place of the site
abbrev pub AreKept : List Place → List Pairs → (site : ℕ) → Pairs → Type 0
AreKept places widths site pairs =
    (k : ℕ) (place : Place) (width : Pairs) → slice_get places k ≡ Some place → slice_get widths k ≡ Some width
    → place.site ≡ site → Has pairs width

-- for each site in order
abbrev pub IsBar : List Place → List Pairs → List Pairs → Type 0
IsBar places widths bar =
    (site : ℕ) (pairs : Pairs) → slice_get bar site ≡ Some pairs → AreKept places widths site pairs

-- a placement that leaves the bar unbroken allows some test's outcome
abbrev pub IsBarOf : List Part → Offers → List Pairs → Type 0
IsBarOf parts offers bar = (r : List Entry) → IsPlacement offers r → is_within bar r ≡ true → AllowsIn parts r

-- and each of these is such a bar
abbrev pub AreBars : List Part → Offers → List (List Pairs) → Type 0
AreBars parts offers bars = (k : ℕ) (bar : List Pairs) → slice_get bars k ≡ Some bar → IsBarOf parts offers bar

-- the witness shows the outcome of the test of this number with some fences of the sites
abbrev pub IsShownBySome : List Part → ℕ → Shown → Type 0
IsShownBySome parts number witness = (p : List Entry) × IsShownIn parts p number witness

-- no test from one number up to another allows its outcome with these fences of the sites
abbrev pub ForbidBetween : List Part → (from to : ℕ) → List Entry → Type 0
ForbidBetween parts from to p =
    (number : ℕ) (part : Part) → from ≤ number → number < to → slice_get parts number ≡ Some part
    → Allows part.test (image part.places p) → ⊥

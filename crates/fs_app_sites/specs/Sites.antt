-- Which question tests ask whose labels name sites, or whose slots are sites of their own.
use Rattle.std.specs.Prelude.{◌≡◌, ◌⊎◌, ℕ, ◌/◌, ◌%◌, ◌==◌, if◌then◌else◌, Bool, true, false, Option, None, Some, unwrap_or, List, [], ◌∷◌, ◌++◌, map, fold, length, codes, string_bytes}
use Rattle.std.specs.List.{AllZip, enumerate_from, position_from}
use Rattle.std.specs.Str.{bytes_eq}
use Rattle.serde_json.specs.Data.{Data}
use Rattle.fs_kinds.specs.declared.fault.Fault.{Fault}
use Rattle.fs_kinds.specs.declared.fault.Fault.TheVariants.{Unmatched}
use Rattle.fs_kinds.specs.declared.slot.Slot.{Slot}
use Rattle.fs_kinds.specs.Kind.{all_kinds}
use Rattle.fs_kinds.specs.Slot.{is_before, is_rising, is_same_slot, slot_name}
use Rattle.fs_model.specs.declared.test.Test.{Test}
use Rattle.fs_model.specs.Slots.{slots}
use Rattle.fs_model.specs.Test.{IsTest}
use Rattle.fs_litmus.specs.Reads.{Reads}
use Rattle.fs_litmus.specs.Faults.{IsTestFault}
use Rattle.fs_litmus.specs.SiteLabels.{SiteLabel}
use Rattle.fs_litmus.specs.Sited.{HasSites, IsSiteFault}
use Rattle.fs_board_offers.specs.Offers.{Offer, Offers}
use Rattle.fs_sites.specs.Questions.{Part, Question}
use Rattle.fs_sites.specs.declared.question.Place.{Place}
use Rattle.fs_app_sites.specs.declared.content.File.{File}
use Rattle.fs_app_sites.specs.declared.content.SiteCopy.{SiteCopy}
use Rattle.fs_app_sites.specs.declared.content.Tests.{Tests}
use Rattle.fs_app_sites.specs.SitePrices.{cost_at}

-- ---- what a file holds

-- a copy of the site of this name: its fence stands before the instruction of this slot
pub record Copy : Type 0 where
  pub slot : Slot
  pub name : List ℕ

-- a label's copy stands where the label does
abbrev pub copy_of : SiteLabel → Copy
copy_of l = record { slot = record { hart = l.hart; at = l.at }; name = l.name }

-- the labels of the bytes name these copies
abbrev pub HaveCopies : List ℕ → List Copy → Type 0
HaveCopies bytes copies = (labels : List SiteLabel) × HasSites bytes labels × (copies ≡ map copy_of labels)

-- ---- slots that are sites of their own

-- the one copy of such a site, whose name is that of the slot behind a prefix
abbrev pub own_copy : (prefix : List ℕ) → Slot → Copy
own_copy prefix s = record { slot = s; name = prefix ++ slot_name s }

-- the copies with that of the slot before the first copy that stands later; where one stands at the slot, nothing more
abbrev pub with_slot : (prefix : List ℕ) → List Copy → Slot → List Copy
with_slot prefix [] s = own_copy prefix s ∷ []
with_slot prefix (copy ∷ copies) s =
    if is_same_slot copy.slot s then copy ∷ copies
    else (if is_before s copy.slot then own_copy prefix s ∷ copy ∷ copies else copy ∷ with_slot prefix copies s)

-- the copies with those of these slots
abbrev pub with_slots : (prefix : List ℕ) → List Copy → List Slot → List Copy
with_slots prefix = fold (with_slot prefix)

-- the copies of sites in a test where labels name these: with `--free` each slot at which none stands is a site of its
-- own too
abbrev pub all_copies : (is_free : Bool) (prefix : List ℕ) → Test → List Copy → List Copy
all_copies false prefix t copies = copies
all_copies true prefix t copies = with_slots prefix copies (slots t)

-- of the test that the bytes read as
abbrev pub HaveAllCopies : (is_free : Bool) (prefix bytes : List ℕ) → Test → List Copy → Type 0
HaveAllCopies is_free prefix bytes t copies =
    (named : List Copy) × HaveCopies bytes named × (copies ≡ all_copies is_free prefix t named)

-- what stands before the slot in the name of such a site: nothing where one file is given, and else the name of the
-- file and `:`
abbrev pub prefix_of : List File → File → List ℕ
prefix_of files file = if length files == 1 then [] else string_bytes file.name ++ codes ":"

-- ---- what a file holds

-- a test, and the copies of sites in it
pub record Content : Type 0 where
  pub test : Test
  pub copies : List Copy

pub record IsContent (is_free : Bool) (prefix bytes : List ℕ) (c : Content) : Type 0 where
  pub reads : Reads bytes c.test
  pub copies : HaveAllCopies is_free prefix bytes c.test c.copies

-- that of one of the tests
abbrev pub IsContentOf : Tests → File → Content → Type 0
IsContentOf tests file = IsContent tests.is_free (prefix_of tests.files file) file.bytes.items

-- that of each
abbrev pub AreContents : Tests → List Content → Type 0
AreContents tests = AllZip (IsContentOf tests) tests.files

-- ---- the question

-- the number of the site of this name, if it is one of these
abbrev pub number_of : List (List ℕ) → List ℕ → Option ℕ
number_of names name = position_from (λ known. bytes_eq known name) 0 names

abbrev pub appended : List (List ℕ) → List ℕ → Option ℕ → List (List ℕ)
appended names name None = names ++ name ∷ []
appended names name (Some number) = names

-- the names with this one, if it is new
abbrev pub with_name : List (List ℕ) → List ℕ → List (List ℕ)
with_name names name = appended names name (number_of names name)

abbrev pub with_copies : List (List ℕ) → List Copy → List (List ℕ)
with_copies = fold (λ names copy. with_name names copy.name)

-- the names of the sites of all files, each once, in the order in which they first stand
abbrev pub names_of : List Content → List (List ℕ)
names_of = fold (λ names c. with_copies names c.copies) []

-- the place of a copy, by the number of its site
abbrev pub place_of : List (List ℕ) → Copy → Place
place_of names copy = record { slot = copy.slot; site = unwrap_or (number_of names copy.name) 0 }

abbrev pub places_of : List (List ℕ) → List Copy → List Place
places_of names = map (place_of names)

abbrev pub part_of : List (List ℕ) → Content → Part
part_of names c = record { test = c.test; places = places_of names c.copies }

-- the slot that stands for the site of this number: a name only
abbrev pub key : ℕ → Slot
key number = record { hart = number / 256; at = number % 256 }

-- how many sites have a key of their own
abbrev pub most_sites : ℕ
most_sites = 65536

-- at a site each kind that has a price, for its price times the site's weight
abbrev pub offer_of : Data → ℕ × List ℕ → Offer
offer_of prices site = record { slot = key site.0; costs = map (cost_at prices site.1) all_kinds; written = None }

-- at sites of these names
abbrev pub offers_of : Data → List (List ℕ) → Offers
offers_of prices names = map (offer_of prices) (enumerate_from 0 names)

-- the question of files that hold this, with sites of these names
abbrev pub question_of : Data → List (List ℕ) → List Content → Question
question_of prices names contents = record { parts = map (part_of names) contents; offers = offers_of prices names }

-- ---- faults

-- of the labels of a file; labels whose harts or positions aren't of a byte, or don't rise, would be `Unmatched`
abbrev pub IsLabelsFault : List ℕ → Fault → Type 0
IsLabelsFault bytes fault = IsSiteFault bytes fault ⊎ (fault ≡ Unmatched)

-- of a file: of its test, or else of its labels
abbrev pub IsFileFault : List ℕ → Fault → Type 0
IsFileFault bytes fault = IsTestFault bytes fault ⊎ ((t : Test) × Reads bytes t × IsLabelsFault bytes fault)

-- of the first of these files of the tests that has one
abbrev pub IsFaultIn : Tests → List File → Fault → Type 0
IsFaultIn tests [] fault = ⊥
IsFaultIn tests (file ∷ files) fault =
    IsFileFault file.bytes.items fault ⊎ (((c : Content) × IsContentOf tests file c) × IsFaultIn tests files fault)

abbrev pub IsFilesFault : Tests → Fault → Type 0
IsFilesFault tests = IsFaultIn tests tests.files

-- ---- what the reader's values stand for

abbrev pub copy_value : SiteCopy → Copy
copy_value c = record { slot = c.slot; name = string_bytes c.name }

abbrev pub slots_of : List Copy → List Slot
slots_of = map (λ copy. copy.slot)

-- what was read of a file: a test, and copies whose slots rise
pub record IsSound (c : Content) : Type 0 where
  pub test : IsTest c.test
  pub rising : is_rising (slots_of c.copies) ≡ true

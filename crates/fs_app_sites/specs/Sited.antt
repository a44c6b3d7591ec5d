-- The sites of one file, and the fences that words such as `lock=r,r` put at them.
use Rattle.std.specs.Prelude.{◌≡◌, ◌≢◌, ◌⊎◌, ◌<◌, ◌+◌, ◌*◌, ℕ, Bool, List, [], ◌++◌, map, length, slice_index_or}
use Rattle.std.specs.Prelude.{Any, Option, Some, None, codes}
use Rattle.std.specs.List.{range_with_len}
use Rattle.fs_kinds.specs.declared.fault.Fault.{Fault}
use Rattle.fs_kinds.specs.declared.fault.Fault.TheVariants.{NodeLimit}
use Rattle.fs_kinds.specs.declared.kind.Kind.{Kind}
use Rattle.fs_kinds.specs.declared.placement.Entry.{Entry}
use Rattle.fs_kinds.specs.declared.slot.Slot.{Slot}
use Rattle.fs_kinds.specs.Kind.{word}
use Rattle.fs_kinds.specs.Placement.{all_with}
use Rattle.fs_model.specs.declared.test.Test.{Test}
use Rattle.fs_model.specs.Placed.{placed}
use Rattle.fs_litmus.specs.Faults.{IsTestFault}
use Rattle.fs_litmus.specs.Reads.{Reads}
use Rattle.fs_sites.specs.declared.question.Place.{Place}
use Rattle.fs_app_sites.specs.Sites.{Copy, HaveAllCopies, IsLabelsFault, key, most_sites, places_of, with_copies}

-- ---- the sites of a file

-- the copies of sites in a file that reads as this test: with is_free each slot of the test at which no label stands is
-- a site of its own too, such as `P0:3`
abbrev pub HaveSites : (is_free : Bool) → List ℕ → Test → List Copy → Type 0
HaveSites is_free = HaveAllCopies is_free []

-- the bytes read as the test with copies of sites: these are their places, and the names of the sites in the order in
-- which they first stand
pub record AreSites (is_free : Bool) (bytes : List ℕ) (t : Test) (places : List Place) (names : List (List ℕ))
    : Type 0 where
  pub copies : List Copy
  pub reads : Reads bytes t
  pub have : HaveSites is_free bytes t copies
  pub named : names ≡ with_copies [] copies
  pub stand : places ≡ places_of names copies

-- there are more sites than keys
abbrev pub HaveTooMany : (is_free : Bool) → List ℕ → Test → Type 0
HaveTooMany is_free bytes t =
    (copies : List Copy) × HaveSites is_free bytes t copies × (most_sites < length (with_copies [] copies))

-- of the labels of a file, or else that there are too many sites
abbrev pub IsSitesFault : (is_free : Bool) → List ℕ → Test → Fault → Type 0
IsSitesFault is_free bytes t fault = IsLabelsFault bytes fault ⊎ ((fault ≡ NodeLimit) × HaveTooMany is_free bytes t)

-- of a file: of its test, or else of its sites
abbrev pub IsSitedFault : (is_free : Bool) → List ℕ → Fault → Type 0
IsSitedFault is_free bytes fault =
    IsTestFault bytes fault ⊎ ((t : Test) × Reads bytes t × IsSitesFault is_free bytes t fault)

-- ---- words

-- the word of the site of this name and a kind of fence, such as `lock=r,r`
abbrev pub site_word : List ℕ → Kind → List ℕ
site_word name kind = name ++ codes "=" ++ word kind

-- the number of the site that has this key
abbrev pub number_at : Slot → ℕ
number_at s = s.hart * 256 + s.at

-- the word of the site with this key, of those of these names, and the kind
abbrev pub word_of : List (List ℕ) → Slot × Kind → List ℕ
word_of names fence = site_word (slice_index_or names (number_at fence.0) []) fence.1

-- the word of no site of these names and kind
abbrev pub IsNoFence : List (List ℕ) → List ℕ → Type 0
IsNoFence names w = (number : ℕ) → number < length names → (kind : Kind) → w ≢ site_word (slice_index_or names number []) kind

-- the keys of so many sites, in order
abbrev pub keys : ℕ → List Slot
keys sites = map key (range_with_len 0 sites)

-- what the words put at the sites of these names, which have no fence at first
abbrev pub ArePut : List (List ℕ) → List (List ℕ) → Option (List Entry) → Type 0
ArePut names words result =
    (fences : List (Slot × Kind)) × (map (word_of names) fences ≡ words)
    × (placed None (all_with None (keys (length names))) fences ≡ result)

-- a word is of no site and kind, or one of them names a site that an earlier one names
abbrev pub AreBadWords : List (List ℕ) → List (List ℕ) → Type 0
AreBadWords names words = Any (IsNoFence names) words ⊎ ArePut names words None

-- the bytes read as a test with copies of sites, to which the words give these fences
pub record AreFences (is_free : Bool) (test : List ℕ) (words : List (List ℕ)) (t : Test) (places : List Place)
    (kinds : List Entry) : Type 0 where
  pub names : List (List ℕ)
  pub sites : AreSites is_free test t places names
  pub put : ArePut names words (Some kinds)

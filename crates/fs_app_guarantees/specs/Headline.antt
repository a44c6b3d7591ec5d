-- What an answer of `solve` means, in the words of executions.
use Rattle.std.specs.Prelude.{◌≡◌, ◌⊎◌, ℕ, true, List, length}
use Rattle.fs_kinds.specs.declared.placement.Entry.{Entry}
use Rattle.fs_kinds.specs.Placement.{slots_of}
use Rattle.fs_kinds.specs.PriceTable.{PriceTable, cost}
use Rattle.fs_model.specs.declared.test.Test.{Test}
use Rattle.fs_model.specs.Fenced.{fenced}
use Rattle.fs_model.specs.Printed.{printed}
use Rattle.fs_model.specs.Slots.{slots}
use Rattle.fs_litmus.specs.Reads.{Reads}
use Rattle.fs_model.specs.Allows.{Allows, IsPlacement, full_fences, is_better, no_fences}
use Rattle.fs_model.specs.Reasons.{IsYes}
use Rattle.fs_model.specs.Witness.{Witness}
use Rattle.fs_cert_evidence.specs.Texts.{fenced_lines, none_lines, witness_text}
use Rattle.fs_cert_evidence.specs.WitnessFile.{IsWitnessFile}
use Rattle.fs_cert_evidence.specs.Sizes.{HasNoRunFault}
use Rattle.fs_app_io.specs.declared.status.Status.{Status}
use Rattle.fs_app_io.specs.declared.status.Status.TheVariants.{Success, Denied}
use Rattle.fs_app_place_and_order.specs.Place.{ArePricesOf}

-- u has the fences of p as instructions: it is the fenced test, or is read from its printed form
abbrev pub IsFencedTest : Test → List Entry → Test → Type 0
IsFencedTest t p u = (u ≡ fenced t p) ⊎ Reads (printed (fenced t p)) u

-- some execution of the test as it stands shows the outcome to rule out
abbrev pub IsPossible : Test → Type 0
IsPossible u = Allows u (no_fences u)

-- with these fences it stays possible
abbrev pub StaysPossible : Test → List Entry → Type 0
StaysPossible t p = (u : Test) → IsFencedTest t p u → IsPossible u

-- with these fences it is impossible
abbrev pub IsRuledOut : Test → List Entry → Type 0
IsRuledOut t p = (u : Test) → IsFencedTest t p u → IsPossible u → ⊥

-- A placement and its cost are printed. It rules the outcome out, and no better one over the same slots and kinds does:
-- none that costs less, and of those that cost as much none that is earlier.
pub record CheapestRulesOut (t : Test) (prices : PriceTable) (text : List ℕ) : Type 0 where
  pub placement : List Entry
  pub shown : text ≡ fenced_lines (cost prices placement) placement
  pub placed : IsPlacement t prices placement
  pub ruled_out : IsRuledOut t placement
  pub better : (q : List Entry) → IsPlacement t prices q → is_better prices q placement ≡ true → StaysPossible t q

-- `none` is printed, and a witness file. The outcome is possible whatever fences stand in the slots, and `order` says
-- yes to the witness with rw,rw in each of them.
pub record NothingRulesOut (t : Test) (text : List ℕ) : Type 0 where
  pub witness : Witness
  pub shown : text ≡ none_lines witness
  pub says : IsWitnessFile (length t.codes) (witness_text witness) witness
  pub shows : IsYes t (full_fences t) witness
  pub possible : (q : List Entry) → slots_of q ≡ slots t → StaysPossible t q

-- One of these two is so of the test and the prices, and the status says which. And the test's runs can be listed.
abbrev pub IsTrueAnswer : Test → PriceTable → (text : List ℕ) → Status → Type 0
IsTrueAnswer t prices text status =
    HasNoRunFault t
    × (((status ≡ Success) × CheapestRulesOut t prices text) ⊎ ((status ≡ Denied) × NothingRulesOut t text))

-- there are a test and prices that the bytes read as
abbrev pub AreRead : (test prices : List ℕ) → Type 0
AreRead test prices = ((t : Test) × Reads test t) × ((table : PriceTable) × ArePricesOf prices table)

-- the bytes read as a test and prices, and the answer is true of all that they read as
abbrev pub IsTrueOfFiles : (test prices text : List ℕ) → Status → Type 0
IsTrueOfFiles test prices text status =
    AreRead test prices
    × ((t : Test) (table : PriceTable) → Reads test t → ArePricesOf prices table → IsTrueAnswer t table text status)

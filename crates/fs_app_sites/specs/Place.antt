-- What `place --sites` prints, and the fault that it answers.
use Rattle.std.specs.Prelude.{◌≡◌, ℕ, List, [], ◌++◌, Bool, true, false, Option, None, Some, codes, option_map}
use Rattle.std.specs.Fmt.{decimal}
use Rattle.serde_json.specs.Data.{Data}
use Rattle.fs_kinds.specs.declared.fault.Fault.{Fault}
use Rattle.fs_kinds.specs.declared.fault.Fault.TheVariants.{BadFence, Memory, TooBig}
use Rattle.fs_kinds.specs.declared.fault.Limit.TheVariants.{Instructions}
use Rattle.fs_kinds.specs.declared.placement.Entry.{Entry}
use Rattle.fs_model.specs.declared.test.Test.{Test}
use Rattle.fs_model.specs.Fenced.{fenced}
use Rattle.fs_model.specs.Printed.{printed}
use Rattle.fs_litmus.specs.Fence.{IsShort}
use Rattle.fs_board_offers.specs.Offers.{Offers, cost}
use Rattle.fs_board_offers.specs.Offers as board
use Rattle.fs_sites.specs.declared.question.Place.{Place}
use Rattle.fs_sites.specs.Questions.{image}
use Rattle.fs_app_sites.specs.SitePrices.{AreSitePrices, IsSitePricesFault}
use Rattle.fs_app_sites.specs.Sites.{offers_of}
use Rattle.fs_app_sites.specs.Sited.{AreBadWords, ArePut, AreSites, IsSitedFault}

-- ---- prices

-- the prices are those of the bytes, or none were given
abbrev pub AreGivenPrices : Option (List ℕ) → Option Data → Type 0
AreGivenPrices None None = Unit {0}
AreGivenPrices None (Some prices) = ⊥
AreGivenPrices (Some bytes) None = ⊥
AreGivenPrices (Some bytes) (Some prices) = AreSitePrices bytes prices

-- the prices were given and aren't prices for sites
abbrev pub IsGivenPricesFault : Option (List ℕ) → Fault → Type 0
IsGivenPricesFault None fault = ⊥
IsGivenPricesFault (Some bytes) fault = IsSitePricesFault bytes fault

-- what prices offer at sites of these names, where any are given
abbrev pub offers_given : Option Data → List (List ℕ) → Option Offers
offers_given prices names = option_map (λ given. offers_of given names) prices

-- each kind is offered at its site; without prices any is
abbrev pub are_offered : Option Offers → List Entry → Bool
are_offered None kinds = true
are_offered (Some given) kinds = board.are_offered given kinds

-- the last line, where prices are given: each site costs once what its kind is offered for
abbrev pub cost_line : Option Offers → List Entry → List ℕ
cost_line None kinds = []
cost_line (Some given) kinds = codes "(* cost " ++ decimal (cost given kinds) ++ codes " *)\n"

-- ---- what is printed

-- the bytes read as a test with copies of sites of these names, and this is what the prices offer at the sites
pub record IsPlaceAsked (is_free : Bool) (test : List ℕ) (prices : Option (List ℕ)) (t : Test) (places : List Place)
    (names : List (List ℕ)) (offers : Option Offers) : Type 0 where
  pub given : Option Data
  pub priced : AreGivenPrices prices given
  pub sites : AreSites is_free test t places names
  pub offered : offers ≡ offers_given given names

-- the test with the fence of each site at all its copies
abbrev pub fenced_at : Test → List Place → List Entry → Test
fenced_at t places kinds = fenced t (image places kinds)

-- the words put these fences at sites, each of a kind that is offered there; no hart has too many instructions with
-- them; and the text is that test in print
pub record IsSitesText (is_free : Bool) (test : List ℕ) (prices : Option (List ℕ)) (words : List (List ℕ))
    (text : List ℕ) : Type 0 where
  pub the_test : Test
  pub places : List Place
  pub names : List (List ℕ)
  pub offers : Option Offers
  pub kinds : List Entry
  pub asked : IsPlaceAsked is_free test prices the_test places names offers
  pub put : ArePut names words (Some kinds)
  pub fits : are_offered offers kinds ≡ true
  pub is_short : IsShort (fenced_at the_test places kinds)
  pub shown : text ≡ printed (fenced_at the_test places kinds) ++ cost_line offers kinds

-- the first fault: of the prices, else of the file, else of the words, or that one's kind isn't offered at its site, else
-- that a hart has too many instructions with its fences; want of memory may come in place of any answer
pub data IsFirstSitesPlaceFault (is_free : Bool) (test : List ℕ) (prices : Option (List ℕ)) (words : List (List ℕ))
    : Fault → Type 0 where
  of_prices : {fault : Fault} → IsGivenPricesFault prices fault → IsFirstSitesPlaceFault is_free test prices words fault
  of_file : {fault : Fault} (given : Option Data) → AreGivenPrices prices given → IsSitedFault is_free test fault
      → IsFirstSitesPlaceFault is_free test prices words fault
  of_words : {t : Test} {places : List Place} {names : List (List ℕ)} {offers : Option Offers}
      → IsPlaceAsked is_free test prices t places names offers → AreBadWords names words
      → IsFirstSitesPlaceFault is_free test prices words BadFence
  of_kinds : {t : Test} {places : List Place} {names : List (List ℕ)} {offers : Option Offers} (kinds : List Entry)
      → IsPlaceAsked is_free test prices t places names offers → ArePut names words (Some kinds)
      → are_offered offers kinds ≡ false → IsFirstSitesPlaceFault is_free test prices words BadFence
  of_length : {t : Test} {places : List Place} {names : List (List ℕ)} {offers : Option Offers} (kinds : List Entry)
      → IsPlaceAsked is_free test prices t places names offers → ArePut names words (Some kinds)
      → are_offered offers kinds ≡ true → ¬ IsShort (fenced_at t places kinds)
      → IsFirstSitesPlaceFault is_free test prices words (TooBig Instructions)
  of_memory : IsFirstSitesPlaceFault is_free test prices words Memory

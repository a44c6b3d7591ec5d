-- What `place` prints, and the fault that it answers.
use Rattle.std.specs.Prelude.{◌≡◌, ◌⊎◌, ℕ, List, [], ◌++◌, Any, Option, None, Some, codes}
use Rattle.std.specs.Fmt.{decimal}
use Rattle.fs_kinds.specs.declared.fault.Fault.{Fault}
use Rattle.fs_kinds.specs.declared.fault.Fault.TheVariants.{BadPrices, NoTop, BadFence, Memory}
use Rattle.fs_kinds.specs.declared.kind.Kind.TheVariants.{RwRw}
use Rattle.fs_kinds.specs.declared.placement.Entry.{Entry}
use Rattle.fs_kinds.specs.PriceTable.{PriceTable, cost}
use Rattle.fs_kinds.specs.PriceObject.{ArePrices, IsTableOf, price_in}
use Rattle.fs_model.specs.declared.test.Test.{Test}
use Rattle.fs_model.specs.Fenced.{fenced}
use Rattle.fs_model.specs.Placed.{IsNoFence, IsPlaced}
use Rattle.fs_model.specs.Printed.{printed}
use Rattle.fs_model.specs.Slots.{slots}
use Rattle.fs_litmus.specs.Reads.{Reads}
use Rattle.fs_litmus.specs.Faults.{IsTestFault}

-- the table is that of the given prices, or none was given
abbrev pub ArePriced : Option (List ℕ) → Option PriceTable → Type 0
ArePriced None None = Unit {0}
ArePriced None (Some table) = ⊥
ArePriced (Some bytes) None = ⊥
ArePriced (Some bytes) (Some table) = (ms : _) × ArePrices bytes ms × IsTableOf ms table

-- the bytes hold these prices
abbrev pub ArePricesOf : List ℕ → PriceTable → Type 0
ArePricesOf bytes table = ArePriced (Some bytes) (Some table)

-- the last line, where prices are given
abbrev pub cost_line : Option PriceTable → List Entry → List ℕ
cost_line None placement = []
cost_line (Some table) placement = codes "(* cost " ++ decimal (cost table placement) ++ codes " *)\n"

-- the bytes read as a test, the words as a placement of its slots, and the text is the fenced test in print
pub record IsFencedText (test : List ℕ) (prices : Option (List ℕ)) (fences : List (List ℕ)) (text : List ℕ) : Type 0 where
  pub table : Option PriceTable
  pub the_test : Test
  pub placement : List Entry
  pub priced : ArePriced prices table
  pub reads : Reads test the_test
  pub placed : IsPlaced table (slots the_test) fences (Some placement)
  pub shown : text ≡ printed (fenced the_test placement) ++ cost_line table placement

-- the prices were given and are no object of prices, or lack `rw,rw`
pub data IsPricesFault : Option (List ℕ) → Fault → Type 0 where
  no_prices : {bytes : List ℕ} → ((ms : _) → ArePrices bytes ms → ⊥) → IsPricesFault (Some bytes) BadPrices
  no_top : {bytes : List ℕ} (ms : _) → ArePrices bytes ms → price_in ms RwRw ≡ None → IsPricesFault (Some bytes) NoTop

-- a word is no fence, or one of them doesn't fit: no such slot, a slot named before, or a kind without a price
abbrev pub IsBadFences : Option PriceTable → Test → List (List ℕ) → Type 0
IsBadFences table t fences = Any IsNoFence fences ⊎ IsPlaced table (slots t) fences None

-- the first fault: of the prices, else of the test, else of the words; want of memory may come in place of any answer
pub data IsFirstPlaceFault (test : List ℕ) (prices : Option (List ℕ)) (fences : List (List ℕ)) : Fault → Type 0 where
  of_prices : {fault : Fault} → IsPricesFault prices fault → IsFirstPlaceFault test prices fences fault
  of_test : {fault : Fault} (table : Option PriceTable) → ArePriced prices table → IsTestFault test fault → IsFirstPlaceFault test prices fences fault
  of_fences : (table : Option PriceTable) (t : Test) → ArePriced prices table → Reads test t
      → IsBadFences table t fences → IsFirstPlaceFault test prices fences BadFence
  of_memory : IsFirstPlaceFault test prices fences Memory

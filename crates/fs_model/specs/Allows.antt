-- What a test with a placement of fences allows, and the answer to a test and prices.
use Rattle.std.specs.Prelude.{◌≡◌, true, None, Some, List}
use Rattle.fs_kinds.specs.declared.kind.Kind.TheVariants.{RwRw}
use Rattle.fs_kinds.specs.declared.placement.Entry.{Entry}
use Rattle.fs_kinds.specs.Placement.{all_with}
use Rattle.fs_kinds.specs.Placements.{PriceTable}
pub use Rattle.fs_kinds.specs.Placements.{is_better}
use Rattle.fs_model.specs.Answers as answers
use Rattle.fs_model.specs.OfTests.{program_of}
use Rattle.fs_model.specs.declared.test.Test.{Test}
use Rattle.fs_model.specs.Slots.{slots}
use Rattle.fs_model.specs.Execution.{Execution, IsExecution}
use Rattle.fs_model.specs.Shows.{has_outcome}

-- an execution of the test with these fences that shows the outcome to rule out
pub record Shows (t : Test) (p : List Entry) (e : Execution) : Type 0 where
  pub execution : IsExecution t p e
  pub outcome : has_outcome t e ≡ true

abbrev pub Allows : Test → List Entry → Type 0
Allows t p = (e : Execution) × Shows t p e

-- no fence in any slot of the test
abbrev pub no_fences : Test → List Entry
no_fences t = all_with None (slots t)

-- rw,rw in every slot of the test
abbrev pub full_fences : Test → List Entry
full_fences t = all_with (Some RwRw) (slots t)

-- the test's slots in order, each with an offered kind or none
abbrev pub IsPlacement : Test → PriceTable → List Entry → Type 0
IsPlacement t prices p = answers.IsPlacement (program_of t) prices p

-- p forbids the outcome, and every better placement allows it: the answer is the first of the cheapest. It says little
-- of a test with runs that go astray, since these are no executions.
pub record IsCheapest (t : Test) (prices : PriceTable) (p : List Entry) : Type 0 where
  pub placement : IsPlacement t prices p
  pub forbids : Allows t p → ⊥
  pub better : (q : List Entry) → IsPlacement t prices q → is_better prices q p ≡ true → Allows t q

-- even with rw,rw in every slot this execution shows it
abbrev pub RefutesAll : Test → Execution → Type 0
RefutesAll t e = Shows t (full_fences t) e

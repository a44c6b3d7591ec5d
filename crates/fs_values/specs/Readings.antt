-- What a test allows, said of grounded executions alone: each word that is loaded is a value of its location. The two
-- readings, with the word and without, are one in a test whose runs can be listed.
use Rattle.std.specs.Prelude.{◌≡◌, ◌↔◌, true, Some, List}
use Rattle.fs_kinds.specs.declared.kind.Kind.TheVariants.{RwRw}
use Rattle.fs_kinds.specs.declared.placement.Entry.{Entry}
use Rattle.fs_kinds.specs.Placement.{all_with}
use Rattle.fs_kinds.specs.PriceTable.{PriceTable}
use Rattle.fs_model.specs.declared.test.Test.{Test}
use Rattle.fs_model.specs.Slots.{slots}
use Rattle.fs_model.specs.Execution.{Execution}
use Rattle.fs_model.specs.Values.{IsGrounded}
use Rattle.fs_model.specs.Allows.{Shows, Allows, IsPlacement, IsCheapest, RefutesAll, is_better}

-- a grounded execution of the test with these fences that shows the outcome
pub record ShowsGrounded (t : Test) (p : List Entry) (e : Execution) : Type 0 where
  pub shows : Shows t p e
  pub grounded : IsGrounded t e

abbrev pub AllowsGrounded : Test → List Entry → Type 0
AllowsGrounded t p = (e : Execution) × ShowsGrounded t p e

-- p forbids the outcome, and every better placement allows it
pub record IsGroundedCheapest (t : Test) (prices : PriceTable) (p : List Entry) : Type 0 where
  pub placement : IsPlacement t prices p
  pub forbids : AllowsGrounded t p → ⊥
  pub better : (q : List Entry) → IsPlacement t prices q → is_better prices q p ≡ true → AllowsGrounded t q

-- the words say the same with grounded and without
pub record SaysTheSame (t : Test) : Type 0 where
  pub shows : (p : List Entry) (e : Execution) → Shows t p e ↔ ShowsGrounded t p e
  pub allows : (p : List Entry) → Allows t p ↔ AllowsGrounded t p
  pub cheapest : (prices : PriceTable) (p : List Entry) → IsCheapest t prices p ↔ IsGroundedCheapest t prices p
  pub refutes : (e : Execution) → RefutesAll t e ↔ ShowsGrounded t (all_with (Some RwRw) (slots t)) e

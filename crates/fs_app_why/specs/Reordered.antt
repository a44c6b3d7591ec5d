-- Which execution of a witness is told: its own, or one of the same runs in another order.
use Rattle.std.specs.Prelude.{◌≡◌, ℕ, ◌<◌, Bool, true, ◌&&◌, Some, List, length, slice_get}
use Rattle.fs_kinds.specs.declared.placement.Entry.{Entry}
use Rattle.fs_model.specs.declared.test.Test.{Test}
use Rattle.fs_model.specs.Allows.{Shows}
use Rattle.fs_model.specs.Execution.{Execution, pre_execution}
use Rattle.fs_model.specs.Numbers.{stands_before}
use Rattle.fs_model.specs.Operations.{PreExecution, operations, is_store, same_word}
use Rattle.fs_model.specs.Source.{source_in}
use Rattle.fs_model.specs.Witness.{Witness}
use Rattle.fs_cert_evidence.specs.Shown.{ShowsAs, IsShownBy}

-- a and b are stores to one word, and a comes before b (coherence)
abbrev pub co : PreExecution → (order : List ℕ) → ℕ → ℕ → Bool
co x order a b = is_store x a && is_store x b && same_word x a b && stands_before order a b

-- f has the runs of e, and each operation the same source, and it keeps the coherence orders
pub record IsReordered (t : Test) (e f : Execution) : Type 0 where
  pub runs : f.traces ≡ e.traces
  pub sources : (a : ℕ) → a < length (operations (pre_execution t e.traces))
      → source_in (pre_execution t e.traces) f.order a ≡ source_in (pre_execution t e.traces) e.order a
  pub coherence : (a b : ℕ) → a < length (operations (pre_execution t e.traces)) → b < length (operations (pre_execution t e.traces))
      → co (pre_execution t e.traces) e.order a b ≡ true → co (pre_execution t e.traces) f.order a b ≡ true

-- an execution that shows the outcome with these fences, as that of the witness does; it is the same, or reordered
pub record IsToldOf (t : Test) (p : List Entry) (w : Witness) (e : Execution) : Type 0 where
  pub given : Execution
  pub is_given : ShowsAs t p w given
  pub shows : Shows t p e
  pub reordered : IsReordered t given e

-- the first of these witnesses that shows the outcome with these fences is none before this one
pub record IsFirstShown (t : Test) (p : List Entry) (ws : List Witness) (w : Witness) : Type 0 where
  pub number : ℕ
  pub at : slice_get ws number ≡ Some w
  pub earlier : (k : ℕ) (v : Witness) → k < number → slice_get ws k ≡ Some v → IsShownBy t p v → ⊥

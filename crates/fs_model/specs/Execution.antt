-- Executions under a placement of fences (RISC-V Unprivileged ISA 20191213, chapter "RVWMO Memory Consistency Model",
-- section "Memory Model Axioms"). An execution of a test with a placement of fences is runs of the unfenced test, one
-- for each hart, and an order; rule 4 knows the placed fences. With no placement these are the executions of its
-- program (`Executions`).
use Rattle.std.specs.Prelude.{◌≡◌, ℕ, ◌<◌, true, List, length}
use Rattle.fs_kinds.specs.declared.placement.Entry.{Entry}
use Rattle.fs_model.specs.declared.test.Test.{Test}
use Rattle.fs_model.specs.Operations.{PreExecution, steps_of}
use Rattle.fs_model.specs.Preserved.{ppo}
pub use Rattle.fs_model.specs.Executions.{Execution, ReturnsSources, HasNoneBetween, IsAtomic, Respects}
pub use Rattle.fs_model.specs.OfTests.{initial_words, code_of, registers_of, IsTrace, pre_execution}
use Rattle.fs_model.specs.Executions.{lists_each_once, gmo, source_in}

-- an order of the operations obeys the axioms, with these fences
pub record ObeysAxioms (x : PreExecution) (p : List Entry) (order : List ℕ) : Type 0 where
  pub once : lists_each_once x order ≡ true
  pub preserved : Respects (gmo x order) (λ a b. ppo x p (source_in x order) a b ≡ true)
  pub values : ReturnsSources x (source_in x order)
  pub atomic : IsAtomic x (source_in x order) (gmo x order)

pub record IsExecution (t : Test) (p : List Entry) (e : Execution) : Type 0 where
  pub harts : length e.traces ≡ length t.codes
  pub runs : (hart : ℕ) → hart < length t.codes → IsTrace t hart (steps_of e.traces hart)
  pub axioms : ObeysAxioms (pre_execution t e.traces) p e.order

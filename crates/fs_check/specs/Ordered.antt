-- Candidates with an order of their operations.
use Rattle.std.specs.Prelude.{◌≡◌, map, length}
use Rattle.fs_model.specs.declared.test.Test.{Test}
use Rattle.fs_model.specs.Numbers.{numbers_below}
use Rattle.fs_model.specs.Operations.{PreExecution}
use Rattle.fs_model.specs.Source.{source_in}
use Rattle.fs_model.specs.Execution.{Execution, initial_words}
use Rattle.fs_hart.specs.Steps.{steps_in}
use Rattle.fs_cand.specs.Candidates.{runs_of, IsMade}
use Rattle.fs_check.specs.declared.ordered.OrderedCandidate.{OrderedCandidate}

-- the runs, in this test
abbrev pub runs_in : Test → OrderedCandidate → PreExecution
runs_in t o = runs_of o.candidate (initial_words t)

-- the execution that the runs and the order are
abbrev pub execution_in : OrderedCandidate → Execution
execution_in o = record { traces = steps_in o.candidate.traces; order = o.order.listed }

-- the order is one of the candidate's operations, and the sources are those that it gives
pub record IsOrdered (t : Test) (o : OrderedCandidate) : Type 0 where
  pub made : IsMade (initial_words t) o.candidate
  pub operations : o.order.operations ≡ o.candidate.operations
  pub sources : o.candidate.source ≡ map (source_in (runs_in t o) o.order.listed) (numbers_below (length o.candidate.operations))

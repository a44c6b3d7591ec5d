-- What of the model a test is: its program, the outcome that it asks for, and words on runs over these.
use Rattle.std.specs.Prelude.{ℕ, Bool, List, [], map}
use Rattle.fs_instr.specs.declared.instr.Instr.{Instr}
use Rattle.fs_model.specs.declared.step.Step.{Step}
use Rattle.fs_model.specs.declared.test.Test.{Test}
use Rattle.fs_model.specs.declared.outcome.Outcome.{Outcome}
use Rattle.fs_model.specs.declared.outcome.Outcome.TheVariants as outcome
use Rattle.fs_model.specs.Operations.{PreExecution}
use Rattle.fs_model.specs.Runs as runs
use Rattle.fs_model.specs.Runs.{Program}
use Rattle.fs_model.specs.Executions as executions
use Rattle.fs_model.specs.Executions.{Condition, Always, Never, RegisterIs, LocationIs, Deny, Both, Either, Execution}

abbrev pub program_of : Test → Program
program_of t = record { codes = t.codes; starts = t.starts; locations = t.locations }

abbrev pub condition_of : Outcome → Condition
condition_of outcome.Always = Always
condition_of outcome.Never = Never
condition_of (outcome.RegisterIs hart reg word) = RegisterIs hart reg word
condition_of (outcome.LocationIs location word) = LocationIs location word
condition_of (outcome.Deny' p c) = Deny (condition_of c)
condition_of (outcome.Both' p c q d) = Both (condition_of c) (condition_of d)
condition_of (outcome.Either' p c q d) = Either (condition_of c) (condition_of d)

abbrev pub outcome_of : Test → executions.Outcome
outcome_of t = record { quantifier = t.quantifier; condition = condition_of t.condition }

abbrev pub initial_words : Test → List ℕ
initial_words t = map (λ location. location.word) t.locations

abbrev pub code_of : Test → ℕ → List Instr
code_of t hart = runs.code_of (program_of t) hart

abbrev pub registers_of : Test → ℕ → List ℕ
registers_of t hart = runs.registers_of (program_of t) hart

abbrev pub IsTrace : Test → ℕ → List Step → Type 0
IsTrace t hart steps = runs.IsTrace (program_of t) hart steps

abbrev pub pre_execution : Test → List (List Step) → PreExecution
pre_execution t traces = executions.pre_execution (program_of t) traces

-- the final register of a run depends on the runs alone
abbrev pub final_register : Test → List (List Step) → ℕ → ℕ → ℕ
final_register t traces hart reg = executions.final_register (program_of t) (record { traces = traces; order = [] }) hart reg

abbrev pub final_word : PreExecution → List ℕ → ℕ → ℕ
final_word x order location = executions.last_word x order location

abbrev pub has_outcome : Test → Execution → Bool
has_outcome t e = executions.has_outcome (program_of t) (outcome_of t) e

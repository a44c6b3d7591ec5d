-- One run of one hart of a test, and what is known of sources, as code has it.
use Rattle.std.specs.Prelude.{◌≡◌, ℕ, ◌<◌, option_map, List, length}
use Rattle.fs_model.specs.declared.test.Test.{Test}
use Rattle.fs_model.specs.declared.step.Step.{Step}
use Rattle.fs_model.specs.Execution.{IsTrace}
use Rattle.fs_model.specs.Operations.{PreExecution}
use Rattle.fs_hart.specs.declared.trace.Trace.{Trace}
use Rattle.fs_hart.specs.Runs.{registers_after}
use Rattle.fs_cert_evidence.specs.Regions.{Region, Source as Known, Initial, From}
use Rattle.fs_cert_evidence.specs.Musts.{alone}
use Rattle.fs_region_refutation.specs.declared.source.Source.{Source}
use Rattle.fs_region_refutation.specs.declared.source.Source.TheVariants as coded
use Rattle.fs_region_refutation.specs.declared.source.Sourced.{Sourced}

-- ---- runs

-- a hart of a test, and a run of it
pub record RunOf : Type 0 where
  pub test : Test
  pub hart : ℕ
  pub steps : List Step

-- the run by itself, while the other harts do nothing
abbrev pub execution_of : RunOf → PreExecution
execution_of run = alone run.test run.hart run.steps

-- a whole run of the hart, with the registers at its end
pub record IsRun (t : Test) (hart : ℕ) (trace : Trace) : Type 0 where
  pub low : hart < length t.codes
  pub steps : IsTrace t hart trace.steps
  pub registers : trace.registers ≡ registers_after t hart trace.steps

-- ---- sources

-- the source of the definitions
abbrev pub source_of : Source → Known
source_of coded.Initial = Initial
source_of (coded.From name) = From name

-- the region knows this of the source of the name's operation, and no more
abbrev pub Knows : Region → Sourced → Type 0
Knows region sourced = region.source sourced.name ≡ option_map source_of sourced.source

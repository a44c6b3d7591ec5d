-- Why the candidates of a test aren't listed, and why a certificate isn't judged.
use Rattle.std.specs.Prelude.{ℕ, ◌⊎◌}
use Rattle.fs_kinds.specs.declared.fault.Fault.{Fault}
use Rattle.fs_kinds.specs.declared.fault.Fault.TheVariants as fault
use Rattle.fs_model.specs.declared.test.Test.{Test}
use Rattle.fs_model.specs.Values.{AreRunsOverValues}
use Rattle.fs_model.specs.TooMany.{AreMoreThan, IsRunFault}
use Rattle.fs_cert_evidence.specs.Candidates.{IsRaw}
use Rattle.fs_cert_evidence.specs.Certificate.{Cycles, Listed, Inferred}

-- how many candidates and lists of runs there may be
abbrev pub most_candidates : ℕ
most_candidates = 4000000

-- too many lists of runs, one of each hart, or too many candidates, whether they show the outcome or not
abbrev pub HasTooMany : Test → Type 0
HasTooMany t = AreMoreThan most_candidates (AreRunsOverValues t) ⊎ AreMoreThan most_candidates (IsRaw t)

-- the fault of a test: that of its runs, or else too many candidates
abbrev pub IsCandidateFault : Test → Fault → Type 0
IsCandidateFault t fault.TooManyCandidates = ((f : Fault) → IsRunFault t f → ⊥) × HasTooMany t
IsCandidateFault t f = IsRunFault t f

-- the test's candidate executions can be listed: of the runs whose loads take words of the rounds of value sets none
-- goes astray, and neither a hart's runs, nor the lists of runs, nor the candidates are too many
abbrev pub HasNoCandidateFault : Test → Type 0
HasNoCandidateFault t = (f : Fault) → IsCandidateFault t f → ⊥

-- why a certificate with these cycles isn't judged: a cycle for each candidate needs their list, and a refutation the
-- runs alone
abbrev pub IsCyclesFault : Cycles → Test → Fault → Type 0
IsCyclesFault (Listed cycles) t f = IsCandidateFault t f
IsCyclesFault (Inferred inferences) t f = IsRunFault t f

abbrev pub HasNoCyclesFault : Cycles → Test → Type 0
HasNoCyclesFault cycles t = (f : Fault) → IsCyclesFault cycles t f → ⊥

-- What is asked of each of some runs, which are of one hart of a test.
use Rattle.std.specs.Prelude.{◌≡◌, ℕ, ◌==◌, Bool, ◌&&◌, Some, List, [], map}
use Rattle.std.specs.List.{list_all, list_any}
use Rattle.std.specs.Borrow.{Bor}
use Rattle.fs_kinds.specs.declared.placement.Entry.{Entry}
use Rattle.fs_kinds.specs.declared.reason.OperationName.{OperationName as Name}
use Rattle.fs_model.specs.declared.test.Test.{Test}
use Rattle.fs_model.specs.declared.step.Step.{Step}
use Rattle.fs_model.specs.Numbers.{is_same}
use Rattle.fs_model.specs.Test.{address_of}
use Rattle.fs_model.specs.Preserved.{Rule, Rule8}
use Rattle.fs_model.specs.Shows.{final_register}
use Rattle.fs_cert_evidence.specs.Regions.{Region, address_at, loaded_at}
use Rattle.fs_cert_evidence.specs.Musts.{alone, traces_of, is_rule, has_truth}
use Rattle.fs_region_refutation.specs.Alone.{RunOf, execution_of}
use Rattle.fs_region_refutation.specs.declared.endings.Ending.{Ending}
use Rattle.fs_region_refutation.specs.Views.{runs_of, AreRunsOf}

-- the rule orders the two in the run
abbrev pub is_ordered_in : Region → List Entry → Rule → Name → Name → Bor RunOf → Bool
is_ordered_in region p r a b run = is_rule run.now.test region p r a b (execution_of run.now)

-- the register ends so in the run
abbrev pub ends_so : ℕ → Ending → Bor RunOf → Bool
ends_so register ending run =
    has_truth ending.truth (final_register run.now.test (traces_of run.now.test run.now.hart run.now.steps) run.now.hart register == ending.word)

-- the load of the run returns this word from this location
abbrev pub begins_so : Name → List Step → ℕ × ℕ → Bool
begins_so load run numbered =
    is_same (address_at run load.at) (Some (address_of numbered.0)) && is_same (loaded_at run load.at) (Some numbered.1)

-- whether the two are a pair in each of the runs
abbrev pub PairsAll : Name → Name → List (Bor RunOf) → Bool → Type 0
PairsAll load store runs answer =
    (t : Test) (region : Region) → AreRunsOf t load.hart runs
    → answer ≡ list_all (λ run. is_rule t region [] Rule8 load store (alone t load.hart run)) (runs_of runs)

-- whether a register ends so in some of the runs
abbrev pub EndsSome : ℕ → Ending → List (Bor RunOf) → Bool → Type 0
EndsSome register ending runs answer =
    (t : Test) (hart : ℕ) → AreRunsOf t hart runs
    → answer ≡ list_any (λ run. has_truth ending.truth (final_register t (traces_of t hart run) hart register == ending.word)) (runs_of runs)

-- the runs behind references
abbrev pub values_in : List (Bor RunOf) → List RunOf
values_in runs = map (λ run. run.now) runs

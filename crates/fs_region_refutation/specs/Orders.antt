-- Whether a rule orders two operations in each of some runs, which are of one hart of a test.
use Rattle.std.specs.Prelude.{◌≡◌, ℕ, Bool, List}
use Rattle.std.specs.List.{list_all}
use Rattle.std.specs.Borrow.{Bor}
use Rattle.fs_kinds.specs.declared.placement.Entry.{Entry}
use Rattle.fs_model.specs.declared.test.Test.{Test}
use Rattle.fs_model.specs.Preserved.{Rule}
use Rattle.fs_ppo.specs.Rules.{number_of as number_of_rule}
use Rattle.fs_cert_evidence.specs.Regions.{Region}
use Rattle.fs_cert_evidence.specs.Musts.{alone, is_rule}
use Rattle.fs_region_refutation.specs.declared.source.Sourced.{Sourced}
use Rattle.fs_region_refutation.specs.Alone.{RunOf, Knows}
use Rattle.fs_region_refutation.specs.Views.{runs_of, AreRunsOf}

-- whether the rule of this number orders the two in each of the runs
abbrev pub OrdersAll : List Entry → ℕ → Sourced → Sourced → List (Bor RunOf) → Bool → Type 0
OrdersAll p n first second runs answer =
    (t : Test) (region : Region) (r : Rule) → AreRunsOf t first.name.hart runs → Knows region first → Knows region second
    → number_of_rule r ≡ n
    → answer ≡ list_all (λ run. is_rule t region p r first.name second.name (alone t first.name.hart run)) (runs_of runs)

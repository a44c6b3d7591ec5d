-- The region of all candidates.
use Rattle.std.proofs.Common.{◌≡◌, ℕ, zero, suc, true, List, [], ◌∷◌, map, refl, sym, ◌∙◌, ap, subst}
use Rattle.std.specs.Arc.{arc_value}
use Rattle.std.specs.Borrow.{Bor}
use Rattle.std.specs.List.{slice_index_or}
use Rattle.std.proofs.lemmas.List.Elements.{All-nil, All-cons, All-head, All-tail}
use Rattle.fs_model.specs.declared.test.Test.{Test}
use Rattle.fs_model.specs.Condition.{condition_of}
use Rattle.fs_model.specs.Shows.{is_outcome}
use Rattle.fs_cert_evidence.specs.Trees.{root}
use Rattle.fs_region_refutation.specs.Alone.{RunOf}
use Rattle.fs_region_refutation.specs.declared.region.Region.{Region as CodeRegion}
use Rattle.fs_region_refutation.specs.Runs.{runs_over, AreOfHart, AreOfEach}
use Rattle.fs_region_refutation.specs.Views.{region_of, runs_of, at_hart, lists_in, source_in, is_in_order, all_wanted, AreRunsOf}
use Rattle.fs_region_refutation.specs.inner.Asked.{values_in}
use Rattle.fs_region_refutation.proofs.Regions.{same_region}

-- ---- all runs

steps_behind : (runs : List (Bor RunOf)) → runs_of runs ≡ map (λ run. run.steps) (values_in runs)
steps_behind [] = refl
steps_behind (run ∷ runs) = ap (λ all. run.now.steps ∷ all) (steps_behind runs)

values_at : (lists : List (List (Bor RunOf))) (hart : ℕ) → values_in (at_hart lists hart) ≡ slice_index_or (map values_in lists) hart []
values_at [] hart = refl
values_at (runs ∷ lists) zero = refl
values_at (runs ∷ lists) (suc hart) = values_at lists hart

pub all_over : (lists : List (List (Bor RunOf))) (listed : List (List RunOf)) → map values_in lists ≡ listed → (hart : ℕ)
    → runs_of (at_hart lists hart) ≡ runs_over listed hart
all_over lists listed is hart =
    steps_behind (at_hart lists hart)
    ∙ ap (map (λ (run : RunOf). run.steps)) (values_at lists hart ∙ ap (λ (ls : List (List RunOf)). slice_index_or ls hart []) is)

behind : (t : Test) (hart : ℕ) (runs : List (Bor RunOf)) → AreOfHart t hart (values_in runs) → AreRunsOf t hart runs
behind t hart [] all = All-nil (λ run. (run.now.test ≡ t) × (run.now.hart ≡ hart))
behind t hart (run ∷ runs) all =
    All-cons (λ run. (run.now.test ≡ t) × (run.now.hart ≡ hart)) run runs
    (All-head (λ run. (run.test ≡ t) × (run.hart ≡ hart)) run.now (values_in runs) all)
    (behind t hart runs (All-tail (λ run. (run.test ≡ t) × (run.hart ≡ hart)) run.now (values_in runs) all))

pub all_of_test : (t : Test) (lists : List (List (Bor RunOf))) (listed : List (List RunOf)) → map values_in lists ≡ listed
    → AreOfEach t listed → (hart : ℕ) → AreRunsOf t hart (at_hart lists hart)
all_of_test t lists listed is basis hart =
    behind t hart (at_hart lists hart)
    (subst (AreOfHart t hart)
    (sym (values_at lists hart ∙ ap (λ (ls : List (List RunOf)). slice_index_or ls hart []) is)) (basis hart))

pub root_is : (t : Test) (listed : List (List RunOf)) (region : CodeRegion) → map values_in (lists_in region.runs.items) ≡ listed
    → arc_value region.sources ≡ [] → arc_value region.orders ≡ []
    → all_wanted (arc_value region.wanted) ≡ (condition_of t.condition, is_outcome t.quantifier true) ∷ []
    → region_of region ≡ root t (runs_over listed)
root_is t listed region runs sources orders wanted =
    same_region (region_of region) (root t (runs_over listed))
    (all_over (lists_in region.runs.items) listed runs)
    (λ n. ap (λ known. source_in known n) sources)
    (λ a b. ap (λ known. is_in_order known a b) orders)
    wanted

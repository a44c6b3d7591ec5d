-- Runs of one hart of a test: what is asked of each by its own hart and test, and by that hart and test.
use Rattle.std.proofs.Common.{◌≡◌, ℕ, ◌+◌, ◌<◌, ◌≤◌, Bool, true, false, length, get_or, take, ◌&&◌, ◌||◌, List, [], ◌∷◌, map, refl, sym, ◌∙◌, ap}
use Rattle.std.specs.Borrow.{Bor}
use Rattle.std.specs.List.{list_all, list_any}
use Rattle.std.proofs.lemmas.Bool.{and_from}
use Rattle.std.proofs.lemmas.List.{take_all}
use Rattle.std.proofs.lemmas.List.Elements.{All-head, All-tail}
use Rattle.std.proofs.lemmas.List.Folds.{list_all_at, list_all_more}
use Rattle.fs_kinds.specs.declared.placement.Entry.{Entry}
use Rattle.fs_kinds.specs.declared.reason.OperationName.{OperationName as Name}
use Rattle.fs_model.specs.declared.test.Test.{Test}
use Rattle.fs_model.specs.declared.step.Step.{Step}
use Rattle.fs_model.specs.Preserved.{Rule}
use Rattle.fs_model.specs.Shows.{final_register}
use Rattle.fs_cert_evidence.specs.Regions.{Region}
use Rattle.fs_cert_evidence.specs.Musts.{alone, traces_of, is_rule}
use Rattle.fs_region_refutation.specs.Alone.{RunOf}
use Rattle.fs_region_refutation.specs.declared.endings.Ending.{Ending}
use Rattle.fs_region_refutation.specs.Views.{runs_of, AreRunsOf}
use Rattle.fs_region_refutation.specs.inner.Asked.{is_ordered_in, ends_so}
use Rattle.fs_region_refutation.specs.inner.Each.{is_ending}

module _ (t : Test) (hart : ℕ) (f : Bor RunOf → Bool) (g : List Step → Bool)
    (same : (run : Bor RunOf) → run.now.test ≡ t → run.now.hart ≡ hart → f run ≡ g run.now.steps) where
  pub all_alike : (runs : List (Bor RunOf)) → AreRunsOf t hart runs → list_all f runs ≡ list_all g (runs_of runs)
  all_alike [] are = refl
  all_alike (run ∷ runs) are =
      let here = All-head (λ run. (run.now.test ≡ t) × (run.now.hart ≡ hart)) run runs are in
      let rest = all_alike runs (All-tail (λ run. (run.now.test ≡ t) × (run.now.hart ≡ hart)) run runs are) in
      ap (λ b. b && list_all f runs) (same run here.0 here.1) ∙ ap (λ b. g run.now.steps && b) rest

  pub any_alike : (runs : List (Bor RunOf)) → AreRunsOf t hart runs → list_any f runs ≡ list_any g (runs_of runs)
  any_alike [] are = refl
  any_alike (run ∷ runs) are =
      let here = All-head (λ run. (run.now.test ≡ t) × (run.now.hart ≡ hart)) run runs are in
      let rest = any_alike runs (All-tail (λ run. (run.now.test ≡ t) × (run.now.hart ≡ hart)) run runs are) in
      ap (λ b. b || list_any f runs) (same run here.0 here.1) ∙ ap (λ b. g run.now.steps || b) rest

  pub each_alike : (runs : List (Bor RunOf)) → AreRunsOf t hart runs → map f runs ≡ map g (runs_of runs)
  each_alike [] are = refl
  each_alike (run ∷ runs) are =
      let here = All-head (λ run. (run.now.test ≡ t) × (run.now.hart ≡ hart)) run runs are in
      let rest = each_alike runs (All-tail (λ run. (run.now.test ≡ t) × (run.now.hart ≡ hart)) run runs are) in
      ap (λ b. b ∷ map f runs) (same run here.0 here.1) ∙ ap (λ bs. g run.now.steps ∷ bs) rest

-- ---- a loop over runs

module _ (f : Bor RunOf → Bool) (runs : List (Bor RunOf)) (i : ℕ) where
  pub all_stop : (run : Bor RunOf) → i < length runs → run ≡ get_or runs i run → f run ≡ false → list_all f runs ≡ false
  all_stop run low is fails = list_all_at f runs i run low (ap f (sym is) ∙ fails)

  pub all_go : (run : Bor RunOf) → i < length runs → run ≡ get_or runs i run → list_all f (take i runs) ≡ true → f run ≡ true
      → list_all f (take (i + 1) runs) ≡ true
  all_go run low is before holds = list_all_more f runs i run low ∙ and_from _ _ before (ap f (sym is) ∙ holds)

  pub all_end : length runs ≤ i → list_all f (take i runs) ≡ true → list_all f runs ≡ true
  all_end high before = ap (list_all f) (sym (take_all i runs high)) ∙ before

-- ---- what is asked

module _ (t : Test) (hart register : ℕ) (ending : Ending) where
  -- the register ends so in a run of the hart
  abbrev pub own_ends : List Step → Bool
  own_ends run = is_ending ending (final_register t (traces_of t hart run) hart register)

  own_ends_so : (run : Bor RunOf) → run.now.test ≡ t → run.now.hart ≡ hart → ends_so register ending run ≡ own_ends run.now.steps
  own_ends_so run test at =
      ap (λ (u : Test). is_ending ending (final_register u (traces_of u run.now.hart run.now.steps) run.now.hart register)) test
      ∙ ap (λ h. is_ending ending (final_register t (traces_of t h run.now.steps) h register)) at

  pub ends_alike : (runs : List (Bor RunOf)) → AreRunsOf t hart runs → list_any (ends_so register ending) runs ≡ list_any own_ends (runs_of runs)
  ends_alike = any_alike t hart (ends_so register ending) own_ends own_ends_so

  pub each_ends_alike : (runs : List (Bor RunOf)) → AreRunsOf t hart runs → map (ends_so register ending) runs ≡ map own_ends (runs_of runs)
  each_ends_alike = each_alike t hart (ends_so register ending) own_ends own_ends_so

pub rules_alike : (t : Test) (region : Region) (p : List Entry) (r : Rule) (a b : Name) (runs : List (Bor RunOf)) → AreRunsOf t a.hart runs
    → list_all (is_ordered_in region p r a b) runs ≡ list_all (λ run. is_rule t region p r a b (alone t a.hart run)) (runs_of runs)
rules_alike t region p r a b runs are =
    all_alike t a.hart (is_ordered_in region p r a b) (λ run. is_rule t region p r a b (alone t a.hart run))
    (λ run test at.
    ap (λ (u : Test). is_rule u region p r a b (alone u run.now.hart run.now.steps)) test
    ∙ ap (λ h. is_rule t region p r a b (alone t h run.now.steps)) at)
    runs are

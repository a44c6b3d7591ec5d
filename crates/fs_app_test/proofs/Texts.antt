-- Lists that are looked at through what their items show.
use Rattle.std.proofs.Common.{◌≡◌, ℕ, List, [], ◌∷◌, map, Option, Some, None, refl, ap, ◌∙◌, ◌||◌, ◌==◌}
use Rattle.std.specs.Prelude.{option_map}
use Rattle.std.specs.List.{list_any}
use Rattle.std.specs.Option.{option_or}
use Rattle.std.proofs.lemmas.List.Elements.{All-head, All-tail}
use Rattle.fs_model.specs.declared.test.Test.{Test}
use Rattle.fs_model.specs.Shows.{final_register}
use Rattle.fs_region_refutation.specs.Alone.{RunOf}
use Rattle.fs_cert_evidence.specs.Musts.{traces_of}
use Rattle.fs_region_refutation.specs.Runs.{AreOfHart}
use Rattle.fs_app_test.specs.inner.Parts.{ends_with}

pub map_or : {X Y : Type 0} (f : X → Y) (first second : Option X)
    → option_map f (option_or first second) ≡ option_or (option_map f first) (option_map f second)
map_or f None second = refl
map_or f (Some x) second = refl

-- runs of one hart of the test, by themselves and by that
module _ (t : Test) (hart reg word : ℕ) where
  alike : (run : RunOf) → run.test ≡ t → run.hart ≡ hart
      → ends_with reg word run ≡ (final_register t (traces_of t hart run.steps) hart reg == word)
  alike run test own = rw (test, own) refl

  pub ends_alike : (runs : List RunOf) → AreOfHart t hart runs
      → list_any (ends_with reg word) runs
      ≡ list_any (λ run. final_register t (traces_of t hart run) hart reg == word) (map (λ run. run.steps) runs)
  ends_alike [] are = refl
  ends_alike (run ∷ runs) are =
      let here = All-head (λ run. (run.test ≡ t) × (run.hart ≡ hart)) run runs are in
      let rest = ends_alike runs (All-tail (λ run. (run.test ≡ t) × (run.hart ≡ hart)) run runs are) in
      ap (λ b. b || list_any (ends_with reg word) runs) (alike run here.0 here.1)
      ∙ ap (λ b. (final_register t (traces_of t hart run.steps) hart reg == word) || b) rest

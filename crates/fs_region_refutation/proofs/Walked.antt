-- A walk over inferences: the reason against those that are left stays the same as it goes on.
use Rattle.std.proofs.Common.{◌≡◌, ℕ, ◌+◌, ◌<◌, ◌≤◌, true, false, Option, Some, None, List, [], ◌∷◌, ◌++◌, length, get_or, inl, inr, refl, sym, ◌∙◌, ap}
use Rattle.std.specs.Prelude.{drop, if◌then◌else◌}
use Rattle.std.proofs.lemmas.Bool.{cases_Bool, false≢true, and_parts}
use Rattle.std.proofs.lemmas.List.{drop_more, drop_all}
use Rattle.fs_kinds.specs.declared.placement.Entry.{Entry}
use Rattle.fs_kinds.specs.declared.reason.Reason.{Reason}
use Rattle.fs_kinds.specs.declared.reason.Reason.TheVariants as reason
use Rattle.fs_model.specs.declared.test.Test.{Test}
use Rattle.fs_model.specs.declared.step.Step.{Step}
use Rattle.fs_cert_evidence.specs.Regions.{Region}
use Rattle.fs_cert_evidence.specs.Certificate.{Inference}
use Rattle.fs_cert_evidence.specs.Trees.{follows, left_after, refutes, roots, AreItsRuns}
use Rattle.fs_cert_evidence.specs.Refusals.{first_wrong}
use Rattle.fs_region_refutation.specs.declared.region.Region.{Region as CodeRegion}
use Rattle.fs_region_refutation.specs.Runs.{AreRoots}
use Rattle.fs_region_refutation.specs.Views.{regions_of}
use Rattle.fs_region_refutation.specs.inner.Stacks.{stacked}
use Rattle.fs_region_refutation.proofs.Stacks.{stacked_all}

module _ (t : Test) (p : List Entry) where
  -- the reason, where these regions are open before inference number k
  abbrev pub wrong_from : List Region → List Inference → ℕ → Option Reason
  wrong_from regions is k = first_wrong t p regions (drop k is) k

  module _ (is : List Inference) (k : ℕ) where
    module _ (region : Region) (others : List Region) (d : Inference) (low : k < length is) where
      pub wrong_later : follows t p region (get_or is k d) ≡ true
          → wrong_from (left_after t region (get_or is k d) ++ others) is (k + 1) ≡ wrong_from (region ∷ others) is k
      wrong_later holds =
          ap (λ b. if b
          then wrong_from (left_after t region (get_or is k d) ++ others) is (k + 1)
          else Some (reason.Cycle k)) (sym holds)
          ∙ ap (λ js. first_wrong t p (region ∷ others) js k) (sym (drop_more is k d low))

      pub wrong_here : follows t p region (get_or is k d) ≡ false
          → Some (reason.Cycle k) ≡ wrong_from (region ∷ others) is k
      wrong_here fails =
          ap (λ b. if b
          then wrong_from (left_after t region (get_or is k d) ++ others) is (k + 1)
          else Some (reason.Cycle k)) (sym fails)
          ∙ ap (λ js. first_wrong t p (region ∷ others) js k) (sym (drop_more is k d low))

    -- no region is open, and there is one inference more
    pub one_more : (d : Inference) → k < length is → Some reason.Cycles ≡ wrong_from [] is k
    one_more d low = ap (λ js. first_wrong t p [] js k) (sym (drop_more is k d low))

    -- there is none more, and one is open
    pub one_less : (region : Region) (others : List Region) → length is ≤ k
        → Some reason.Cycles ≡ wrong_from (region ∷ others) is k
    one_less region others high = ap (λ js. first_wrong t p (region ∷ others) js k) (sym (drop_all k is high))

    -- there is none more, and no region is open
    pub none_wrong : length is ≤ k → None ≡ wrong_from [] is k
    none_wrong high = ap (λ js. first_wrong t p [] js k) (sym (drop_all k is high))

  -- ---- over the runs that are behind the first regions, which are pushed on an empty stack

  pub over_roots : (is : List Inference) (left none stack : List CodeRegion) (why : Option Reason)
      → none ≡ [] → stacked stack ≡ regions_of left ++ stacked none → AreRoots t (regions_of left)
      → why ≡ first_wrong t p (stacked stack) is 0
      → (runs : ℕ → List (List Step)) × AreItsRuns t runs × (why ≡ first_wrong t p (roots t runs) is 0)
  over_roots is left none stack why empty pushed are e = (
    are.0,
    are.1,
    e ∙ ap (λ rs. first_wrong t p rs is 0) (stacked_all left none stack empty pushed ∙ are.2),
  )

  -- ---- the whole tree

  pub none_to : (rs : List Region) (is : List Inference) (k : ℕ) → first_wrong t p rs is k ≡ None
      → refutes t p rs is ≡ true
  none_to [] [] k e = refl
  none_to [] (i ∷ is) k e = cc
  none_to (r ∷ rs) [] k e = cc
  none_to (r ∷ rs) (i ∷ is) k e = elim (cases_Bool (follows t p r i)) [
    | inl holds ↦ (let later = none_to (left_after t r i ++ rs) is (k + 1) (rw holds at e) in rw holds later)
    | inr fails ↦ (let both : Some (reason.Cycle k) ≡ None = rw fails at e in cc)
  ]

  pub none_from : (rs : List Region) (is : List Inference) (k : ℕ) → refutes t p rs is ≡ true
      → first_wrong t p rs is k ≡ None
  none_from [] [] k e = refl
  none_from [] (i ∷ is) k e = absurd (false≢true e)
  none_from (r ∷ rs) [] k e = absurd (false≢true e)
  none_from (r ∷ rs) (i ∷ is) k e =
      let parts = and_parts (follows t p r i) (refutes t p (left_after t r i ++ rs) is) e in
      let later = none_from (left_after t r i ++ rs) is (k + 1) parts.1 in
      rw parts.0 later

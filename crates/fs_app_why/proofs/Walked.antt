-- A walk over inferences: what it has made, and what it is still to make, stay the same as it goes on.
use Rattle.std.proofs.Common.{◌≡◌, ℕ, ◌+◌, ◌<◌, ◌≤◌, List, [], ◌∷◌, ◌++◌, drop, length, map, get_or, refl, sym, ◌∙◌, ap, append_assoc}
use Rattle.std.proofs.lemmas.List.{append-nil, drop_all, drop_more}
use Rattle.std.proofs.lemmas.List.Concat.{flat_map-append}
use Rattle.fs_kinds.specs.declared.placement.Entry.{Entry}
use Rattle.fs_model.specs.declared.step.Step.{Step}
use Rattle.fs_model.specs.declared.test.Test.{Test}
use Rattle.fs_cert_evidence.specs.Certificate as certificate
use Rattle.fs_cert_evidence.specs.Certificate.{ByChoice, BySource, ByOrder, ByCases, Filter, Cycle, Stale, Reversed, Parted}
use Rattle.fs_cert_evidence.specs.declared.inference.Inference.{Inference}
use Rattle.fs_cert_evidence.specs.Inferences.{inference_of}
use Rattle.fs_cert_evidence.specs.Regions.{Region}
use Rattle.fs_cert_evidence.specs.Trees.{AreItsRuns, left_after, roots}
use Rattle.fs_region_refutation.specs.declared.region.Region.{Region as CodeRegion}
use Rattle.fs_region_refutation.specs.Runs.{AreRoots}
use Rattle.fs_region_refutation.specs.Views.{regions_of}
use Rattle.fs_region_refutation.specs.inner.Stacks.{stacked}
use Rattle.fs_region_refutation.proofs.Stacks.{stacked_all}
use Rattle.fs_app_why.specs.declared.chain.Chain.{Chain}
use Rattle.fs_app_why.specs.Chains.{chain_of, chains_of, end_chains}
use Rattle.fs_app_why.specs.Ends.{end_of, ends}

module _ (t : Test) (p : List Entry) where
  -- what is still to be made, where these regions are open before inference number k
  abbrev pub left_from : List Region → List Inference → ℕ → List Chain
  left_from regions is k = chains_of t p (ends t regions (map inference_of (drop k is)))

  of_end : (region : Region) (i : certificate.Inference) → chains_of t p (end_of region i) ≡ chain_of t p region i
  of_end region (ByChoice name) = refl
  of_end region (BySource load) = refl
  of_end region (ByOrder first second) = refl
  of_end region (ByCases number) = refl
  of_end region (Filter hart) = refl
  of_end region (Cycle links) = refl
  of_end region (Stale load store) = refl
  of_end region (Reversed load store) = refl
  of_end region (Parted load store other) = refl

  none_left : (regions : List Region) → ends t regions [] ≡ []
  none_left [] = refl
  none_left (region ∷ regions) = refl

  pub none_open : (is : List Inference) (k : ℕ) → left_from [] is k ≡ []
  none_open is k = refl

  pub at_end : (regions : List Region) (is : List Inference) (k : ℕ) → length is ≤ k → left_from regions is k ≡ []
  at_end regions is k high =
      ap (λ js. chains_of t p (ends t regions (map inference_of js))) (drop_all k is high) ∙ ap (chains_of t p) (none_left regions)

  pub one_on : (is : List Inference) (k : ℕ) (region : Region) (others : List Region) (i : Inference) → k < length is → i ≡ get_or is k i
      → left_from (region ∷ others) is k
      ≡ chain_of t p region (inference_of i) ++ left_from (left_after t region (inference_of i) ++ others) is (k + 1)
  one_on is k region others i low here =
      let rest = ends t (left_after t region (inference_of i) ++ others) (map inference_of (drop (k + 1) is)) in
      ap (λ js. chains_of t p (ends t (region ∷ others) (map inference_of js))) (drop_more is k i low ∙ ap (λ j. j ∷ drop (k + 1) is) (sym here))
      ∙ flat_map-append (end_chains t p) (end_of region (inference_of i)) rest
      ∙ ap (λ first. first ++ chains_of t p rest) (of_end region (inference_of i))

  -- what was made and what is left, one inference on
  pub goes_on : (is : List Inference) (k : ℕ) (region : Region) (before after below left : List Region) (i : Inference)
      (made more all : List Chain) → k < length is → i ≡ get_or is k i → before ≡ region ∷ below → left ≡ left_after t region (inference_of i)
      → after ≡ left ++ below → more ≡ made ++ chain_of t p region (inference_of i) → made ++ left_from before is k ≡ all
      → more ++ left_from after is (k + 1) ≡ all
  goes_on is k region before after below left i made more all low here opened is_left is_after is_more so_far =
      let rest = left_from (left_after t region (inference_of i) ++ below) is (k + 1) in
      ap (λ regions. more ++ left_from regions is (k + 1)) (is_after ∙ ap (λ regions. regions ++ below) is_left)
      ∙ ap (λ chains. chains ++ rest) is_more
      ∙ append_assoc made (chain_of t p region (inference_of i)) rest
      ∙ ap (λ chains. made ++ chains) (sym (one_on is k region below i low here))
      ∙ ap (λ regions. made ++ left_from regions is k) (sym opened)
      ∙ so_far

  -- over the runs that are behind the first regions, which are pushed on an empty stack
  pub over_roots : (is : List Inference) (left none stack : List CodeRegion) (made : List Chain)
      → none ≡ [] → stacked stack ≡ regions_of left ++ stacked none → AreRoots t (regions_of left)
      → made ≡ chains_of t p (ends t (stacked stack) (map inference_of is))
      → (runs : ℕ → List (List Step)) × AreItsRuns t runs × (made ≡ chains_of t p (ends t (roots t runs) (map inference_of is)))
  over_roots is left none stack made empty pushed are e = (
    are.0,
    are.1,
    e ∙ ap (λ rs. chains_of t p (ends t rs (map inference_of is))) (stacked_all left none stack empty pushed ∙ are.2),
  )

  -- nothing is left
  pub all_made : (made left all : List Chain) → left ≡ [] → made ++ left ≡ all → made ≡ all
  all_made made left all none e = sym (append-nil made) ∙ ap (λ chains. made ++ chains) (sym none) ∙ e

-- A region in which a hart of the test has no run isn't open.
use Rattle.std.proofs.Common.{◌≡◌, ◌≢◌, ℕ, ◌<◌, Bool, false, List, [], length, filter, get_or, refl, ◌∙◌, ap, arith}
use Rattle.std.specs.Prelude.{nat_lt}
use Rattle.std.specs.List.{list_any}
use Rattle.std.proofs.lemmas.Bool.{eq-eqb, ne_eqb}
use Rattle.std.proofs.lemmas.List.Folds.{list_all_at}
use Rattle.std.proofs.lemmas.List.FromFn.{length-range_with_len, get_or-range_with_len}
use Rattle.fs_kinds.specs.declared.reason.OperationName.{OperationName as Name}
use Rattle.fs_model.specs.declared.test.Test.{Test}
use Rattle.fs_model.specs.declared.step.Step.{Step}
use Rattle.fs_model.specs.Numbers.{numbers_below}
use Rattle.fs_cert_evidence.specs.Regions.{Region, From}
use Rattle.fs_cert_evidence.specs.Splits.{agree, keep, from_store, with_source}
use Rattle.fs_cert_evidence.specs.Trees.{is_open}

closed_at : (t : Test) (region : Region) (hart : ℕ) → hart < length t.codes → region.runs hart ≡ [] → is_open t region ≡ false
closed_at t region hart low none =
    let has : ℕ → Bool = λ h. nat_lt 0 (length (region.runs h)) in
    let n = length t.codes in
    let long = length-range_with_len 0 n in
    let number : get_or (numbers_below n) hart 0 ≡ hart = get_or-range_with_len 0 n hart 0 low ∙ omega arith in
    list_all_at has (numbers_below n) hart 0 (omega (arith, low, long))
    (ap has number ∙ ap (λ (runs : List (List Step)). nat_lt 0 (length runs)) none)

module _ (load : Name) (region : Region) (store : Name) where
  abbrev storing : List Step → Bool
  storing other = list_any (λ run. agree run load other store) (region.runs load.hart)

  abbrev between : Region
  between =
      keep load.hart (λ run. list_any (λ other. agree run load other store) (region.runs store.hart))
      (keep store.hart storing region)

  pub store_between : store.hart ≢ load.hart → from_store load region store ≡ with_source load (From store) between
  store_between other = rw (ne_eqb store.hart load.hart other) refl

  no_store : store.hart ≢ load.hart → filter storing (region.runs store.hart) ≡ [] → (with_source load (From store) between).runs store.hart ≡ []
  no_store other none = rw (ne_eqb store.hart load.hart other, eq-eqb store.hart store.hart refl) none

  -- where no run has a store with which the load agrees
  pub closed_between : (t : Test) → store.hart ≢ load.hart → store.hart < length t.codes
      → filter storing (region.runs store.hart) ≡ [] → is_open t (from_store load region store) ≡ false
  closed_between t other low none =
      ap (is_open t) (store_between other)
      ∙ closed_at t (with_source load (From store) between) store.hart low (no_store other none)

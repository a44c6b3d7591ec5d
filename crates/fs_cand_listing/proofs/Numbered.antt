-- Lists by number, one after the other; and sources and stores among operations are those of the runs.
use Rattle.std.proofs.Common.{◌≡◌, ◌∙◌, ℕ, ◌+◌, ◌-◌, None, Some, List, [], ◌∷◌, ◌++◌, map, filter, length, refl, sym, ap, arith}
use Rattle.std.specs.Prelude.{if◌then◌else◌}
use Rattle.std.specs.List.{range_with_len}
use Rattle.std.proofs.lemmas.List.{map-append}
use Rattle.std.proofs.lemmas.List.Elements.{filter-append}
use Rattle.std.proofs.lemmas.List.FromFn.{map-range_with_len_more}
use Rattle.fs_model.specs.declared.operation.Operation.{Operation}
use Rattle.fs_model.specs.Numbers.{numbers_below}
use Rattle.fs_model.specs.Operations.{PreExecution, accesses, operations, is_load}
use Rattle.fs_model.proofs.WhichOperation.{length_operations}
use Rattle.fs_cert_evidence.specs.Candidates.{is_source}
use Rattle.fs_cand_listing.specs.RawCandidates.{initial_first, sources_for, all_sources, own_stores}
use Rattle.fs_cand_listing.specs.inner.Listed.{sources_within, sources_among, own_among}

pub one_more : {A : Type 0} (f : ℕ → A) (items pushed : List A) (item : A) (n : ℕ)
    → items ≡ map f (range_with_len 0 n) → item ≡ f n → pushed ≡ items ++ item ∷ []
    → pushed ≡ map f (range_with_len 0 (n + 1))
one_more f items pushed item n e k l = l ∙ rw (e, k) (sym (map-range_with_len_more f 0 n n (omega arith)))

pub all_there : {A : Type 0} (f : ℕ → A) (items : List A) (n m : ℕ) → items ≡ map f (range_with_len 0 n) → n ≡ m
    → items ≡ map f (numbers_below m)
all_there f items n m e k = e ∙ ap (λ i. map f (range_with_len 0 i)) k

module _ (x : PreExecution) where
  split : (a : ℕ)
      → sources_within (operations x) a (length (accesses x)) (length x.words) ++ sources_within (operations x) a 0 (length (accesses x))
      ≡ map (λ s. Some s) (filter (is_source x a) (initial_first x))
  split a =
      sym (map-append (λ s. Some s) (filter (is_source x a) (range_with_len (length (accesses x)) (length x.words))) (filter (is_source x a) (numbers_below (length (accesses x)))))
      ∙ ap (map (λ s. Some s)) (sym (filter-append (is_source x a) (range_with_len (length (accesses x)) (length x.words)) (numbers_below (length (accesses x)))))

  sources_are : (a : ℕ) → sources_among (operations x) (length (accesses x)) a ≡ sources_for x a
  sources_are a =
      let long = length_operations x in
      let rest : length (operations x) - length (accesses x) ≡ length x.words = omega (arith, long) in
      ap (λ k. if is_load x a then sources_within (operations x) a (length (accesses x)) k ++ sources_within (operations x) a 0 (length (accesses x)) else None ∷ []) rest
      ∙ ap (λ list. if is_load x a then list else None ∷ []) (split a)

  maps_same : {A B : Type 0} (f g : A → B) → ((a : A) → f a ≡ g a) → (xs : List A) → map f xs ≡ map g xs
  maps_same f g same [] = refl
  maps_same f g same (y ∷ ys) = let here = same y in let rest = maps_same f g same ys in cc

  pub all_sources_are : (os : List Operation) (n : ℕ) → os ≡ operations x → n ≡ length (accesses x)
      → map (sources_among os n) (numbers_below (length os)) ≡ all_sources x
  all_sources_are os n e k =
      ap (λ l. map (sources_among l n) (numbers_below (length l))) e
      ∙ ap (λ m. map (sources_among (operations x) m) (numbers_below (length (operations x)))) k
      ∙ maps_same (sources_among (operations x) (length (accesses x))) (sources_for x) sources_are (numbers_below (length (operations x)))

  pub all_stores_are : (os : List Operation) (n locations : ℕ) → os ≡ operations x → n ≡ length (accesses x)
      → map (own_among os n) (numbers_below locations) ≡ map (own_stores x) (numbers_below locations)
  all_stores_are os n locations e k =
      ap (λ l. map (own_among l n) (numbers_below locations)) e
      ∙ ap (λ m. map (own_among (operations x) m) (numbers_below locations)) k

-- How many operations are the harts', and the numbers of the others.
use Rattle.std.proofs.Common.{◌≡◌, ℕ, zero, suc, ◌+◌, ◌-◌, Bool, cond, is_some, List, [], ◌∷◌, ◌++◌, length, map, filter, refl, sym, ap, ◌∙◌, arith, length-append}
use Rattle.std.specs.Prelude.{count_by}
use Rattle.std.specs.List.{range_with_len, enumerate_from, flat_map}
use Rattle.std.proofs.lemmas.List.{length-map}
use Rattle.std.proofs.lemmas.List.Sums.{sum_by-cons, sum_by-append}
use Rattle.std.proofs.lemmas.List.FromFn.{length-enumerate_from}
use Rattle.fs_model.specs.declared.operation.Operation.{Operation}
use Rattle.fs_model.specs.declared.step.Step.{Step}
use Rattle.fs_model.specs.Operations.{PreExecution, access_of, accesses_of, accesses, initial_store, operations}
use Rattle.fs_model.specs.Source.{gmo}

abbrev pub is_of_hart : Operation → Bool
is_of_hart operation = is_some operation.hart

count_of_hart : (hart : ℕ) (ys : List (ℕ × Step)) → count_by is_of_hart (map (access_of hart) ys) ≡ length ys
count_of_hart hart [] = refl
count_of_hart hart (y ∷ ys) =
    sum_by-cons (λ operation. cond (is_of_hart operation) 1 0) (access_of hart y) (map (access_of hart) ys)
    ∙ (let e = count_of_hart hart ys in omega (arith, e))

count_append : (xs ys : List Operation) → count_by is_of_hart (xs ++ ys) ≡ count_by is_of_hart xs + count_by is_of_hart ys
count_append xs ys = sum_by-append (λ operation. cond (is_of_hart operation) 1 0) xs ys

count_of_harts : (harts : List (ℕ × List Step))
    → count_by is_of_hart (flat_map accesses_of harts) ≡ length (flat_map accesses_of harts)
count_of_harts [] = refl
count_of_harts (h ∷ harts) =
    count_append (accesses_of h) (flat_map accesses_of harts)
    ∙ rw (count_of_hart h.0 (filter (λ numbered. is_some numbered.1.address) (enumerate_from 0 h.1)), count_of_harts harts)
    (ap (λ n. n + length (flat_map accesses_of harts)) (sym (length-map (filter (λ numbered. is_some numbered.1.address)
    (enumerate_from 0 h.1)) (access_of h.0)))
    ∙ sym (length-append (accesses_of h) (flat_map accesses_of harts)))

count_initial : (ys : List (ℕ × ℕ)) → count_by is_of_hart (map initial_store ys) ≡ 0
count_initial [] = refl
count_initial (y ∷ ys) =
    sum_by-cons (λ operation. cond (is_of_hart operation) 1 0) (initial_store y) (map initial_store ys)
    ∙ (let e = count_initial ys in omega (arith, e))

pub count_accesses : (x : PreExecution) → count_by is_of_hart (operations x) ≡ length (accesses x)
count_accesses x =
    count_append (accesses x) (map initial_store (enumerate_from 0 x.words))
    ∙ rw (count_of_harts (enumerate_from 0 x.traces), count_initial (enumerate_from 0 x.words)) (omega arith)

pub range_more : (a n : ℕ) → range_with_len a (n + 1) ≡ range_with_len a n ++ (a + n) ∷ []
range_more a zero = one a (a + 0) (omega arith)
  where
    one : (a b : ℕ) → a ≡ b → ◌≡◌ {A = List ℕ} (a ∷ []) (b ∷ [])
    one a b e = rw e refl
range_more a (suc n) =
    let e : suc n + 1 ≡ suc (n + 1) = omega arith in
    rw e (ap (λ ys. a ∷ ys) (range_more (a + 1) n ∙ end a n (range_with_len (a + 1) n)))
  where
    end : (a n : ℕ) (ys : List ℕ) → ys ++ (a + 1 + n) ∷ [] ≡ ys ++ (a + suc n) ∷ []
    end a n ys = let e : a + 1 + n ≡ a + suc n = omega arith in rw e refl

pub initial_numbers : (x : PreExecution) (order : List ℕ)
    → range_with_len (length (accesses x)) (length (operations x) - length (accesses x)) ++ order ≡ gmo x order
initial_numbers x order =
    let total : length (operations x) ≡ length (accesses x) + length x.words =
    length-append (accesses x) (map initial_store (enumerate_from 0 x.words))
    ∙ ap (λ n. length (accesses x) + n) (length-map (enumerate_from 0 x.words) initial_store ∙ length-enumerate_from 0 x.words)
    in
    let rest : length (operations x) - length (accesses x) ≡ length x.words = omega (arith, total) in
    ap (λ n. range_with_len (length (accesses x)) n ++ order) rest

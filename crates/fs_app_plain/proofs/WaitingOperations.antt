-- Each step that accesses memory is an operation (as in `Steps` of fs_verdict_laws).
use Rattle.std.proofs.Common.{◌≡◌, ℕ, zero, suc, ◌+◌, ◌<◌, Bool, true, false, Some, None, is_some, List, [], ◌∷◌, ◌++◌, length, map, filter, get_or, sym, ◌∙◌, ap, subst, arith}
use Rattle.std.specs.Prelude.{slice_get, if◌then◌else◌}
use Rattle.std.specs.List.{enumerate_from, flat_map}
use Rattle.std.proofs.Math.ListN.{get_or-append}
use Rattle.std.proofs.lemmas.List.{length-append}
use Rattle.std.proofs.lemmas.List.Concat.{flat_map-cons}
use Rattle.std.proofs.lemmas.Bool.{false≢true}
use Rattle.fs_model.specs.declared.operation.Operation.{Operation}
use Rattle.fs_model.specs.declared.step.Step.{Step}
use Rattle.fs_model.specs.Operations.{PreExecution, access_of, accesses_of, accesses, initial_store, operation, nothing, steps_of}

-- it stands in the list
abbrev IsThere : List Operation → Operation → Type 0
IsThere os o = (a : ℕ) × (a < length os) × (get_or os a nothing ≡ o)

there_left : (xs ys : List Operation) (o : Operation) → IsThere xs o → IsThere (xs ++ ys) o
there_left xs ys o t =
    let low = t.1 in
    let long = length-append xs ys in
    (t.0, omega (arith, low, long), get_or-append xs ys nothing t.0 low ∙ t.2)

there_right : (xs ys : List Operation) (o : Operation) → IsThere ys o → IsThere (xs ++ ys) o
there_right [] ys o t = t
there_right (x ∷ xs) ys o t =
    let rest = there_right xs ys o t in
    (suc rest.0, let low = rest.1 in omega (arith, low), rest.2)

there_later : (x : Operation) (xs : List Operation) (o : Operation) → IsThere xs o → IsThere (x ∷ xs) o
there_later x xs o t = (suc t.0, let low = t.1 in omega (arith, low), t.2)

accesses_from : ℕ → ℕ → List Step → List Operation
accesses_from h n steps = map (access_of h) (filter (λ numbered. is_some numbered.1.address) (enumerate_from n steps))

in_run : (h n k : ℕ) (steps : List Step) (s : Step) → slice_get steps k ≡ Some s → is_some s.address ≡ true → IsThere (accesses_from h n steps) (access_of h (n + k, s))
unfolding accesses_from
in_run h n k [] s e there = absurd (let none : None ≡ Some s = e in cc)
in_run h n zero (u ∷ us) s e there =
    let whole : Some u ≡ Some s = e in
    let same : u ≡ s = cc in
    let at : access_of h (n, u) ≡ access_of h (n + 0, s) = ap (λ (v : Step). access_of h (n, v)) same ∙ ap (λ m. access_of h (m, s)) (omega arith) in
    by_case (is_some u.address) (subst (λ (v : Step). is_some v.address ≡ true) (sym same) there) at
  where
    by_case : (b : Bool) → b ≡ true → access_of h (n, u) ≡ access_of h (n + 0, s)
        → IsThere (map (access_of h) (if b then (n, u) ∷ filter (λ numbered. is_some numbered.1.address) (enumerate_from (n + 1) us) else filter (λ numbered. is_some numbered.1.address) (enumerate_from (n + 1) us))) (access_of h (n + 0, s))
    by_case true b at = (0, omega arith, at)
    by_case false b at = absurd (false≢true b)
in_run h n (suc k) (u ∷ us) s e there =
    by_case (is_some u.address) (subst (λ m. IsThere (accesses_from h (n + 1) us) (access_of h (m, s))) (omega arith) (in_run h (n + 1) k us s e there))
  where
    by_case : (b : Bool) → IsThere (map (access_of h) (filter (λ numbered. is_some numbered.1.address) (enumerate_from (n + 1) us))) (access_of h (n + suc k, s))
        → IsThere (map (access_of h) (if b then (n, u) ∷ filter (λ numbered. is_some numbered.1.address) (enumerate_from (n + 1) us) else filter (λ numbered. is_some numbered.1.address) (enumerate_from (n + 1) us))) (access_of h (n + suc k, s))
    by_case true rest = there_later (access_of h (n, u)) _ _ rest
    by_case false rest = rest

in_runs : (n h k : ℕ) (traces : List (List Step)) (s : Step) → slice_get (steps_of traces h) k ≡ Some s → is_some s.address ≡ true
    → IsThere (flat_map accesses_of (enumerate_from n traces)) (access_of (n + h) (k, s))
unfolding accesses_from
in_runs n h k [] s e there = absurd (let none : None ≡ Some s = e in cc)
in_runs n zero k (steps ∷ traces) s e there =
    let here : IsThere (accesses_of (n, steps)) (access_of n (k, s)) = subst (λ m. IsThere (accesses_of (n, steps)) (access_of n (m, s))) (omega arith) (in_run n 0 k steps s e there) in
    rw (flat_map-cons accesses_of (n, steps) (enumerate_from (n + 1) traces))
    (there_left _ _ _ (subst (λ m. IsThere (accesses_of (n, steps)) (access_of m (k, s))) (omega arith) here))
in_runs n (suc h) k (steps ∷ traces) s e there =
    let later = in_runs (n + 1) h k traces s e there in
    rw (flat_map-cons accesses_of (n, steps) (enumerate_from (n + 1) traces))
    (there_right (accesses_of (n, steps)) _ _ (subst (λ m. IsThere (flat_map accesses_of (enumerate_from (n + 1) traces)) (access_of m (k, s))) (omega arith) later))

-- step k of the hart's run, where it accesses memory, is some operation
pub operation_there : (x : PreExecution) (h k : ℕ) (s : Step) → slice_get (steps_of x.traces h) k ≡ Some s → is_some s.address ≡ true
    → (a : ℕ) × (a < length (accesses x)) × (operation x a ≡ access_of h (k, s))
operation_there x h k s e there =
    let found = in_runs 0 h k x.traces s e there in
    let low = found.1 in
    let at : access_of (0 + h) (k, s) ≡ access_of h (k, s) = ap (λ m. access_of m (k, s)) (omega arith) in
    (found.0, low, get_or-append (accesses x) (map initial_store (enumerate_from 0 x.words)) nothing found.0 low ∙ found.2 ∙ at)

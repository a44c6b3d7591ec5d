-- The operations of harts: they are numbered hart by hart and in the order of their runs, and each is a step of a run.
use Rattle.std.proofs.Common.{◌≡◌, ℕ, zero, suc, ◌+◌, ◌<◌, ◌≤◌, ◌⊎◌, inl, inr, Bool, true, false, None, Some, is_some, Option, option_map, option_and_then, unwrap_or, List, [], ◌∷◌, ◌++◌, length, map, filter, get_or, refl, sym, ◌∙◌, ap, subst, arith, append_assoc}
use Rattle.std.specs.Prelude.{slice_get, if◌then◌else◌}
use Rattle.std.specs.List.{AllByRecursion, enumerate_from, flat_map, slice_index_or}
use Rattle.std.proofs.Math.ListN.{get_or-append}
use Rattle.std.proofs.lemmas.List.{get_or_at, length-append}
use Rattle.std.proofs.lemmas.List.Concat.{flat_map-cons}
use Rattle.fs_kinds.specs.declared.reason.OperationName.{OperationName as Name}
use Rattle.fs_model.specs.declared.operation.Operation.{Operation}
use Rattle.fs_model.specs.declared.step.Step.{Step}
use Rattle.fs_model.specs.Operations.{PreExecution, access_of, accesses_of, accesses, initial_store, operation, nothing, place, steps_of}
use Rattle.fs_model.specs.Witness.{name_of, step_name}

-- ---- operations by hart and place

-- o is of an earlier hart, or earlier in the run of the same
abbrev pub Less : Operation → Operation → Type 0
Less o u = (h k : ℕ) × (o.hart ≡ Some h) × (u.hart ≡ Some k) × ((h < k) ⊎ ((h ≡ k) × (o.place < u.place)))

abbrev Ordered : List Operation → Type 0
Ordered [] = Unit {0}
Ordered (o ∷ os) = AllByRecursion (Less o) os × Ordered os

abbrev AreFrom : ℕ → ℕ → List Operation → Type 0
AreFrom h n os = AllByRecursion (λ o. (o.hart ≡ Some h) × (n ≤ o.place)) os

abbrev AreOfHarts : ℕ → List Operation → Type 0
AreOfHarts h os = AllByRecursion (λ o. (k : ℕ) × (o.hart ≡ Some k) × (h ≤ k)) os

later_place : (h m n : ℕ) (os : List Operation) → m ≤ n → AreFrom h n os → AreFrom h m os
later_place h m n [] low f = tt
later_place h m n (o ∷ os) low f = ((f.0.0, omega (arith, low, f.0.1)), later_place h m n os low f.1)

less_than_later : (h n : ℕ) (o : Operation) (os : List Operation) → o.hart ≡ Some h → o.place < n → AreFrom h n os → AllByRecursion (Less o) os
less_than_later h n o [] e low f = tt
less_than_later h n o (u ∷ os) e low f = ((h, h, e, f.0.0, inr (refl, omega (arith, low, f.0.1))), less_than_later h n o os e low f.1)

accesses_from : ℕ → ℕ → List Step → List Operation
accesses_from h n steps = map (access_of h) (filter (λ numbered. is_some numbered.1.address) (enumerate_from n steps))

one_hart : (h n : ℕ) (steps : List Step) → AreFrom h n (accesses_from h n steps) × Ordered (accesses_from h n steps)
unfolding accesses_from
one_hart h n [] = (tt, tt)
one_hart h n (s ∷ ss) = by_case (is_some s.address) (one_hart h (n + 1) ss)
  where
    by_case : (b : Bool) → AreFrom h (n + 1) (accesses_from h (n + 1) ss) × Ordered (accesses_from h (n + 1) ss)
        → AreFrom h n (map (access_of h) (if b then (n, s) ∷ filter (λ numbered. is_some numbered.1.address) (enumerate_from (n + 1) ss) else filter (λ numbered. is_some numbered.1.address) (enumerate_from (n + 1) ss)))
        × Ordered (map (access_of h) (if b then (n, s) ∷ filter (λ numbered. is_some numbered.1.address) (enumerate_from (n + 1) ss) else filter (λ numbered. is_some numbered.1.address) (enumerate_from (n + 1) ss)))
    by_case true rest = (((refl, omega arith), later_place h n (n + 1) _ (omega arith) rest.0), (less_than_later h (n + 1) (access_of h (n, s)) _ refl (omega arith) rest.0, rest.1))
    by_case false rest = (later_place h n (n + 1) _ (omega arith) rest.0, rest.1)

all_front : (P : Operation → Type 0) (xs ys : List Operation) → AllByRecursion P xs → AllByRecursion P ys → AllByRecursion P (xs ++ ys)
all_front P [] ys a b = b
all_front P (x ∷ xs) ys a b = (a.0, all_front P xs ys a.1 b)

less_than_harts : (h : ℕ) (o : Operation) (os : List Operation) → o.hart ≡ Some h → AreOfHarts (h + 1) os → AllByRecursion (Less o) os
less_than_harts h o [] e f = tt
less_than_harts h o (u ∷ os) e f = ((h, f.0.0, e, f.0.1, inl (omega (arith, f.0.2))), less_than_harts h o os e f.1)

joined : (h n : ℕ) (xs ys : List Operation) → AreFrom h n xs → Ordered xs → AreOfHarts (h + 1) ys → Ordered ys → Ordered (xs ++ ys)
joined h n [] ys a b c d = d
joined h n (x ∷ xs) ys a b c d = (all_front (Less x) xs ys b.0 (less_than_harts h x ys a.0.0 c), joined h n xs ys a.1 b.1 c d)

of_harts : (h n : ℕ) (xs ys : List Operation) → AreFrom h n xs → AreOfHarts (h + 1) ys → AreOfHarts h (xs ++ ys)
of_harts h n [] [] a c = tt
of_harts h n [] (y ∷ ys) a c = ((c.0.0, c.0.1, omega (arith, c.0.2)), of_harts h n [] ys a c.1)
of_harts h n (x ∷ xs) ys a c = ((h, a.0.0, omega arith), of_harts h n xs ys a.1 c)

all_harts : (h : ℕ) (traces : List (List Step)) → AreOfHarts h (flat_map accesses_of (enumerate_from h traces)) × Ordered (flat_map accesses_of (enumerate_from h traces))
unfolding accesses_from
all_harts h [] = (tt, tt)
all_harts h (steps ∷ traces) =
    let rest = all_harts (h + 1) traces in
    let mine = one_hart h 0 steps in
    rw (flat_map-cons accesses_of (h, steps) (enumerate_from (h + 1) traces)) (split mine rest)
  where
    split : AreFrom h 0 (accesses_from h 0 steps) × Ordered (accesses_from h 0 steps)
        → AreOfHarts (h + 1) (flat_map accesses_of (enumerate_from (h + 1) traces)) × Ordered (flat_map accesses_of (enumerate_from (h + 1) traces))
        → AreOfHarts h (accesses_of (h, steps) ++ flat_map accesses_of (enumerate_from (h + 1) traces)) × Ordered (accesses_of (h, steps) ++ flat_map accesses_of (enumerate_from (h + 1) traces))
    split mine rest = (of_harts h 0 _ _ mine.0 rest.0, joined h 0 _ _ mine.0 mine.1 rest.0 rest.1)

all_at : (P : Operation → Type 0) (os : List Operation) (j : ℕ) → AllByRecursion P os → j < length os → P (get_or os j nothing)
all_at P [] j a low = absurd (omega (arith, low))
all_at P (o ∷ os) zero a low = a.0
all_at P (o ∷ os) (suc j) a low = all_at P os j a.1 (omega (arith, low))

by_number : (os : List Operation) (i j : ℕ) → Ordered os → i < j → j < length os → Less (get_or os i nothing) (get_or os j nothing)
by_number [] i j r low high = absurd (omega (arith, high))
by_number (o ∷ os) i zero r low high = absurd (omega (arith, low))
by_number (o ∷ os) zero (suc j) r low high = all_at (Less o) os j r.0 (omega (arith, high))
by_number (o ∷ os) (suc i) (suc j) r low high = by_number os i j r.1 (omega (arith, low)) (omega (arith, high))

pub in_order : (x : PreExecution) (a b : ℕ) → a < b → b < length (accesses x) → Less (operation x a) (operation x b)
in_order x a b low high =
    let ordered = (all_harts 0 x.traces).1 in
    let less = by_number (accesses x) a b ordered low high in
    rw (get_or-append (accesses x) (map initial_store (enumerate_from 0 x.words)) nothing a (omega (arith, low, high)), get_or-append (accesses x) (map initial_store (enumerate_from 0 x.words)) nothing b high) less

-- ---- each access is a step of a run

abbrev pub IsInRun : List (List Step) → Operation → Type 0
IsInRun traces o =
    (hart k : ℕ) × (s : Step) × (slice_get (steps_of traces hart) k ≡ Some s) × (is_some s.address ≡ true) × (access_of hart (k, s) ≡ o)

got_next : {A : Type 0} (before : List A) (a : A) (after : List A) → slice_get (before ++ a ∷ after) (length before) ≡ Some a
got_next [] a after = refl
got_next (b ∷ before) a after = got_next before a after

in_run_from : (traces : List (List Step)) (h : ℕ) (before steps : List Step) → steps_of traces h ≡ before ++ steps → AllByRecursion (IsInRun traces) (accesses_from h (length before) steps)
unfolding accesses_from
in_run_from traces h before [] e = tt
in_run_from traces h before (s ∷ ss) e =
    let more : steps_of traces h ≡ (before ++ s ∷ []) ++ ss = e ∙ sym (append_assoc before (s ∷ []) ss) in
    let rest = in_run_from traces h (before ++ s ∷ []) ss more in
    let count : length (before ++ s ∷ []) ≡ length before + 1 = length-append before (s ∷ []) in
    by_case (is_some s.address) refl (subst (λ n. AllByRecursion (IsInRun traces) (accesses_from h n ss)) count rest)
  where
    by_case : (b : Bool) → is_some s.address ≡ b → AllByRecursion (IsInRun traces) (accesses_from h (length before + 1) ss)
        → AllByRecursion (IsInRun traces) (map (access_of h) (if b then (length before, s) ∷ filter (λ numbered. is_some numbered.1.address) (enumerate_from (length before + 1) ss) else filter (λ numbered. is_some numbered.1.address) (enumerate_from (length before + 1) ss)))
    by_case true there rest = ((h, length before, s, rw e (got_next before s ss), there, refl), rest)
    by_case false there rest = rest

in_runs_from : (traces before after : List (List Step)) → traces ≡ before ++ after → AllByRecursion (IsInRun traces) (flat_map accesses_of (enumerate_from (length before) after))
unfolding accesses_from
in_runs_from traces before [] e = tt
in_runs_from traces before (steps ∷ after) e =
    let more : traces ≡ (before ++ steps ∷ []) ++ after = e ∙ sym (append_assoc before (steps ∷ []) after) in
    let rest = in_runs_from traces (before ++ steps ∷ []) after more in
    let count : length (before ++ steps ∷ []) ≡ length before + 1 = length-append before (steps ∷ []) in
    let here : steps_of traces (length before) ≡ [] ++ steps = rw e (get_or_at before steps after [] (length before) refl) in
    rw (flat_map-cons accesses_of (length before, steps) (enumerate_from (length before + 1) after))
    (all_front (IsInRun traces) _ _ (in_run_from traces (length before) [] steps here) (subst (λ n. AllByRecursion (IsInRun traces) (flat_map accesses_of (enumerate_from n after))) count rest))

pub in_list : {X : Type 0} (xs : List (List X)) (k j : ℕ) (y : X) → slice_get (slice_index_or xs k []) j ≡ Some y → k < length xs
in_list [] k j y e = absurd (let none : None ≡ Some y = e in cc)
in_list (x ∷ xs) zero j y e = omega arith
in_list (x ∷ xs) (suc k) j y e = let low = in_list xs k j y e in omega (arith, low)

-- operation a is the access of this step, which its hart's run has at this place
pub record IsAccess (x : PreExecution) (a : ℕ) : Type 0 where
  pub hart : ℕ
  pub step : Step
  pub low : hart < length x.traces
  pub there : slice_get (steps_of x.traces hart) (place x a) ≡ Some step
  pub accessing : is_some step.address ≡ true
  pub is : operation x a ≡ access_of hart (place x a, step)

pub access_is : (x : PreExecution) (a : ℕ) → a < length (accesses x) → IsAccess x a
access_is x a low =
    let found = all_at (IsInRun x.traces) (accesses x) a (in_runs_from x.traces [] x.traces refl) low in
    let same : operation x a ≡ get_or (accesses x) a nothing = get_or-append (accesses x) (map initial_store (enumerate_from 0 x.words)) nothing a low in
    let whole : operation x a ≡ access_of found.0 (found.1, found.2) = same ∙ sym found.5 in
    let here : place x a ≡ found.1 = ap (λ o. o.place) whole in
    record {
      hart = found.0;
      step = found.2;
      low = in_list x.traces found.0 found.1 found.2 found.3;
      there = rw here found.3;
      accessing = found.4;
      is = whole ∙ ap (λ k. access_of found.0 (k, found.2)) (sym here);
    }

-- ---- each operation of a hart has a name

name_from : (traces : List (List Step)) (k : ℕ) (u : Option ℕ) (hart : ℕ) (s : Step) → u ≡ Some hart → slice_get (steps_of traces hart) k ≡ Some s
    → option_and_then (λ hart. option_map (step_name hart) (slice_get (unwrap_or (option_map (steps_of traces) u) []) k)) u ≡ Some (step_name hart s)
name_from traces k u hart s e r = rw (e, r) refl

pub has_name : (x : PreExecution) (a : ℕ) → a < length (accesses x) → (n : Name) × (name_of x a ≡ Some n)
has_name x a low =
    let access = access_is x a low in (
      step_name access.hart access.step,
      name_from x.traces (place x a) (operation x a).hart access.hart access.step (ap (λ o. o.hart) access.is) access.there,
    )

-- Operations whose places move, those of one hart from a place on; and the operations of the runs, part by part.
use Rattle.std.proofs.Common.{◌≡◌, ℕ, zero, suc, ◌+◌, ◌<◌, nat_lt, Bool, true, false, ◌&&◌, cond, if◌then◌else◌, List, [], ◌∷◌, ◌++◌, length, map, filter, flat_map, Option, Some, refl, ap, sym, ◌∙◌, arith, append_assoc}
use Rattle.std.specs.Prelude.{is_some, slice_set, take, drop}
use Rattle.std.specs.List.{enumerate_from}
use Rattle.std.proofs.lemmas.Bool.{ne_eqb, eq-eqb}
use Rattle.std.proofs.lemmas.List.{map-append}
use Rattle.fs_model.specs.declared.operation.Operation.{Operation}
use Rattle.fs_model.specs.declared.step.Step.{Step}
use Rattle.fs_model.specs.Operations.{is_same, access_of, accesses_of, initial_store, precedes}
use Rattle.fs_model.proofs.OptionalNumbers.{same_is}
use Rattle.fs_app_plain.proofs.Shortened.{there}
use Rattle.fs_app_plain.proofs.FewerThere.{there_keeps}

-- ---- operations of a list of steps, whose first has place n

abbrev pub accesses_from : (hart n : ℕ) → List Step → List Operation
accesses_from hart n steps =
    map (access_of hart) (filter (λ numbered. is_some numbered.1.address) (enumerate_from n steps))

one_appended : (hart n : ℕ) (s : Step) (c : Bool) (both first : List (ℕ × Step)) (rest : List Operation)
    → map (access_of hart) both ≡ map (access_of hart) first ++ rest
    → map (access_of hart) (cond c ((n, s) ∷ both) both) ≡ map (access_of hart) (cond c ((n, s) ∷ first) first) ++ rest
one_appended hart n s true both first rest e = ap (λ os. access_of hart (n, s) ∷ os) e
one_appended hart n s false both first rest e = e

pub accesses_append : (hart n m : ℕ) (first rest : List Step) → m ≡ n + length first
    → accesses_from hart n (first ++ rest) ≡ accesses_from hart n first ++ accesses_from hart m rest
accesses_append hart n m [] rest e = let same : n ≡ m = omega (arith, e) in ap (λ k. accesses_from hart k rest) same
accesses_append hart n m (s ∷ ss) rest e =
    one_appended hart n s (is_some s.address) _ _ _ (accesses_append hart (n + 1) m ss rest (omega (arith, e)))

-- ---- places that move

module _ (hart first count : ℕ) where
  -- places of this hart are moved from this first one on
  abbrev pub moved_place : Option ℕ → ℕ → ℕ
  moved_place h k = if is_same h (Some hart) then there first count k else k

  abbrev pub moved : Operation → Operation
  moved o =
      record {
        hart = o.hart;
        place = moved_place o.hart o.place;
        instr = o.instr;
        address = o.address;
        loaded = o.loaded;
        stored = o.stored;
      }

  pub own_place : (k : ℕ) → moved_place (Some hart) k ≡ there first count k
  own_place k = ap (λ c. if c then there first count k else k) (eq-eqb hart hart refl)

  pub other_place : (h k : ℕ) → (h ≡ hart → ⊥) → moved_place (Some h) k ≡ k
  other_place h k apart = ap (λ c. if c then there first count k else k) (ne_eqb h hart apart)

  either_keeps : (c : Bool) (i j : ℕ)
      → nat_lt (if c then there first count i else i) (if c then there first count j else j) ≡ nat_lt i j
  either_keeps true i j = there_keeps first count i j
  either_keeps false i j = refl

  places_keep : (h k : Option ℕ) (i j : ℕ) → is_same h k ≡ true
      → nat_lt (moved_place h i) (moved_place k j) ≡ nat_lt i j
  places_keep h k i j e =
      ap (λ o. nat_lt (moved_place h i) (moved_place o j)) (sym (same_is h k e))
      ∙ either_keeps (is_same h (Some hart)) i j

  and_when : (c a b : Bool) → (c ≡ true → a ≡ b) → (c && a) ≡ (c && b)
  and_when true a b h = h refl
  and_when false a b h = refl

  pub precedes_moved : (o u : Operation) → precedes o u ≡ precedes (moved o) (moved u)
  precedes_moved o u =
      and_when (is_same o.hart u.hart) _ _ (λ e. sym (places_keep o.hart u.hart o.place u.place e))

  one_moved : (h n m : ℕ) (s : Step) (c : Bool) (xs ys : List (ℕ × Step)) → moved_place (Some h) n ≡ m
      → map (access_of h) ys ≡ map moved (map (access_of h) xs)
      → map (access_of h) (cond c ((m, s) ∷ ys) ys) ≡ map moved (map (access_of h) (cond c ((n, s) ∷ xs) xs))
  one_moved h n m s true xs ys e rest =
      ap (λ k. access_of h (k, s) ∷ map (access_of h) ys) (sym e) ∙ ap (λ os. moved (access_of h (n, s)) ∷ os) rest
  one_moved h n m s false xs ys e rest = rest

  -- operations of steps from place m on are those from place n on, moved
  pub accesses_moved : (h n m : ℕ) (steps : List Step)
      → ((k : ℕ) → k < length steps → moved_place (Some h) (n + k) ≡ m + k)
      → accesses_from h m steps ≡ map moved (accesses_from h n steps)
  accesses_moved h n m [] e = refl
  accesses_moved h n m (s ∷ ss) e =
      let none : n ≡ n + 0 = omega arith in
      let one = ap (moved_place (Some h)) none ∙ e 0 (omega arith) in
      let rest = accesses_moved h (n + 1) (m + 1) ss
      (λ k low. ap (moved_place (Some h)) (omega arith) ∙ e (suc k) (omega (arith, low)) ∙ omega arith) in
      one_moved h n m s (is_some s.address) _ _ (one ∙ omega arith) rest

  -- the initial stores stay as they are
  pub stores_stay : (zs : List (ℕ × ℕ)) → map initial_store zs ≡ map moved (map initial_store zs)
  stores_stay [] = refl
  stores_stay (z ∷ zs) = ap (λ os. initial_store z ∷ os) (stores_stay zs)

-- ---- the operations of several harts, the first of which has number n

abbrev pub harts_from : (n : ℕ) → List (List Step) → List Operation
harts_from n traces = flat_map accesses_of (enumerate_from n traces)

-- where one run is put in another's place
pub harts_split : (n m k : ℕ) (traces : List (List Step)) (steps : List Step) → k < length traces → m ≡ n + k
    → harts_from n (slice_set traces k steps)
    ≡ harts_from n (take k traces) ++ (accesses_from m 0 steps ++ harts_from (m + 1) (drop (suc k) traces))
harts_split n m k [] steps low e = absurd (omega (arith, low))
harts_split n m zero (t ∷ ts) steps low e =
    let same : n ≡ m = omega (arith, e) in
    ap (λ i. accesses_from i 0 steps ++ harts_from (i + 1) ts) same
harts_split n m (suc k) (t ∷ ts) steps low e =
    let rest = harts_split (n + 1) m k ts steps (omega (arith, low)) (omega (arith, e)) in
    ap (λ os. accesses_of (n, t) ++ os) rest
    ∙ sym (append_assoc (accesses_of (n, t)) (harts_from (n + 1) (take k ts))
    (accesses_from m 0 steps ++ harts_from (m + 1) (drop (suc k) ts)))

-- the operations of other harts stay as they are
pub others_stay : (hart first count n : ℕ) (traces : List (List Step))
    → ((k : ℕ) → k < length traces → n + k ≡ hart → ⊥)
    → harts_from n traces ≡ map (moved hart first count) (harts_from n traces)
others_stay hart first count n [] apart = refl
others_stay hart first count n (t ∷ ts) apart =
    let none : n + 0 ≡ n = omega arith in
    let mine = accesses_moved hart first count n 0 0 t
    (λ k low. other_place hart first count n (0 + k) (λ e. apart 0 (omega arith) (none ∙ e))) in
    let rest = others_stay hart first count (n + 1) ts
    (λ k low e. apart (suc k) (omega (arith, low)) (omega (arith, e))) in
    ap (λ os. os ++ harts_from (n + 1) ts) mine
    ∙ ap (λ os. map (moved hart first count) (accesses_of (n, t)) ++ os) rest
    ∙ sym (map-append (moved hart first count) (accesses_of (n, t)) (harts_from (n + 1) ts))

-- Looking names up, one after the other.
use Rattle.std.proofs.Common.{◌≡◌, ℕ, zero, suc, ◌<◌, ◌++◌, Bool, true, false, Option, None, Some, option_map, option_and_then, if◌then◌else◌, List, [], ◌∷◌, length, map, inl, inr, refl, sym, ◌∙◌, ap, arith, append_assoc}
use Rattle.std.specs.Prelude.{◌==◌, nat_lt, ◌&&◌, slice_get, unwrap_or}
use Rattle.std.proofs.lemmas.Bool.{and_parts, and_from, eqb-true, eq-eqb, false≢true, cases_lt, both_ways, or_left, or_right}
use Rattle.std.proofs.lemmas.List.Quantifiers.{position-Some}
use Rattle.std.proofs.Math.ListN.{get_or}
use Rattle.std.proofs.lemmas.List.{get_or-map, length-map}
use Rattle.std.specs.List.{list_any}
use Rattle.fs_kinds.proofs.Entries.{list_any-none}
use Rattle.fs_kinds.specs.declared.reason.OperationName.{OperationName as Name}
use Rattle.fs_model.specs.declared.step.Step.{Step}
use Rattle.fs_model.specs.Operations.{PreExecution, steps_of, operation, operations, nothing, place}
use Rattle.fs_model.specs.Witness.{name_of}
use Rattle.fs_model.specs.Reasons.{HaveNames}
use Rattle.fs_model.proofs.Ranges.{past_last}
use Rattle.fs_cert_evidence.specs.WitnessFile.{in_range}
use Rattle.fs_model.specs.Witness.{step_name}
use Rattle.fs_cand.specs.inner.NamedOrder.{name_in, is_same_name, number_of, numbers_of}

-- one name more
pub one_more : (names : List (Option Name)) (wanted rest : List (Option Name)) (order : List ℕ) (name : Option Name) (a : ℕ) → wanted ≡ name ∷ rest → number_of names name ≡ Some a
    → option_map (λ rest. (order ++ a ∷ []) ++ rest) (numbers_of names rest) ≡ option_map (λ rest. order ++ rest) (numbers_of names wanted)
one_more names wanted rest order name a e k = rw (e, k) (by_case (numbers_of names rest))
  where
    by_case : (o : Option (List ℕ)) → option_map (λ rest. (order ++ a ∷ []) ++ rest) o ≡ option_map (λ rest. order ++ rest) (option_map (λ order. a ∷ order) o)
    by_case None = refl
    by_case (Some xs) = ap Some (simp append_assoc)

-- a name that no operation has
pub no_more : (names : List (Option Name)) (wanted rest : List (Option Name)) (name : Option Name) → wanted ≡ name ∷ rest → number_of names name ≡ None → numbers_of names wanted ≡ None
no_more names wanted rest name e k = rw (e, k) refl

pub none_kept : (f : List ℕ → List ℕ) (o u : Option (List ℕ)) → o ≡ None → option_map f o ≡ u → None ≡ u
none_kept f o u e k = sym (ap (option_map f) e) ∙ k

-- ---- numbers that are found have the names

same_name : (o u : Option Name) → is_same_name o u ≡ true → o ≡ u
same_name (Some a) (Some b) h =
    let parts = and_parts (a.hart == b.hart) (a.at == b.at) h in
    let hart : a.hart ≡ b.hart = eqb-true a.hart b.hart parts.0 in
    let at : a.at ≡ b.at = eqb-true a.at b.at parts.1 in
    ap (λ h. Some (record { hart = h; at = a.at })) hart ∙ ap (λ t. Some (record { hart = b.hart; at = t })) at
same_name (Some a) None h = absurd (false≢true h)
same_name None u h = absurd (false≢true h)

name_itself : (n : Name) → is_same_name (Some n) (Some n) ≡ true
name_itself n = and_from _ _ (eq-eqb n.hart n.hart refl) (eq-eqb n.at n.at refl)

name_by_hart : (traces : List (List Step)) (k : ℕ) (o : Option ℕ)
    → option_and_then (λ hart. option_map (step_name hart) (slice_get (unwrap_or (option_map (steps_of traces) o) []) k)) o
    ≡ option_and_then (λ hart. option_map (step_name hart) (slice_get (steps_of traces hart) k)) o
name_by_hart traces k None = refl
name_by_hart traces k (Some hart) = refl

-- the name of an operation, looked up in its run
pub name_is : (x : PreExecution) (a : ℕ) → name_of x a ≡ name_in x.traces (operation x a)
name_is x a = name_by_hart x.traces (place x a) (operation x a).hart

name_at : (x : PreExecution) (a : ℕ) → a < length (operations x) → get_or (map (name_in x.traces) (operations x)) a None ≡ name_of x a
name_at x a low = get_or-map (name_in x.traces) (operations x) a nothing None low ∙ sym (name_is x a)

found_name : (x : PreExecution) (wanted : Option Name) (a : ℕ) → number_of (map (name_in x.traces) (operations x)) wanted ≡ Some a → name_of x a ≡ wanted
found_name x wanted a e =
    let there = position-Some (λ name. is_same_name name wanted) (map (name_in x.traces) (operations x)) a None e in
    let low : a < length (operations x) = omega (arith, there.0, length-map (operations x) (name_in x.traces)) in
    sym (name_at x a low) ∙ same_name _ _ there.1

just : {A : Type 0} {a b : A} → Some a ≡ Some b → a ≡ b
just e = cc

first_of : (names : List (Option Name)) (wanted : Option Name) (rest : List (Option Name)) (order : List ℕ) → numbers_of names (wanted ∷ rest) ≡ Some order
    → (a : ℕ) × (later : List ℕ) × (number_of names wanted ≡ Some a) × (numbers_of names rest ≡ Some later) × (order ≡ a ∷ later)
first_of names wanted rest order e = by_number (number_of names wanted) (numbers_of names rest) refl refl e
  where
    by_number : (o : Option ℕ) (u : Option (List ℕ)) → number_of names wanted ≡ o → numbers_of names rest ≡ u → option_and_then (λ a. option_map (λ order. a ∷ order) u) o ≡ Some order
        → (a : ℕ) × (later : List ℕ) × (number_of names wanted ≡ Some a) × (numbers_of names rest ≡ Some later) × (order ≡ a ∷ later)
    by_number None u k l e = absurd (let none : None ≡ Some order = e in cc)
    by_number (Some a) None k l e = absurd (let none : None ≡ Some order = e in cc)
    by_number (Some a) (Some later) k l e = (a, later, k, l, sym (just e))

-- a name of one byte each
abbrev pub AreInRange : List Name → Type 0
AreInRange [] = Unit {0}
AreInRange (n ∷ ns) = (in_range n ≡ Some n) × AreInRange ns

in_range_itself : (n m : Name) → in_range n ≡ Some m → n ≡ m
in_range_itself n m e = by_case (nat_lt n.hart 256 && nat_lt n.at 256) e
  where
    by_case : (b : Bool) → (if b then Some n else None) ≡ Some m → n ≡ m
    by_case true e = just e
    by_case false e = absurd (let none : None ≡ Some m = e in cc)

never_none : (names : List (Option Name)) (wanted : Option Name) (a : ℕ) → number_of names wanted ≡ Some a → wanted ≡ None → ⊥
never_none names wanted a e k =
    let there = position-Some (λ name. is_same_name name wanted) names a None e in
    not_none (get_or names a None) wanted k there.1
  where
    not_none : (o u : Option Name) → u ≡ None → is_same_name o u ≡ true → ⊥
    not_none None u k h = false≢true h
    not_none (Some o) None k h = false≢true h
    not_none (Some o) (Some u) k h = (let none : Some u ≡ None = k in cc)

cons_same : {A : Type 0} {a b : A} {xs ys : List A} → a ≡ b → xs ≡ ys → a ∷ xs ≡ b ∷ ys
cons_same e k = cc

-- where all names are found, the numbers have them
pub found_names : (x : PreExecution) (wanted : List Name) (order : List ℕ) → numbers_of (map (name_in x.traces) (operations x)) (map in_range wanted) ≡ Some order → HaveNames x order wanted
found_names x [] order e = rw (sym (just e)) refl
found_names x (n ∷ ns) order e =
    let parts = first_of (map (name_in x.traces) (operations x)) (in_range n) (map in_range ns) order e in
    let rest = found_names x ns parts.1 parts.3 in
    let found : name_of x parts.0 ≡ in_range n = found_name x (in_range n) parts.0 parts.2 in
    rw parts.4 (cons_same (found ∙ by_case n (in_range n) refl (λ k. never_none _ (in_range n) parts.0 parts.2 k)) rest)
  where
    by_case : (n : Name) (o : Option Name) → in_range n ≡ o → (in_range n ≡ None → ⊥) → in_range n ≡ Some n
    by_case n None k h = absurd (h k)
    by_case n (Some m) k h = k ∙ ap Some (sym (in_range_itself n m k))

-- ---- names that operations have are found

-- an operation's name is in range
abbrev pub NamesInRange : PreExecution → Type 0
NamesInRange x = (a : ℕ) (n : Name) → name_of x a ≡ Some n → in_range n ≡ Some n

hd : {A : Type 0} {a b : A} {xs ys : List A} → a ∷ xs ≡ b ∷ ys → (a ≡ b) × (xs ≡ ys)
hd e = (cc, cc)

some_name : (x : PreExecution) (a : ℕ) (n : Name) → name_of x a ≡ Some n → a < length (operations x)
some_name x a n e = elim (cases_lt a (length (operations x))) [
  | inl low ↦ low
  | inr past ↦ absurd (
      let o : operation x a ≡ nothing = past_last x a past in
      let none : None ≡ Some n = sym (name_is x a ∙ ap (name_in x.traces) o) ∙ e in
      cc)
]

any_at : (test : Option Name → Bool) (names : List (Option Name)) (a : ℕ) → a < length names → test (get_or names a None) ≡ true → list_any test names ≡ true
any_at test [] a low h = absurd (omega (arith, low))
any_at test (n ∷ names) zero low h = or_left (test n) _ h
any_at test (n ∷ names) (suc a) low h = or_right (test n) _ (any_at test names a (omega (arith, low)) h)

found_one : (x : PreExecution) (a : ℕ) (n : Name) → NamesInRange x → name_of x a ≡ Some n → (b : ℕ) × (number_of (map (name_in x.traces) (operations x)) (in_range n) ≡ Some b)
found_one x a n ranged e = by_case (number_of (map (name_in x.traces) (operations x)) (in_range n)) refl
  where
    by_case : (o : Option ℕ) → number_of (map (name_in x.traces) (operations x)) (in_range n) ≡ o → (b : ℕ) × (o ≡ Some b)
    by_case (Some b) k = (b, refl)
    by_case None k = absurd (
        let low = some_name x a n e in
        let here : get_or (map (name_in x.traces) (operations x)) a None ≡ Some n = name_at x a low ∙ e in
        let fails = list_any-none (λ name. is_same_name name (in_range n)) (map (name_in x.traces) (operations x)) k in
        let passes : is_same_name (get_or (map (name_in x.traces) (operations x)) a None) (in_range n) ≡ true = rw (here, ranged a n e) (name_itself n) in
        both_ways _ fails (any_at (λ name. is_same_name name (in_range n)) (map (name_in x.traces) (operations x)) a (omega (arith, low, length-map (operations x) (name_in x.traces))) passes))

pub found_all : (x : PreExecution) (wanted : List Name) (order : List ℕ) → NamesInRange x → HaveNames x order wanted
    → (found : List ℕ) × (numbers_of (map (name_in x.traces) (operations x)) (map in_range wanted) ≡ Some found)
found_all x [] order ranged e = ([], refl)
found_all x (n ∷ ns) [] ranged e = absurd (let none : [] ≡ Some n ∷ map (λ name. Some name) ns = e in cc)
found_all x (n ∷ ns) (a ∷ order) ranged e =
    let parts = hd e in
    let one = found_one x a n ranged parts.0 in
    let rest = found_all x ns order ranged parts.1 in
    (one.0 ∷ rest.0, rw (one.1, rest.1) refl)

-- ---- names say which operations

pub names_say : (x : PreExecution) (wanted : List Name) (order other : List ℕ) → ((a b : ℕ) (n : Name) → name_of x a ≡ Some n → name_of x b ≡ Some n → a ≡ b)
    → HaveNames x order wanted → HaveNames x other wanted → order ≡ other
names_say x [] [] [] once e k = refl
names_say x [] [] (b ∷ other) once e k = absurd (let none : name_of x b ∷ map (name_of x) other ≡ [] = k in cc)
names_say x [] (a ∷ order) other once e k = absurd (let none : name_of x a ∷ map (name_of x) order ≡ [] = e in cc)
names_say x (n ∷ ns) [] other once e k = absurd (let none : [] ≡ Some n ∷ map (λ name. Some name) ns = e in cc)
names_say x (n ∷ ns) (a ∷ order) [] once e k = absurd (let none : [] ≡ Some n ∷ map (λ name. Some name) ns = k in cc)
names_say x (n ∷ ns) (a ∷ order) (b ∷ other) once e k =
    let p = hd e in
    let q = hd k in
    cons_same (once a b n p.0 q.0) (names_say x ns order other once p.1 q.1)

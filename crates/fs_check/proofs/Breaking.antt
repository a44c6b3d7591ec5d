-- What the first number, or the first two, that a search finds say of the axioms; and what a search says that finds
-- none.
use Rattle.std.proofs.Common.{◌≡◌, ℕ, zero, suc, ◌+◌, ◌<◌, ◌≤◌, Bool, true, false, ◌&&◌, ◌||◌, not, Option, None, Some, is_some, option_map, unwrap_or, List, [], ◌∷◌, length, slice_get, refl, sym, inl, inr, arith, ap, subst, ◌∙◌}
use Rattle.std.specs.List.{find, list_any, range_with_len}
use Rattle.std.proofs.lemmas.Bool.{and_parts, or_cases, false≢true, cases_lt, cases_Bool, eqb-true, ltb-true, not-false}
use Rattle.fs_kinds.specs.declared.placement.Entry.{Entry}
use Rattle.fs_model.specs.Numbers.{numbers_below, stands_before}
use Rattle.fs_model.specs.Operations.{PreExecution, accesses, po, paired}
use Rattle.fs_model.specs.Source.{gmo, source_in}
use Rattle.fs_model.specs.Preserved.{Rule, all_rules, case_of, rule}
use Rattle.fs_model.specs.Tests.{follows_closely}
use Rattle.fs_model.specs.Execution.{IsAtomic}
use Rattle.fs_model.specs.Reasons.{IsLeast, is_earlier, IsLeastPair, is_wrong_load, is_against_rule, is_against_atomicity, LoadsRightly, KeepsRules}
use Rattle.fs_model.proofs.ProgramOrder.{po_of_harts}
use Rattle.fs_model_axioms.proofs.Axioms.{returning_all, atomic_by_pairs}
use Rattle.fs_check.specs.inner.Breaking.{rule_broken_by, rule_broken_after, atomicity_broken_by}

-- ---- the first number that passes

some_same : {X : Type 0} (a b : X) → Some a ≡ Some b → a ≡ b
some_same a b h = cc

none_not_some : {X : Type 0} (a : X) → None ≡ Some a → ⊥
none_not_some a h = cc

not_there : {X : Type 0} (o : Option X) → is_some o ≡ false → o ≡ None
not_there None h = refl
not_there (Some a) h = absurd (false≢true (sym h))

-- k is the first of n numbers from a on that passes
pub record IsFirstFrom (test : ℕ → Bool) (a n k : ℕ) : Type 0 where
  pub low : a ≤ k
  pub high : k < a + n
  pub passes : test k ≡ true
  pub earlier : (m : ℕ) → a ≤ m → m < k → test m ≡ false

pub first_from : (test : ℕ → Bool) (a n k : ℕ) → find test (range_with_len a n) ≡ Some k → IsFirstFrom test a n k
first_from test a zero k h = absurd (none_not_some k h)
first_from test a (suc n) k h = elim (cases_Bool (test a)) [
  | inl e ↦ here e (some_same a k (rw e at h))
  | inr e ↦ later e (first_from test (a + 1) n k (rw e at h))
]
  where
    here : test a ≡ true → a ≡ k → IsFirstFrom test a (suc n) k
    here e same = record {
      low = omega (arith, same);
      high = omega (arith, same);
      passes = subst (λ (x : ℕ). test x ≡ true) same e;
      earlier = λ m from below. absurd (omega (arith, same, from, below));
    }

    later : test a ≡ false → IsFirstFrom test (a + 1) n k → IsFirstFrom test a (suc n) k
    later e f = record {
      low = omega (arith, f.low);
      high = omega (arith, f.high);
      passes = f.passes;
      earlier = λ m from below. elim (cases_lt a m) [
        | inl above ↦ f.earlier m (omega (arith, above)) below
        | inr up ↦ subst (λ (x : ℕ). test x ≡ false) (omega (arith, from, up)) e
      ];
    }

pub none_from : (test : ℕ → Bool) (a n : ℕ) → find test (range_with_len a n) ≡ None
    → (k : ℕ) → a ≤ k → k < a + n → test k ≡ false
none_from test a zero h k low high = absurd (omega arith)
none_from test a (suc n) h k low high = elim (cases_Bool (test a)) [
  | inl e ↦ absurd (none_not_some a (sym (rw e at h)))
  | inr e ↦ elim (cases_lt a k) [
    | inl above ↦ none_from test (a + 1) n (rw e at h) k (omega (arith, above)) (omega (arith, high))
    | inr up ↦ subst (λ (x : ℕ). test x ≡ false) (omega (arith, low, up)) e
  ]
]

pub least_found : (test : ℕ → Bool) (n k : ℕ) → find test (numbers_below n) ≡ Some k → (k < n) × IsLeast test k
least_found test n k h =
    let first = first_from test 0 n k h in
    (omega (arith, first.high), (first.passes, λ m below. first.earlier m (omega arith) below))

pub none_found : (test : ℕ → Bool) (n : ℕ) → find test (numbers_below n) ≡ None → (k : ℕ) → k < n → test k ≡ false
none_found test n h k below = none_from test 0 n h k (omega arith) (omega (arith, below))

-- ---- the first two numbers that pass

-- whatever passes is below n
abbrev ArePairsBelow : ℕ → (ℕ → ℕ → Bool) → Type 0
ArePairsBelow n test = (a b : ℕ) → test a b ≡ true → (a < n) × (b < n)

-- the first number that passes with a, and the first a that passes with one
abbrev passes_with : ℕ → (ℕ → ℕ → Bool) → ℕ → Option ℕ
passes_with n test a = find (test a) (numbers_below n)

abbrev passes_first : ℕ → (ℕ → ℕ → Bool) → Option ℕ
passes_first n test = find (λ a. is_some (passes_with n test a)) (numbers_below n)

none_with : (n : ℕ) (test : ℕ → ℕ → Bool) → ArePairsBelow n test → (a : ℕ) → is_some (passes_with n test a) ≡ false
    → (b : ℕ) → test a b ≡ false
none_with n test low a h b = elim (cases_Bool (test a b)) [
  | inl e ↦ none_found (test a) n (not_there _ h) b (low a b e).1
  | inr e ↦ e
]

no_pair : (n : ℕ) (test : ℕ → ℕ → Bool) → ArePairsBelow n test → passes_first n test ≡ None → (a b : ℕ) → test a b ≡ false
no_pair n test low h a b = elim (cases_Bool (test a b)) [
  | inl e ↦ none_with n test low a (none_found (λ a. is_some (passes_with n test a)) n h a (low a b e).0) b
  | inr e ↦ e
]

first_pair : (n : ℕ) (test : ℕ → ℕ → Bool) → ArePairsBelow n test → (a b : ℕ) → passes_first n test ≡ Some a
    → passes_with n test a ≡ Some b → (a < n) × (b < n) × IsLeastPair test a b
first_pair n test low a b first second = (below.0, least.0, (least.1.0, λ c d h. earlier c d h))
  where
    below : (a < n) × IsLeast (λ a. is_some (passes_with n test a)) a
    below = least_found (λ a. is_some (passes_with n test a)) n a first

    least : (b < n) × IsLeast (test a) b
    least = least_found (test a) n b second

    earlier : (c d : ℕ) → is_earlier c d a b ≡ true → test c d ≡ false
    earlier c d h = elim (or_cases _ _ h) [
      | inl e ↦ none_with n test low c (below.1.1 c (ltb-true c a e)) d
      | inr e ↦ (let parts = and_parts _ _ e in
          subst (λ (x : ℕ). test x d ≡ false) (sym (eqb-true c a parts.0)) (least.1.1 d (ltb-true d b parts.1)))
    ]

-- a number that is found with something has it
pub found_has : (n a : ℕ) (f : ℕ → Option ℕ) → find (λ a. is_some (f a)) (numbers_below n) ≡ Some a → f a ≡ None → ⊥
found_has n a f h none = false≢true (sym (ap is_some none) ∙ (least_found (λ a. is_some (f a)) n a h).1.0)

-- ---- load value

pub wrong_load : (x : PreExecution) (order : List ℕ) (a : ℕ)
    → find (is_wrong_load x order) (numbers_below (length (accesses x))) ≡ Some a
    → (a < length (accesses x)) × IsLeast (is_wrong_load x order) a
wrong_load x order a h = least_found (is_wrong_load x order) (length (accesses x)) a h

pub no_wrong_load : (x : PreExecution) (order : List ℕ)
    → find (is_wrong_load x order) (numbers_below (length (accesses x))) ≡ None → LoadsRightly x order
no_wrong_load x order h = returning_all x (source_in x order) (λ a low.
    not-false _ (none_found (is_wrong_load x order) (length (accesses x)) h a low))

-- ---- preserved program order

rule_in_order : (x : PreExecution) (p : List Entry) (rf : ℕ → Option ℕ) (a b : ℕ) (o : Option Rule)
    → unwrap_or (option_map (rule x p rf a b) o) false ≡ true → po x a b ≡ true
rule_in_order x p rf a b None h = absurd (false≢true h)
rule_in_order x p rf a b (Some r) h = (and_parts (po x a b) (case_of x p rf a b r) h).0

-- operations against a rule are the harts' own
against_rule_below : (x : PreExecution) (p : List Entry) (order : List ℕ) (n : ℕ)
    → ArePairsBelow (length (accesses x)) (is_against_rule x p order n)
against_rule_below x p order zero a b h = absurd (false≢true h)
against_rule_below x p order (suc n) a b h =
    po_of_harts x a b (rule_in_order x p (source_in x order) a b (slice_get all_rules n) (and_parts _ _ h).0)

-- a rule with no first operation is kept by all
rule_kept : (x : PreExecution) (p : List Entry) (order : List ℕ) (n : ℕ) → is_some (rule_broken_after x p order n) ≡ false
    → (a b : ℕ) → is_against_rule x p order n a b ≡ false
rule_kept x p order n h =
    no_pair (length (accesses x)) (is_against_rule x p order n) (against_rule_below x p order n) (not_there _ h)

pub broken_rule : (x : PreExecution) (p : List Entry) (order : List ℕ) (n a b : ℕ)
    → find (λ n. is_some (rule_broken_after x p order n)) (range_with_len 1 13) ≡ Some n
    → rule_broken_after x p order n ≡ Some a → rule_broken_by x p order n a ≡ Some b
    → (a < length (accesses x)) × (b < length (accesses x))
    × ((m : ℕ) → m < n → (c d : ℕ) → is_against_rule x p order m c d ≡ false) × IsLeastPair (is_against_rule x p order n) a b
broken_rule x p order n a b number first second = (pair.0, pair.1, (λ m below. kept m below), pair.2)
  where
    pair : (a < length (accesses x)) × (b < length (accesses x)) × IsLeastPair (is_against_rule x p order n) a b
    pair = first_pair (length (accesses x)) (is_against_rule x p order n) (against_rule_below x p order n) a b first second

    kept : (m : ℕ) → m < n → (c d : ℕ) → is_against_rule x p order m c d ≡ false
    kept zero below c d = refl
    kept (suc m) below c d =
        rule_kept x p order (suc m) ((first_from (λ n. is_some (rule_broken_after x p order n)) 1 13 n number).earlier (suc m)
        (omega arith) below) c d

-- a rule that is found has a first operation
pub rule_has_first : (x : PreExecution) (p : List Entry) (order : List ℕ) (n : ℕ)
    → find (λ n. is_some (rule_broken_after x p order n)) (range_with_len 1 13) ≡ Some n
    → rule_broken_after x p order n ≡ None → ⊥
rule_has_first x p order n h none =
    false≢true (sym (ap is_some none) ∙ (first_from (λ n. is_some (rule_broken_after x p order n)) 1 13 n h).passes)

-- and this has a second one
pub rule_has_second : (x : PreExecution) (p : List Entry) (order : List ℕ) (n a : ℕ)
    → rule_broken_after x p order n ≡ Some a → rule_broken_by x p order n a ≡ None → ⊥
rule_has_second x p order n a h = found_has (length (accesses x)) a (rule_broken_by x p order n) h

-- of rules that are each kept, a case of any is in the order
in_order : (test : Rule → Bool) (rs : List Rule) (before : Bool)
    → ((n : ℕ) → n < length rs → (unwrap_or (option_map test (slice_get rs n)) false && not before) ≡ false)
    → list_any test rs ≡ true → before ≡ true
in_order test rs true h e = refl
in_order test [] false h e = absurd (false≢true e)
in_order test (r ∷ rs) false h e = elim (cases_Bool (test r)) [
  | inl passes ↦ absurd (false≢true (sym (rw passes at (h 0 (omega arith)))))
  | inr fails ↦ in_order test rs false (λ n low. h (suc n) (omega (arith, low))) (rw fails at e)
]

pub no_broken_rule : (x : PreExecution) (p : List Entry) (order : List ℕ)
    → find (λ n. is_some (rule_broken_after x p order n)) (range_with_len 1 13) ≡ None → KeepsRules x p order
no_broken_rule x p order h a b =
    in_order (rule x p (source_in x order) a b) all_rules (stands_before (gmo x order) a b) (λ n low.
    rule_kept x p order (suc n) (none_from (λ n. is_some (rule_broken_after x p order n)) 1 13 h (suc n) (omega arith)
    (omega (arith, low))) a b)

-- ---- atomicity

broken_in_order : (c k : Bool) → not (not c || k) ≡ true → c ≡ true
broken_in_order true k h = refl
broken_in_order false k h = absurd (false≢true h)

-- operations against atomicity are the harts' own
against_atomicity_below : (x : PreExecution) (order : List ℕ)
    → ArePairsBelow (length (accesses x)) (is_against_atomicity x order)
against_atomicity_below x order r w h = po_of_harts x r w (and_parts _ _ (broken_in_order (po x r w && paired x r w)
    (follows_closely x (gmo x order) (source_in x order r) w) h)).0

pub broken_pair : (x : PreExecution) (order : List ℕ) (r w : ℕ)
    → find (λ r. is_some (atomicity_broken_by x order r)) (numbers_below (length (accesses x))) ≡ Some r
    → atomicity_broken_by x order r ≡ Some w
    → (r < length (accesses x)) × (w < length (accesses x)) × IsLeastPair (is_against_atomicity x order) r w
broken_pair x order =
    first_pair (length (accesses x)) (is_against_atomicity x order) (against_atomicity_below x order)

-- a load that is found has a store
pub pair_has_store : (x : PreExecution) (order : List ℕ) (r : ℕ)
    → find (λ r. is_some (atomicity_broken_by x order r)) (numbers_below (length (accesses x))) ≡ Some r
    → atomicity_broken_by x order r ≡ None → ⊥
pair_has_store x order r h = found_has (length (accesses x)) r (atomicity_broken_by x order) h

pub no_broken_pair : (x : PreExecution) (order : List ℕ)
    → find (λ r. is_some (atomicity_broken_by x order r)) (numbers_below (length (accesses x))) ≡ None
    → IsAtomic x (source_in x order) (gmo x order)
no_broken_pair x order h = atomic_by_pairs x (source_in x order) (gmo x order) (λ r w low high. not-false _
    (no_pair (length (accesses x)) (is_against_atomicity x order) (against_atomicity_below x order) h r w))

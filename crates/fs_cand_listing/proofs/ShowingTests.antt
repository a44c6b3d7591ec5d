-- A raw candidate passes the tests just where it shows the outcome.
use Rattle.std.proofs.Common.{◌≡◌, ℕ, ◌<◌, ◌&&◌, ◌||◌, Bool, true, false, Option, None, Some, List, [], ◌∷◌, length, refl, ap, sym, subst, ◌∙◌, arith, inl, inr}
use Rattle.std.specs.Prelude.{not}
use Rattle.std.specs.List.{list_any, list_all}
use Rattle.std.proofs.lemmas.Bool.{false≢true, cases_lt, cases_Bool, and_parts, and_from, or_left}
use Rattle.std.proofs.lemmas.List.{get_or_past}
use Rattle.fs_model.specs.declared.test.Test.{Test}
use Rattle.fs_model.specs.Numbers.{has_number, numbers_below}
use Rattle.fs_model.specs.Operations.{PreExecution, operations, operation, same_hart, po, paired}
use Rattle.fs_model.proofs.ListedNumbers.{has-range, all_at, all_from, has-cases}
use Rattle.fs_model.proofs.OptionalNumbers.{not_none, same_parts}
use Rattle.fs_model.proofs.WhichOperation.{store_there, hart_access, length_operations}
use Rattle.fs_cert_evidence.specs.Candidates.{Candidate, IsRaw, IsShowing, runs_of, rf, co}
use Rattle.fs_cand_listing.specs.ShowingTests.{is_newer, is_coherent, is_foreign_between, follows_closely, is_atomic, has_outcome, are_coherent, are_atomic, shows}
use Rattle.fs_cand_listing.proofs.StoreOrders.{order_below}

-- ---- lists of tests

none_passes : (f : ℕ → Bool) (ns : List ℕ) → list_any f ns ≡ false → (a : ℕ) → has_number ns a ≡ true → f a ≡ false
none_passes f [] none a there = absurd (false≢true there)
none_passes f (n ∷ ns) none a there = elim (cases_Bool (f n)) [
  | inl passes ↦ absurd (false≢true (sym none ∙ or_left (f n) (list_any f ns) passes))
  | inr fails ↦ elim (has-cases n ns a there) [
    | inl same ↦ subst (λ (z : ℕ). f z ≡ false) same fails
    | inr later ↦ none_passes f ns (rest n ns fails none) a later
  ]
]
  where
    rest : (n : ℕ) (ns : List ℕ) → f n ≡ false → list_any f (n ∷ ns) ≡ false → list_any f ns ≡ false
    rest n ns e h = sym (ap (λ b. b || list_any f ns) e) ∙ h

none_from : (f : ℕ → Bool) (ns : List ℕ) → ((a : ℕ) → f a ≡ false) → list_any f ns ≡ false
none_from f [] each = refl
none_from f (n ∷ ns) each = ap (λ b. b || list_any f ns) (each n) ∙ none_from f ns each

is_false : (b : Bool) → (b ≡ true → ⊥) → b ≡ false
is_false true h = absurd (h refl)
is_false false h = refl

not_true : (b : Bool) → b ≡ false → not b ≡ true
not_true b e = ap not e

of_not : (b : Bool) → not b ≡ true → b ≡ false
of_not true e = absurd (false≢true e)
of_not false e = refl

-- not b, or c
implied : (b c : Bool) → (b ≡ true → c ≡ true) → (not b || c) ≡ true
implied true c h = h refl
implied false c h = refl

implies : (b c : Bool) → (not b || c) ≡ true → b ≡ true → c ≡ true
implies true c h e = h
implies false c h e = absurd (false≢true e)

-- ---- numbers of operations

module _ (t : Test) (c : Candidate) (raw : IsRaw t c) where
  abbrev x : PreExecution
  x = runs_of t c

  abbrev all : List ℕ
  all = numbers_below (length (operations x))

  there : (a : ℕ) → a < length (operations x) → has_number all a ≡ true
  there a low = has-range 0 (length (operations x)) a (omega arith) (omega (arith, low))

  loaded : (a s : ℕ) → rf c a ≡ Some s → a < length (operations x)
  loaded a s h = elim (cases_lt a (length c.source)) [
    | inl low ↦ (let long = raw.sources_for_each in omega (arith, low, long))
    | inr past ↦ absurd (not_none (rf c a) s (get_or_past c.source a None past) h)
  ]

  of_harts : (a b : ℕ) → po x a b ≡ true → (a < length (operations x)) × (b < length (operations x))
  of_harts a b h =
      let parts = and_parts _ _ h in
      let harts = same_parts (operation x a).hart (operation x b).hart parts.0 in
      let first = hart_access x a harts.0 harts.1 in
      let second = hart_access x b harts.0 harts.2 in
      let long = length_operations x in
      (omega (arith, first, long), omega (arith, second, long))

  ordered : (a b : ℕ) → co c a b ≡ true → b < length (operations x)
  ordered a b h = order_below t c raw a b h

  -- ---- the tests give the statements

  coherent_own : (a s : ℕ) → are_coherent x c ≡ true → rf c a ≡ Some s → is_coherent x c a (Some s) ≡ true
  coherent_own a s all_coherent e =
      subst (λ (o : Option ℕ). is_coherent x c a o ≡ true) e
      (all_at (λ b. is_coherent x c b (rf c b)) all a all_coherent (there a (loaded a s e)))

  atomic_pair : (r w s : ℕ) → are_atomic x c ≡ true → po x r w ≡ true → paired x r w ≡ true → rf c r ≡ Some s
      → follows_closely x c (Some s) w ≡ true
  atomic_pair r w s all_atomic before pair e =
      let low = of_harts r w before in
      let row = all_at (λ b. list_all (is_atomic x c b) all) all r all_atomic (there r low.0) in
      let here = all_at (is_atomic x c r) all w row (there w low.1) in
      subst (λ (o : Option ℕ). follows_closely x c o w ≡ true) e
      (implies (po x r w && paired x r w) (follows_closely x c (rf c r) w) here (and_from _ _ before pair))

  pub passing_shows : shows t c ≡ true → IsShowing t c
  passing_shows h =
      let parts = and_parts (has_outcome t c) (are_coherent x c && are_atomic x c) h in
      let both = and_parts (are_coherent x c) (are_atomic x c) parts.1 in
      record {
        raw = raw;
        outcome = parts.0;
        own = λ a s e same.
            implies (same_hart x s a) (po x s a) (and_parts _ _ (coherent_own a s both.0 e)).0 same;
        latest = λ a s m e stores word before.
            let none = none_passes (is_newer x c a s) all
            (of_not _ (and_parts _ _ (coherent_own a s both.0 e)).1) m (there m (store_there x m stores)) in
            is_false (co c s m) (λ later. false≢true (sym none
            ∙ and_from _ _ (and_from _ _ (and_from _ _ stores word) before) later));
        atomic = λ r w s before pair e.
            let close = and_parts _ _ (atomic_pair r w s both.1 before pair e) in (
              close.0,
              λ m foreign after until.
                  let none = none_passes (is_foreign_between x c s w) all (of_not _ close.1) m (there m (ordered s m after)) in
                  false≢true (sym none ∙ and_from _ _ (and_from _ _ (not_true _ foreign) after) until),
            );
      }

  -- ---- and the statements pass the tests

  module _ (h : IsShowing t c) where
    coherent_at : (a : ℕ) (o : Option ℕ) → rf c a ≡ o → is_coherent x c a o ≡ true
    coherent_at a None e = refl
    coherent_at a (Some s) e =
        and_from _ _ (implied (same_hart x s a) (po x s a) (h.own a s e))
        (not_true _ (none_from (is_newer x c a s) all (λ m. is_false _ (λ newer.
        let last = and_parts _ _ newer in
        let more = and_parts _ _ last.0 in
        let first = and_parts _ _ more.0 in
        false≢true (sym (h.latest a s m e first.0 first.1 more.1) ∙ last.1)))))

    closely_at : (r w : ℕ) (o : Option ℕ) → rf c r ≡ o → po x r w ≡ true → paired x r w ≡ true → follows_closely x c o w ≡ true
    closely_at r w None e before pair = refl
    closely_at r w (Some s) e before pair =
        let close = h.atomic r w s before pair e in
        and_from _ _ close.0
        (not_true _ (none_from (is_foreign_between x c s w) all (λ m. is_false _ (λ between.
        let last = and_parts _ _ between in
        let first = and_parts _ _ last.0 in
        close.1 m (of_not _ first.0) first.1 last.1))))

    pub showing_passes : shows t c ≡ true
    showing_passes =
        and_from (has_outcome t c) (are_coherent x c && are_atomic x c) h.outcome
        (and_from (are_coherent x c) (are_atomic x c)
        (all_from (λ a. is_coherent x c a (rf c a)) all (λ a low. coherent_at a (rf c a) refl))
        (all_from (λ r. list_all (is_atomic x c r) all) all (λ r low.
        all_from (is_atomic x c r) all (λ w high.
        implied (po x r w && paired x r w) (follows_closely x c (rf c r) w) (λ both.
        let parts = and_parts (po x r w) (paired x r w) both in
        closely_at r w (rf c r) refl parts.0 parts.1)))))

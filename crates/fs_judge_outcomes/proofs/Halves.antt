-- What is left of a part that is split by a state in it.
use Rattle.std.proofs.Common.{◌≡◌, ◌≢◌, ◌∙◌, ap, sym, refl, subst, ℕ, zero, suc, ◌+◌, ◌<◌, Bool, true, false, not, ◌==◌, Some, List, [], ◌∷◌, ◌++◌, All, filter, length, inl, inr, arith, if◌then◌else◌}
use Rattle.std.specs.Prelude.{◌⊎◌, slice_get}
use Rattle.std.specs.List.{list_all, list_any, slice_index_or}
use Rattle.std.proofs.lemmas.Bool.{false≢true, cond_both, and_parts, and_from, or_cases, or_left, or_right, cases_Bool, cases_lt, not_from_false, false_from_ne_true, eqb-true, eq-eqb}
use Rattle.std.proofs.lemmas.Option.{slice_get-get_or}
use Rattle.std.proofs.lemmas.List.{same_lists}
use Rattle.std.proofs.lemmas.List.Elements.{All-push, All-filter}
use Rattle.std.proofs.lemmas.List.Folds.{list_all-append, list_any-append}
use Rattle.fs_model.specs.Numbers.{is_same}
use Rattle.fs_model.proofs.OptionalNumbers.{same_is, same_from}
use Rattle.fs_judge_outcomes.specs.declared.part.Atom.{Atom}
use Rattle.fs_judge_outcomes.specs.inner.Parts.{as_wanted, is_so, is_in, is_fixing, IsPartOf, IsLeft, SplitsBy}

-- ---- lists of parts

pub left_push : (parts : List (List Atom)) (part : List Atom) (s : List ℕ) → IsLeft parts s → IsLeft (parts ++ part ∷ []) s
left_push parts part s h =
    list_any-append (λ x. is_in x s) parts (part ∷ []) ∙ or_left (list_any (λ x. is_in x s) parts) (list_any (λ x. is_in x s) (part ∷ [])) h

pub left_last : (parts : List (List Atom)) (part : List Atom) (s : List ℕ) → is_in part s ≡ true → IsLeft (parts ++ part ∷ []) s
left_last parts part s h =
    list_any-append (λ x. is_in x s) parts (part ∷ [])
    ∙ or_right (list_any (λ x. is_in x s) parts) (list_any (λ x. is_in x s) (part ∷ [])) (or_left (is_in part s) false h)

pub left_cases : (parts : List (List Atom)) (part : List Atom) (s : List ℕ) → IsLeft (parts ++ part ∷ []) s
    → IsLeft parts s ⊎ (is_in part s ≡ true)
left_cases parts part s h =
    elim (or_cases (list_any (λ x. is_in x s) parts) (list_any (λ x. is_in x s) (part ∷ [])) (sym (list_any-append (λ x. is_in x s) parts (part ∷ [])) ∙ h)) [
      | inl one ↦ inl one
      | inr last ↦ elim (or_cases (is_in part s) false last) [ inl e ↦ inr e | inr e ↦ absurd (false≢true e) ]
    ]

-- ---- atoms

in_push : (part : List Atom) (atom : Atom) (s : List ℕ) → is_in part s ≡ true → is_so s atom ≡ true → is_in (part ++ atom ∷ []) s ≡ true
in_push part atom s h e =
    list_all-append (is_so s) part (atom ∷ []) ∙ and_from (is_in part s) (list_all (is_so s) (atom ∷ [])) h (and_from (is_so s atom) true e refl)

in_filter : (q : Atom → Bool) (part : List Atom) (s : List ℕ) → is_in part s ≡ true → is_in (filter q part) s ≡ true
in_filter q [] s h = refl
in_filter q (atom ∷ part) s h =
    let parts = and_parts (is_so s atom) (is_in part s) h in
    let rest = in_filter q part s parts.1 in
    cond_both (q atom) (atom ∷ filter q part) (filter q part) (λ xs. is_in xs s ≡ true)
    (λ _. and_from (is_so s atom) (is_in (filter q part) s) parts.0 rest) (λ _. rest)

-- ---- a part all of whose places have their words

fixed_word : (atom : Atom) (k : ℕ) (s : List ℕ) → is_fixing k atom ≡ true → is_so s atom ≡ true → slice_get s k ≡ Some atom.word
fixed_word atom k s fixing so =
    let parts = and_parts atom.is (atom.index == k) fixing in
    let there : is_same (slice_get s atom.index) (Some atom.word) ≡ true =
    subst (λ is. as_wanted is (is_same (slice_get s atom.index) (Some atom.word)) ≡ true) parts.0 so in
    subst (λ i. slice_get s i ≡ Some atom.word) (eqb-true atom.index k parts.1) (same_is (slice_get s atom.index) (Some atom.word) there)

same_at : (part : List Atom) (k : ℕ) (s u : List ℕ) → list_any (is_fixing k) part ≡ true → is_in part s ≡ true → is_in part u ≡ true
    → slice_get s k ≡ slice_get u k
same_at [] k s u h e f = absurd (false≢true h)
same_at (atom ∷ part) k s u h e f =
    let of_s = and_parts (is_so s atom) (is_in part s) e in
    let of_u = and_parts (is_so u atom) (is_in part u) f in
    elim (or_cases (is_fixing k atom) (list_any (is_fixing k) part) h) [
      | inl here ↦ fixed_word atom k s here of_s.0 ∙ sym (fixed_word atom k u here of_u.0)
      | inr later ↦ same_at part k s u later of_s.1 of_u.1
    ]

read_both : (s u : List ℕ) (k d : ℕ) → slice_get s k ≡ slice_get u k → k < length s → k < length u → slice_index_or s k d ≡ slice_index_or u k d
read_both [] u k d e low high = absurd (omega (arith, low))
read_both (x ∷ s) [] k d e low high = absurd (omega (arith, high))
read_both (x ∷ s) (y ∷ u) zero d e low high = cc
read_both (x ∷ s) (y ∷ u) (suc k) d e low high = read_both s u k d e (omega (arith, low)) (omega (arith, high))

pub one_state : (part : List Atom) (s u : List ℕ) → length s ≡ length u → ((k : ℕ) → k < length u → list_any (is_fixing k) part ≡ true)
    → is_in part s ≡ true → is_in part u ≡ true → s ≡ u
one_state part s u long closed e f =
    same_lists s u long
    (λ k d low.
    let high : k < length u = omega (arith, low, long) in
    read_both s u k d (same_at part k s u (closed k high) e f) low high)

-- ---- place by place

abbrev pub apart_from : ℕ → Atom → Bool
apart_from index atom = not (atom.index == index)

fixed_apart : (part : List Atom) (k index : ℕ) → k ≢ index → list_any (is_fixing k) part ≡ true → list_any (is_fixing k) (filter (apart_from index) part) ≡ true
fixed_apart [] k index other h = h
fixed_apart (atom ∷ part) k index other h =
    elim (or_cases (is_fixing k atom) (list_any (is_fixing k) part) h) [
      | inl here ↦ (
          let at : atom.index ≡ k = eqb-true atom.index k (and_parts atom.is (atom.index == k) here).1 in
          let stays : apart_from index atom ≡ true = not_from_false (atom.index == index) (false_from_ne_true (atom.index == index) (λ e. other (sym at ∙ eqb-true atom.index index e))) in
          subst (λ b. list_any (is_fixing k) (if b then atom ∷ filter (apart_from index) part else filter (apart_from index) part) ≡ true) (sym stays)
          (or_left (is_fixing k atom) (list_any (is_fixing k) (filter (apart_from index) part)) here))
      | inr later ↦ (
          let rest = fixed_apart part k index other later in
          cond_both (apart_from index atom) (atom ∷ filter (apart_from index) part) (filter (apart_from index) part) (λ xs. list_any (is_fixing k) xs ≡ true)
          (λ _. or_right (is_fixing k atom) (list_any (is_fixing k) (filter (apart_from index) part)) rest) (λ _. rest))
    ]

-- How far a part is split by a state in it: what is left of it says the words of the first n places.
pub record Splitting (whole : List Atom) (state : List ℕ) (old : List (List Atom)) (n : ℕ) (part : List Atom) (parts : List (List Atom)) : Type 0 where
  pub kept : (s : List ℕ) → IsLeft old s → IsLeft parts s
  pub halves : (s : List ℕ) → length s ≡ length state → is_in whole s ≡ true → (is_in part s ≡ true) ⊎ IsLeft parts s
  pub all : All (IsPartOf (length state)) old → All (IsPartOf (length state)) parts
  pub own : IsPartOf (length state) part
  pub inside : is_in part state ≡ true
  pub closed : (k : ℕ) → k < n → list_any (is_fixing k) part ≡ true

pub begins : (whole : List Atom) (state : List ℕ) (old : List (List Atom)) → IsPartOf (length state) whole → is_in whole state ≡ true
    → Splitting whole state old 0 whole old
begins whole state old own inside = record {
  kept = λ s h. h;
  halves = λ s long h. inl h;
  all = λ h. h;
  own = own;
  inside = inside;
  closed = λ k low. absurd (omega (arith, low));
}

module _ (whole : List Atom) (state : List ℕ) (old : List (List Atom)) (n : ℕ) (part : List Atom) (parts : List (List Atom)) (so_far : Splitting whole state old n part parts) (low : n < length state) where
  -- the part says the word of the place already
  pub passes : list_any (is_fixing n) part ≡ true → Splitting whole state old (n + 1) part parts
  passes fixed = record {
    kept = so_far.kept;
    halves = so_far.halves;
    all = so_far.all;
    own = so_far.own;
    inside = so_far.inside;
    closed =
        λ k h. elim (cases_lt k n) [
          | inl earlier ↦ so_far.closed k earlier
          | inr late ↦ subst (λ i. list_any (is_fixing i) part ≡ true) (let same : n ≡ k = omega (arith, h, late) in same) fixed
        ];
  }

  -- it doesn't
  pub goes_on : (word : ℕ) → word ≡ slice_index_or state n 0
      → Splitting whole state old (n + 1)
      (filter (apart_from n) part ++ (record { index = n; word = word; is = true }) ∷ [])
      (parts ++ (part ++ (record { index = n; word = word; is = false }) ∷ []) ∷ [])
  goes_on word is =
      let other : Atom = record { index = n; word = word; is = false } in
      let same : Atom = record { index = n; word = word; is = true } in
      let without : List Atom = part ++ other ∷ [] in
      let kept_atoms : List Atom = filter (apart_from n) part in
      let there : slice_get state n ≡ Some word = slice_get-get_or state n 0 low ∙ ap Some (sym is) in
      record {
        kept = λ s h. left_push parts without s (so_far.kept s h);
        halves =
            λ s long h. elim (so_far.halves s long h) [
              | inl in_part ↦ elim (cases_Bool (is_same (slice_get s n) (Some word))) [
                | inl yes_it ↦ inl (in_push kept_atoms same s (in_filter (apart_from n) part s in_part) yes_it)
                | inr no_it ↦ inr (left_last parts without s (in_push part other s in_part (not_from_false (is_same (slice_get s n) (Some word)) no_it)))
              ]
              | inr left ↦ inr (left_push parts without s left)
            ];
        all = λ h. All-push (IsPartOf (length state)) parts without (so_far.all h) (All-push (λ atom. atom.index < length state) part other so_far.own low);
        own = All-push (λ atom. atom.index < length state) kept_atoms same (All-filter (apart_from n) (λ atom. atom.index < length state) part so_far.own) low;
        inside =
            in_push kept_atoms same state (in_filter (apart_from n) part state so_far.inside)
            (same_from (slice_get state n) (Some word) word there refl);
        closed =
            λ k h. list_any-append (is_fixing k) kept_atoms (same ∷ []) ∙ elim (cases_lt k n) [
              | inl earlier ↦ or_left (list_any (is_fixing k) kept_atoms) (list_any (is_fixing k) (same ∷ [])) (fixed_apart part k n (λ e. omega (arith, earlier, e)) (so_far.closed k earlier))
              | inr late ↦ (
                  let at : n ≡ k = omega (arith, h, late) in
                  or_right (list_any (is_fixing k) kept_atoms) (list_any (is_fixing k) (same ∷ []))
                  (or_left (is_fixing k same) false (eq-eqb n k at)))
            ];
      }

-- each place has its word: what is left of the part is the state
pub ends : (whole : List Atom) (state : List ℕ) (old : List (List Atom)) (n : ℕ) (part : List Atom) (parts : List (List Atom)) → n ≡ length state
    → Splitting whole state old n part parts → SplitsBy whole state old parts
ends whole state old n part parts last done = record {
  kept = done.kept;
  halves =
      λ s long h. elim (done.halves s long h) [
        | inl in_part ↦ inl (one_state part s state long (λ k low. done.closed k (omega (arith, low, last))) in_part done.inside)
        | inr left ↦ inr left
      ];
  parts = done.all;
}

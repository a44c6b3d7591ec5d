-- Lists of numbers without those that are gone, where the later ones move down.
use Rattle.std.proofs.Common.{◌≡◌, ℕ, zero, suc, ◌+◌, ◌-◌, ◌<◌, ◌≤◌, ◌⊎◌, nat_lt, ◌==◌, Bool, true, false, ◌||◌, not, List, [], ◌∷◌, ◌++◌, map, filter, refl, sym, ap, subst, ◌∙◌, inl, inr, arith}
use Rattle.std.specs.Prelude.{if◌then◌else◌}
use Rattle.std.specs.List.{range_with_len}
use Rattle.std.proofs.lemmas.Bool.{false≢true, cases_lt, cases_eq, eq-eqb, ne_eqb, lt-ltb, le-ltb, ltb-true, ltb-false, not-true, not-false, not_from_false, or_cases, or_left, or_right, or_parts}
use Rattle.fs_model.specs.Numbers.{has_number, stands_before}
use Rattle.fs_model.proofs.ListedNumbers.{AreOnce}
use Rattle.fs_app_plain.proofs.Shortened.{there, IsGone}

-- the number of an operation that stays, where the gone ones are left out
abbrev pub back : (from count : ℕ) → ℕ → ℕ
back from count n = if nat_lt n from then n else n - count

abbrev pub stays : (from count : ℕ) → ℕ → Bool
stays from count n = nat_lt n from || not (nat_lt n (from + count))

abbrev pub order_without : (from count : ℕ) → List ℕ → List ℕ
order_without from count order = map (back from count) (filter (stays from count) order)

module _ (from count : ℕ) where
  -- ---- numbers

  pub there_low : (a : ℕ) → a < from → there from count a ≡ a
  there_low a low = rw (lt-ltb a from low) refl

  pub there_high : (a : ℕ) → from ≤ a → there from count a ≡ a + count
  there_high a high = rw (le-ltb a from high) refl

  back_low : (n : ℕ) → n < from → back from count n ≡ n
  back_low n low = rw (lt-ltb n from low) refl

  back_high : (n : ℕ) → from ≤ n → back from count n ≡ n - count
  back_high n high = rw (le-ltb n from high) refl

  stays_cases : (n : ℕ) → stays from count n ≡ true → (n < from) ⊎ (from + count ≤ n)
  stays_cases n h = elim (or_cases _ _ h) [
    | inl low ↦ inl (ltb-true n from low)
    | inr high ↦ inr (ltb-false n (from + count) (not-true _ high))
  ]

  pub gone_from : (n : ℕ) → stays from count n ≡ false → IsGone from count n
  gone_from n h = let parts = or_parts _ _ h in (ltb-false n from parts.0, ltb-true n (from + count) (not-false _ parts.1))

  stays_low : (n : ℕ) → n < from → stays from count n ≡ true
  stays_low n low = or_left _ _ (lt-ltb n from low)

  stays_high : (n : ℕ) → from + count ≤ n → stays from count n ≡ true
  stays_high n high = or_right _ _ (not_from_false _ (le-ltb n (from + count) high))

  pub there_stays : (a : ℕ) → stays from count (there from count a) ≡ true
  there_stays a = elim (cases_lt a from) [
    | inl low ↦ subst (λ (z : ℕ). stays from count z ≡ true) (sym (there_low a low)) (stays_low a low)
    | inr high ↦ subst (λ (z : ℕ). stays from count z ≡ true) (sym (there_high a high)) (stays_high (a + count) (omega (arith, high)))
  ]

  pub back_there : (a : ℕ) → back from count (there from count a) ≡ a
  back_there a = elim (cases_lt a from) [
    | inl low ↦ ap (back from count) (there_low a low) ∙ back_low a low
    | inr high ↦ ap (back from count) (there_high a high) ∙ back_high (a + count) (omega (arith, high)) ∙ omega arith
  ]

  pub there_back : (n : ℕ) → stays from count n ≡ true → there from count (back from count n) ≡ n
  there_back n h = elim (stays_cases n h) [
    | inl low ↦ ap (there from count) (back_low n low) ∙ there_low n low
    | inr high ↦ ap (there from count) (back_high n (omega (arith, high))) ∙ there_high (n - count) (omega (arith, high)) ∙ omega (arith, high)
  ]

  -- a number that stays is that of an operation just where the shorter list has it under its own
  same_number : (n a : ℕ) → stays from count n ≡ true → (back from count n == a) ≡ (n == there from count a)
  same_number n a h = elim (cases_eq n (there from count a)) [
    | inl same ↦ eq-eqb _ _ (ap (back from count) same ∙ back_there a) ∙ sym (eq-eqb _ _ same)
    | inr other ↦ ne_eqb _ _ (λ e. other (sym (there_back n h) ∙ ap (there from count) e)) ∙ sym (ne_eqb _ _ other)
  ]

  gone_other : (n a : ℕ) → stays from count n ≡ false → (n == there from count a) ≡ false
  gone_other n a h = ne_eqb _ _ (λ e. false≢true (sym h ∙ ap (stays from count) e ∙ there_stays a))

  -- ---- lists

  has_at : (n : ℕ) (ns : List ℕ) (a : ℕ) (kept : Bool) → stays from count n ≡ kept
      → has_number (order_without from count ns) a ≡ has_number ns (there from count a)
      → has_number (map (back from count) (if kept then n ∷ filter (stays from count) ns else filter (stays from count) ns)) a
      ≡ ((n == there from count a) || has_number ns (there from count a))
  has_at n ns a true h rest = ap (λ b. b || has_number (order_without from count ns) a) (same_number n a h) ∙ ap (λ b. (n == there from count a) || b) rest
  has_at n ns a false h rest = rest ∙ sym (ap (λ b. b || has_number ns (there from count a)) (gone_other n a h))

  pub has_without : (ns : List ℕ) (a : ℕ) → has_number (order_without from count ns) a ≡ has_number ns (there from count a)
  has_without [] a = refl
  has_without (n ∷ ns) a = has_at n ns a (stays from count n) refl (has_without ns a)

  before_at : (n : ℕ) (ns : List ℕ) (a b : ℕ) (kept : Bool) → stays from count n ≡ kept
      → stands_before (order_without from count ns) a b ≡ stands_before ns (there from count a) (there from count b)
      → stands_before (map (back from count) (if kept then n ∷ filter (stays from count) ns else filter (stays from count) ns)) a b
      ≡ (if n == there from count a then has_number ns (there from count b) else stands_before ns (there from count a) (there from count b))
  before_at n ns a b true h rest =
      ap (λ c. if c then has_number (order_without from count ns) b else stands_before (order_without from count ns) a b) (same_number n a h)
      ∙ ap (λ c. if n == there from count a then c else stands_before (order_without from count ns) a b) (has_without ns b)
      ∙ ap (λ c. if n == there from count a then has_number ns (there from count b) else c) rest
  before_at n ns a b false h rest =
      rest ∙ sym (ap (λ c. if c then has_number ns (there from count b) else stands_before ns (there from count a) (there from count b)) (gone_other n a h))

  pub before_without : (ns : List ℕ) (a b : ℕ)
      → stands_before (order_without from count ns) a b ≡ stands_before ns (there from count a) (there from count b)
  before_without [] a b = refl
  before_without (n ∷ ns) a b = before_at n ns a b (stays from count n) refl (before_without ns a b)

  once_at : (n : ℕ) (ns : List ℕ) (kept : Bool) → stays from count n ≡ kept → (has_number ns n ≡ true → ⊥)
      → AreOnce (order_without from count ns)
      → AreOnce (map (back from count) (if kept then n ∷ filter (stays from count) ns else filter (stays from count) ns))
  once_at n ns true h new rest = (
    (λ has. new (subst (λ (z : ℕ). has_number ns z ≡ true) (there_back n h) (sym (has_without ns (back from count n)) ∙ has))),
    rest,
  )
  once_at n ns false h new rest = rest

  pub once_without : (ns : List ℕ) → AreOnce ns → AreOnce (order_without from count ns)
  once_without [] once = tt
  once_without (n ∷ ns) once = once_at n ns (stays from count n) refl once.0 (once_without ns once.1)

  append_at : (n : ℕ) (ns zs : List ℕ) (kept : Bool) → order_without from count (ns ++ zs) ≡ order_without from count ns ++ order_without from count zs
      → map (back from count) (if kept then n ∷ filter (stays from count) (ns ++ zs) else filter (stays from count) (ns ++ zs))
      ≡ map (back from count) (if kept then n ∷ filter (stays from count) ns else filter (stays from count) ns) ++ order_without from count zs
  append_at n ns zs true rest = ap (λ ks. back from count n ∷ ks) rest
  append_at n ns zs false rest = rest

  pub append_without : (ns zs : List ℕ) → order_without from count (ns ++ zs) ≡ order_without from count ns ++ order_without from count zs
  append_without [] zs = refl
  append_without (n ∷ ns) zs = append_at n ns zs (stays from count n) (append_without ns zs)

  range_at : (n m : ℕ) (ns ms : List ℕ) → stays from count n ≡ true → back from count n ≡ m → order_without from count ns ≡ ms
      → order_without from count (n ∷ ns) ≡ m ∷ ms
  range_at n m ns ms h e rest =
      ap (λ c. map (back from count) (if c then n ∷ filter (stays from count) ns else filter (stays from count) ns)) h
      ∙ ap (λ k. k ∷ order_without from count ns) e ∙ ap (λ ks. m ∷ ks) rest

  -- a range past the gone numbers moves down
  pub range_without : (n m k : ℕ) → from ≤ m → n ≡ m + count → order_without from count (range_with_len n k) ≡ range_with_len m k
  range_without n m zero high e = refl
  range_without n m (suc k) high e =
      range_at n m (range_with_len (n + 1) k) (range_with_len (m + 1) k) (stays_high n (omega (arith, high, e)))
      (back_high n (omega (arith, high, e)) ∙ omega (arith, e))
      (range_without (n + 1) (m + 1) k (omega (arith, high)) (omega (arith, e)))

-- The last number of a list that passes a test, with and without the gone numbers, and induction along a list.
use Rattle.std.proofs.Common.{◌≡◌, ℕ, ◌⊎◌, Bool, true, Option, None, Some, List, [], ◌∷◌, filter, refl, sym, ap, subst, ◌∙◌, inl, inr}
use Rattle.std.specs.List.{last_or}
use Rattle.std.proofs.lemmas.Bool.{false≢true, cases_eq}
use Rattle.fs_model.specs.Numbers.{has_number, stands_before}
use Rattle.fs_model.proofs.OptionalNumbers.{not_none}
use Rattle.fs_model.proofs.ListedNumbers.{AreOnce, has-here, has-later, has-cases}
use Rattle.fs_model.proofs.NumberOrders.{before-here, before-later, before-second}
use Rattle.fs_model.proofs.FilteredNumbers.{filter_has, in_filter, filter_before, before_in_filter, once-filter}
use Rattle.fs_model.proofs.LastNumber.{last_is, last_in, last_latest, last_some}
use Rattle.fs_app_plain.proofs.Shortened.{there}
use Rattle.fs_app_plain.proofs.OrderLists.{back, stays, order_without, there_stays, back_there, there_back, has_without, before_without, once_without}

-- ---- induction: what holds of a number where it holds of all before it

none_earlier : (n : ℕ) (ns : List ℕ) (m : ℕ) → AreOnce (n ∷ ns) → stands_before (n ∷ ns) m n ≡ true → ⊥
none_earlier n ns m once before = once.0 (elim (cases_eq n m) [
  | inl same ↦ sym (before-here n ns m n same) ∙ before
  | inr other ↦ before-second ns m n (sym (before-later n ns m n other) ∙ before)
])

pub along : (ns : List ℕ) → AreOnce ns → (P : ℕ → Type 0)
    → ((a : ℕ) → has_number ns a ≡ true → ((m : ℕ) → stands_before ns m a ≡ true → P m) → P a)
    → (a : ℕ) → has_number ns a ≡ true → P a
along [] once P step a has = absurd (false≢true has)
along (n ∷ ns) once P step a has =
    let first : P n = step n (has-here n ns n refl) (λ m before. absurd (none_earlier n ns m once before)) in
    elim (has-cases n ns a has) [
      | inl same ↦ subst P same first
      | inr later ↦ along ns once.1 P
          (λ b there earlier. step b (has-later n ns b there) (λ m before. elim (cases_eq n m) [
            | inl same ↦ subst P same first
            | inr other ↦ earlier m (sym (before-later n ns m b other) ∙ before)
          ]))
          a later
    ]

-- ---- the last number that passes a test

pub last_passes : (f : ℕ → Bool) (ns : List ℕ) (s : ℕ) → last_or None (filter f ns) ≡ Some s → (has_number ns s ≡ true) × (f s ≡ true)
last_passes f ns s e = filter_has f ns s (last_in (filter f ns) s e)

pub passes_before_last : (f : ℕ → Bool) (ns : List ℕ) (s m : ℕ) → AreOnce ns → last_or None (filter f ns) ≡ Some s
    → has_number ns m ≡ true → f m ≡ true → (m ≡ s) ⊎ (stands_before ns m s ≡ true)
passes_before_last f ns s m once e has passes =
    elim (last_latest (filter f ns) None s m (once-filter f ns once) e (in_filter f ns m has passes)) [
      | inl same ↦ inl same
      | inr before ↦ inr (filter_before f ns m s before).0
    ]

none_from : (o : Option ℕ) → ((n : ℕ) → o ≡ Some n → ⊥) → o ≡ None
none_from None h = refl
none_from (Some n) h = absurd (h n refl)

-- a test g of numbers of the shorter list, which is f of those that they have in the whole one
module _ (from count : ℕ) (f g : ℕ → Bool) (alike : (m : ℕ) → g m ≡ f (there from count m)) (ns : List ℕ) (once : AreOnce ns) where
  -- k is the last that passes in the shorter list, where each that stays and passes, up to the last of all, is k or
  -- before it
  pub last_without : (s k : ℕ) → last_or None (filter f ns) ≡ Some s → has_number ns k ≡ true → stays from count k ≡ true → f k ≡ true
      → ((m : ℕ) → stays from count m ≡ true → f m ≡ true → (m ≡ s) ⊎ (stands_before ns m s ≡ true) → (m ≡ k) ⊎ (stands_before ns m k ≡ true))
      → last_or None (filter g (order_without from count ns)) ≡ Some (back from count k)
  last_without s k last has kept passes latest =
      let same = there_back from count k kept in
      let g_passes : g (back from count k) ≡ true = alike (back from count k) ∙ ap f same ∙ passes in
      last_is (filter g (order_without from count ns)) None (back from count k)
      (once-filter g (order_without from count ns) (once_without from count ns once))
      (in_filter g (order_without from count ns) (back from count k)
      (has_without from count ns (back from count k) ∙ ap (has_number ns) same ∙ has) g_passes)
      (λ m in_it.
      let parts = filter_has g (order_without from count ns) m in_it in
      let f_passes : f (there from count m) ≡ true = sym (alike m) ∙ parts.1 in
      elim (latest (there from count m) (there_stays from count m) f_passes
      (passes_before_last f ns s (there from count m) once last (sym (has_without from count ns m) ∙ parts.0) f_passes)) [
        | inl e ↦ inl (sym (back_there from count m) ∙ ap (back from count) e)
        | inr before ↦ inr (before_in_filter g (order_without from count ns) m (back from count k)
            (before_without from count ns m (back from count k) ∙ ap (stands_before ns (there from count m)) same ∙ before) parts.1 g_passes)
      ])

  -- where none passes, none does in the shorter list
  pub none_without : last_or None (filter f ns) ≡ None → last_or None (filter g (order_without from count ns)) ≡ None
  none_without none = none_from _ (λ n last.
      let parts = last_passes g (order_without from count ns) n last in
      let some = last_some (filter f ns) (there from count n)
      (in_filter f ns (there from count n) (sym (has_without from count ns n) ∙ parts.0) (sym (alike n) ∙ parts.1)) in
      not_none (last_or None (filter f ns)) some.0 none some.1)

-- An order that respects the judged relation gives each load the candidate's source. Over any relations with these
-- laws.
use Rattle.std.proofs.Common.{◌≡◌, ℕ, ◌⊎◌, inl, inr, Bool, true, false, ◌&&◌, ◌||◌, Option, None, Some, filter, List, subst}
use Rattle.std.specs.List.{last_or}
use Rattle.std.proofs.lemmas.Bool.{cases_Bool, cases_eq, and_parts, and_from, or_cases, or_left, or_right, both_ways}
use Rattle.fs_model.specs.Numbers.{has_number, stands_before}
use Rattle.fs_model.proofs.ListedNumbers.{AreOnce}
use Rattle.fs_model.proofs.NumberOrders.{not_itself, not_both}
use Rattle.fs_model.proofs.FilteredNumbers.{filter_has, in_filter, before_in_filter, filter_before, once-filter}
use Rattle.fs_model.proofs.LastNumber.{last_is, last_in, last_latest}

-- what a candidate and an order have to do with one another
pub record IsFit (M : List ℕ) (store : ℕ → Bool) (same po own co : ℕ → ℕ → Bool) (src : ℕ → Option ℕ) : Type 0 where
  pub once : AreOnce M
  pub whole : (a : ℕ) → store a ≡ true → has_number M a ≡ true
  pub source_store : (a s : ℕ) → src a ≡ Some s → store s ≡ true
  pub source_same : (a s : ℕ) → src a ≡ Some s → same s a ≡ true
  pub same_stores : (a s m : ℕ) → same s a ≡ true → same m a ≡ true → same m s ≡ true
  pub total : (m s : ℕ) → store m ≡ true → store s ≡ true → same m s ≡ true → (m ≡ s) ⊎ ((co m s ≡ true) ⊎ (co s m ≡ true))
  pub own_first : (a s : ℕ) → src a ≡ Some s → own s a ≡ true → po s a ≡ true
  pub latest : (a s m : ℕ) → src a ≡ Some s → store m ≡ true → same m a ≡ true → po m a ≡ true → co s m ≡ false
  pub by_co : (a b : ℕ) → co a b ≡ true → stands_before M a b ≡ true
  pub by_rf : (a s : ℕ) → src a ≡ Some s → own s a ≡ false → stands_before M s a ≡ true
  pub by_fr : (a s b : ℕ) → src a ≡ Some s → co s b ≡ true → (a ≡ b → ⊥) → stands_before M a b ≡ true

module _ (M : List ℕ) (store : ℕ → Bool) (same po own co : ℕ → ℕ → Bool) (src : ℕ → Option ℕ) (fit : IsFit M store same po own co src) where
  -- what a load may return
  abbrev pub may : ℕ → ℕ → Bool
  may a s = store s && same s a && (stands_before M s a || po s a)

  -- a store that may be returned is the source, or stands before it
  earlier : (a s m : ℕ) → src a ≡ Some s → may a m ≡ true → (m ≡ s) ⊎ (stands_before M m s ≡ true)
  earlier a s m h pass =
      let parts = and_parts _ _ pass in
      let kind = and_parts _ _ parts.0 in
      elim (fit.total m s kind.0 (fit.source_store a s h) (fit.same_stores a s m (fit.source_same a s h) kind.1)) [
        | inl e ↦ inl e
        | inr ways ↦ (elim ways [
          | inl before ↦ inr (fit.by_co m s before)
          | inr later ↦ absurd (elim (or_cases _ _ parts.1) [
            | inl in_order ↦ (elim (cases_eq a m) [
              | inl e ↦ not_itself M m fit.once (subst (λ (x : ℕ). stands_before M m x ≡ true) e in_order)
              | inr ne ↦ not_both M m a fit.once in_order (fit.by_fr a s m h later ne)
            ])
            | inr in_program ↦ both_ways _ (fit.latest a s m h kind.0 kind.1 in_program) later
          ])
        ])
      ]

  pub sources_agree : (a s : ℕ) → src a ≡ Some s → last_or None (filter (may a) M) ≡ Some s
  sources_agree a s h =
      let stored = fit.source_store a s h in
      let returned : may a s ≡ true = and_from _ _ (and_from _ _ stored (fit.source_same a s h)) (elim (cases_Bool (own s a)) [
        | inl mine ↦ or_right _ _ (fit.own_first a s h mine)
        | inr far ↦ or_left _ _ (fit.by_rf a s h far)
      ]) in
      last_is (filter (may a) M) None s (once-filter (may a) M fit.once)
      (in_filter (may a) M s (fit.whole s stored) returned)
      (λ m there.
      let passes = (filter_has (may a) M m there).1 in
      elim (earlier a s m h passes) [
        | inl e ↦ inl e
        | inr before ↦ inr (before_in_filter (may a) M m s before passes returned)
      ])

  -- every edge goes forward in the order, so the order of stores in M is co
  pub stores_agree : (a b : ℕ) → store a ≡ true → store b ≡ true → same a b ≡ true → stands_before M a b ≡ true → co a b ≡ true
  stores_agree a b sa sb w before = elim (fit.total a b sa sb w) [
    | inl e ↦ absurd (not_itself M b fit.once (subst (λ (x : ℕ). stands_before M x b ≡ true) e before))
    | inr ways ↦ (elim ways [
      | inl forward ↦ forward
      | inr back ↦ absurd (not_both M a b fit.once before (fit.by_co b a back))
    ])
  ]

-- The other way: of an execution, a load stands before each store to its word that is later than its source.
module _ (M : List ℕ) (may : ℕ → Bool) (once : AreOnce M) where
  pub source_may : (s : ℕ) → last_or None (filter may M) ≡ Some s → may s ≡ true
  source_may s e = (filter_has may M s (last_in (filter may M) s e)).1

  pub source_latest : (s m : ℕ) → last_or None (filter may M) ≡ Some s → has_number M m ≡ true → may m ≡ true
      → (m ≡ s) ⊎ (stands_before M m s ≡ true)
  source_latest s m e there passes =
      elim (last_latest (filter may M) None s m (once-filter may M once) e (in_filter may M m there passes)) [
        | inl same ↦ inl same
        | inr before ↦ inr (filter_before may M m s before).0
      ]

  -- so nothing later than the source may be returned
  pub none_later : (s m : ℕ) → last_or None (filter may M) ≡ Some s → stands_before M s m ≡ true → has_number M m ≡ true → may m ≡ true → ⊥
  none_later s m e later there passes = elim (source_latest s m e there passes) [
    | inl same ↦ not_itself M s once (subst (λ (x : ℕ). stands_before M s x ≡ true) same later)
    | inr before ↦ not_both M m s once before later
  ]

-- A relation of finitely many numbers has a round or can be sorted.
use Rattle.std.proofs.Common.{◌≡◌, ℕ, zero, suc, ◌+◌, ◌<◌, ◌≤◌, ◌==◌, ◌⊎◌, not, inl, inr, Bool, true, false, filter, List, [], ◌∷◌, ◌++◌, length, refl, sym, ap, ◌∙◌, subst, arith}
use Rattle.std.specs.List.{list_all, zip}
use Rattle.std.proofs.lemmas.Bool.{false≢true, both_ways, cases_Bool, cases_eq, and_from, ne_eqb, eq-eqb, not-true, not_from_false}
use Rattle.std.proofs.lemmas.List.{length-append}
use Rattle.fs_model.specs.Numbers.{has_number, stands_before}
use Rattle.fs_model.proofs.ListedNumbers.{AreOnce, has-here, has-later, has-cases, split_at}
use Rattle.fs_model.proofs.NumberOrders.{before-here, before-later}
use Rattle.fs_model.proofs.FilteredNumbers.{filter_has, in_filter, once-filter}
use Rattle.fs_model.proofs.CountedNumbers.{IsWithin, no_longer}
use Rattle.fs_verdict_laws.specs.Decide.{IsRound}

-- a number that passes, or none does
found : (f : ℕ → Bool) (ns : List ℕ) → ((n : ℕ) × (has_number ns n ≡ true) × (f n ≡ true)) ⊎ ((n : ℕ) → has_number ns n ≡ true → f n ≡ false)
found f [] = inr (λ n there. absurd (false≢true there))
found f (m ∷ ms) = elim (cases_Bool (f m)) [
  | inl here ↦ inl (m, has-here m ms m refl, here)
  | inr other ↦ (elim (found f ms) [
    | inl later ↦ inl (later.0, has-later m ms later.0 later.1, later.2)
    | inr none ↦ inr (λ n there. elim (has-cases m ms n there) [
      | inl same ↦ subst (λ (z : ℕ). f z ≡ false) same other
      | inr rest ↦ none n rest
    ])
  ])
]

module _ (R : ℕ → ℕ → Bool) where
  -- each has an edge to the next
  abbrev IsPath : List ℕ → Type 0
  IsPath [] = Unit {0}
  IsPath (n ∷ []) = Unit {0}
  IsPath (n ∷ m ∷ ns) = (R n m ≡ true) × IsPath (m ∷ ns)

  path_edges : (b : ℕ) (front : List ℕ) (z : ℕ) (back : List ℕ) → IsPath (b ∷ front ++ z ∷ back)
      → list_all (λ e. R e.0 e.1) (zip (b ∷ front) (front ++ z ∷ [])) ≡ true
  path_edges b [] z back path = and_from _ _ path.0 refl
  path_edges b (d ∷ ds) z back path = and_from _ _ path.0 (path_edges d ds z back path.1)

  -- a round of at most n numbers
  abbrev pub HasRound : ℕ → Type 0
  HasRound n = (ns : List ℕ) × IsRound R ns × (length ns ≤ n)

  -- a path that comes back to one of its numbers has a round
  back_again : (u : ℕ) (path : List ℕ) (n : ℕ) → length path ≤ n → has_number path u ≡ true → IsPath (u ∷ path) → HasRound n
  back_again u path n fits there edges =
      let parts = split_at path u there in
      let whole : IsPath (u ∷ parts.0 ++ u ∷ parts.1) = subst (λ ns. IsPath (u ∷ ns)) parts.2 edges in (
        u ∷ parts.0,
        record { some = omega arith; edges = path_edges u parts.0 u parts.1 whole },
        omega (arith, fits, ap length parts.2, length-append parts.0 (u ∷ parts.1)),
      )

  -- a number that has no edge from any of these
  abbrev IsSource : List ℕ → ℕ → Type 0
  IsSource vs u = (has_number vs u ≡ true) × ((m : ℕ) → has_number vs m ≡ true → R m u ≡ false)

  -- going back along edges ends at such a number, or comes back
  go_back : (vs : List ℕ) (fuel v : ℕ) (path : List ℕ) → AreOnce (v ∷ path) → IsWithin (v ∷ path) vs → IsPath (v ∷ path)
      → length vs < fuel + length (v ∷ path) → ((u : ℕ) × IsSource vs u) ⊎ HasRound (length vs)
  go_back vs zero v path once within edges enough = absurd (let fits = no_longer (v ∷ path) vs once within in omega (arith, fits, enough))
  go_back vs (suc fuel) v path once within edges enough = elim (found (λ u. R u v) vs) [
    | inr none ↦ inl (v, (within v (has-here v path v refl), none))
    | inl before ↦ (
        let u = before.0 in
        elim (cases_Bool (has_number (v ∷ path) u)) [
          | inl again ↦ inr (back_again u (v ∷ path) (length vs) (no_longer (v ∷ path) vs once within) again (before.2, edges))
          | inr new ↦ go_back vs fuel u (v ∷ path) ((λ there. both_ways (has_number (v ∷ path) u) new there), once)
              (λ a there. elim (has-cases u (v ∷ path) a there) [
                | inl same ↦ subst (λ (z : ℕ). has_number vs z ≡ true) same before.1
                | inr later ↦ within a later
              ])
              (before.2, edges) (omega (arith, enough))
        ])
  ]

  first_or_round : (v : ℕ) (vs : List ℕ) → ((u : ℕ) × IsSource (v ∷ vs) u) ⊎ HasRound (length (v ∷ vs))
  first_or_round v vs =
      go_back (v ∷ vs) (suc (length vs)) v [] ((λ there. false≢true there), tt)
      (λ a there. elim (has-cases v [] a there) [
        | inl same ↦ has-here v vs a same
        | inr none ↦ absurd (false≢true none)
      ])
      tt (omega arith)

  -- all the numbers, each once, along the edges between them
  pub record Sorts (vs xs : List ℕ) : Type 0 where
    pub once : AreOnce xs
    pub all : IsWithin vs xs
    pub none_else : IsWithin xs vs
    pub forward : (a b : ℕ) → has_number vs a ≡ true → has_number vs b ≡ true → R a b ≡ true → stands_before xs a b ≡ true

  put_first : (vs : List ℕ) (u : ℕ) (xs : List ℕ) → IsSource vs u → Sorts (filter (λ m. not (m == u)) vs) xs → Sorts vs (u ∷ xs)
  put_first vs u xs source rest = record {
    once = ((λ there. both_ways (u == u) (not-true (u == u) (filter_has (λ m. not (m == u)) vs u (rest.none_else u there)).1) (eq-eqb u u refl)), rest.once);
    all = λ a there. elim (cases_eq a u) [
      | inl same ↦ has-here u xs a (sym same)
      | inr other ↦ has-later u xs a (rest.all a (in_filter (λ m. not (m == u)) vs a there (not_from_false (a == u) (ne_eqb a u other))))
    ];
    none_else = λ a there. elim (has-cases u xs a there) [
      | inl same ↦ subst (λ (z : ℕ). has_number vs z ≡ true) same source.0
      | inr later ↦ (filter_has (λ m. not (m == u)) vs a (rest.none_else a later)).0
    ];
    forward = λ a b first second edge. elim (cases_eq b u) [
      | inl same ↦ absurd (both_ways (R a u) (source.1 a first) (subst (λ (z : ℕ). R a z ≡ true) same edge))
      | inr later ↦ (
          let second' = in_filter (λ m. not (m == u)) vs b second (not_from_false (b == u) (ne_eqb b u later)) in
          elim (cases_eq u a) [
            | inl here ↦ before-here u xs a b here ∙ rest.all b second'
            | inr other ↦ before-later u xs a b other
                ∙ rest.forward a b (in_filter (λ m. not (m == u)) vs a first (not_from_false (a == u) (ne_eqb a u (λ e. other (sym e))))) second' edge
          ])
    ];
  }

  fewer : (vs : List ℕ) (u : ℕ) → AreOnce vs → has_number vs u ≡ true → length (filter (λ m. not (m == u)) vs) < length vs
  fewer vs u once there =
      no_longer (u ∷ filter (λ m. not (m == u)) vs) vs
      ((λ again. both_ways (u == u) (not-true (u == u) (filter_has (λ m. not (m == u)) vs u again).1) (eq-eqb u u refl)), once-filter (λ m. not (m == u)) vs once)
      (λ a has. elim (has-cases u (filter (λ m. not (m == u)) vs) a has) [
        | inl same ↦ subst (λ (z : ℕ). has_number vs z ≡ true) same there
        | inr later ↦ (filter_has (λ m. not (m == u)) vs a later).0
      ])

  pub sorts_or_round : (fuel : ℕ) (vs : List ℕ) → AreOnce vs → length vs ≤ fuel → ((xs : List ℕ) × Sorts vs xs) ⊎ HasRound (length vs)
  sorts_or_round fuel [] once enough = inl (
    [],
    record {
      once = tt;
      all = λ a there. there;
      none_else = λ a there. there;
      forward = λ a b first second edge. absurd (false≢true first);
    },
  )
  sorts_or_round zero (v ∷ vs) once enough = absurd (omega (arith, enough))
  sorts_or_round (suc fuel) (v ∷ vs) once enough = elim (first_or_round v vs) [
    | inr round ↦ inr round
    | inl first ↦ (
        let u = first.0 in
        let less = fewer (v ∷ vs) u once first.1.0 in
        elim (sorts_or_round fuel (filter (λ m. not (m == u)) (v ∷ vs)) (once-filter (λ m. not (m == u)) (v ∷ vs) once) (omega (arith, less, enough))) [
          | inr round ↦ inr (round.0, round.1, (let short = round.2 in omega (arith, short, less)))
          | inl rest ↦ inl (u ∷ rest.0, put_first (v ∷ vs) u rest.0 first.1 rest.1)
        ])
  ]

-- A set of operations that is closed under resting has all stores: nothing rests on itself in the end.
use Rattle.std.proofs.Common.{◌≡◌, ◌⊎◌, ◌==◌, ◌||◌, ◌&&◌, ℕ, zero, suc, ◌<◌, ◌≤◌, List, length, Bool, true, false, Option, Some, refl, sym, ap, subst, ◌∙◌, inl, inr, arith}
use Rattle.std.specs.Prelude.{filter}
use Rattle.std.specs.List.{list_any}
use Rattle.std.proofs.lemmas.Bool.{cases_Bool, eq-eqb, eqb-true, both_ways, or_cases, or_left, or_right, and_parts, and_from}
use Rattle.fs_kinds.specs.declared.placement.Entry.{Entry}
use Rattle.fs_model.specs.declared.step.Step.{Step}
use Rattle.fs_model.specs.Numbers.{between, is_same, stands_before}
use Rattle.fs_model.specs.Operations.{PreExecution, accesses, place, trace_of, is_load, is_store, same_word, po, is_amo_or_sc, any_between}
use Rattle.fs_model.specs.Dependencies.{address_depends, data_depends, control_depends, address_dependency, data_dependency, control_dependency, address_between}
use Rattle.fs_model.specs.Preserved.{Rule1, Rule3, Rule9, Rule10, Rule11, Rule12, Rule13, ppo}
use Rattle.fs_model.specs.Source.{gmo, source_in, may_return}
use Rattle.fs_model.specs.Execution.{ObeysAxioms}
use Rattle.fs_model.proofs.FilteredNumbers.{filter_has}
use Rattle.fs_model.proofs.LastNumber.{last_in}
use Rattle.fs_model.proofs.RangeTests.{any_to}
use Rattle.fs_model.proofs.OnceListed.{gmo_once}
use Rattle.fs_model.proofs.ByRule.{by_rule}
use Rattle.fs_model.proofs.ProgramOrder.{po_of_harts, one_trace, po_place, po_trans}
use Rattle.fs_deps.proofs.Between.{any_between_from, any_between_to}
use Rattle.fs_values.specs.ThinAir.{rests_on, rests}
use Rattle.fs_values.proofs.Earlier.{first_at, earlier}

-- ---- what a source is

pub source_may : (x : PreExecution) (order : List ℕ) (a s : ℕ) → source_in x order a ≡ Some s → may_return x order a s ≡ true
source_may x order a s e =
    (filter_has (may_return x order a) (gmo x order) s (last_in (filter (may_return x order a) (gmo x order)) s e)).1

module _ (x : PreExecution) (p : List Entry) (order : List ℕ) (axioms : ObeysAxioms x p order)
    (amo : (a : ℕ) → is_load x a ≡ true → is_store x a ≡ true → is_amo_or_sc x a ≡ true) where
  abbrev rf : ℕ → Option ℕ
  rf = source_in x order

  -- the place in the global memory order
  abbrev at : ℕ → ℕ
  at = first_at (gmo x order)

  before : (a b : ℕ) → stands_before (gmo x order) a b ≡ true → at a < at b
  before a b h = earlier (gmo x order) (gmo_once x order axioms.once) a b h

  ordered : (a b : ℕ) → ppo x p rf a b ≡ true → at a < at b
  ordered a b h = before a b (axioms.preserved a b h)

  by_rule1 : (a b : ℕ) → po x a b ≡ true → is_store x b ≡ true → same_word x a b ≡ true → at a < at b
  by_rule1 a b h s w = ordered a b (by_rule x p rf a b Rule1 h (and_from _ _ s w))

  by_rule3 : (a b : ℕ) → po x a b ≡ true → is_amo_or_sc x a ≡ true → is_load x b ≡ true → rf b ≡ Some a → at a < at b
  by_rule3 a b h s l e =
      ordered a b (by_rule x p rf a b Rule3 h (and_from _ _ (and_from _ _ s l)
      (subst (λ o. is_same o (Some a) ≡ true) (sym e) (eq-eqb a a refl))))

  by_rule9 : (a b : ℕ) → po x a b ≡ true → address_dependency x a b ≡ true → at a < at b
  by_rule9 a b h d = ordered a b (by_rule x p rf a b Rule9 h d)

  by_rule10 : (a b : ℕ) → po x a b ≡ true → data_dependency x a b ≡ true → at a < at b
  by_rule10 a b h d = ordered a b (by_rule x p rf a b Rule10 h d)

  by_rule11 : (a b : ℕ) → po x a b ≡ true → is_store x b ≡ true → control_dependency x a b ≡ true → at a < at b
  by_rule11 a b h s d = ordered a b (by_rule x p rf a b Rule11 h (and_from _ _ s d))

  by_rule12 : (a m b : ℕ) → po x a m ≡ true → po x m b ≡ true → is_load x b ≡ true → is_store x m ≡ true
      → (address_dependency x a m || data_dependency x a m) ≡ true → rf b ≡ Some m → at a < at b
  by_rule12 a m b h k l s d e =
      let low = (po_of_harts x a m h).1 in
      let test : ℕ → Bool = λ m. is_store x m && (address_dependency x a m || data_dependency x a m) && is_same (rf b) (Some m) in
      let holds : test m ≡ true = and_from _ _ (and_from _ _ s d) (subst (λ o. is_same o (Some m) ≡ true) (sym e) (eq-eqb m m refl)) in
      let found : any_between x test a b ≡ true = any_to (λ m. po x a m && po x m b && test m) 0 (length (accesses x)) m (omega arith)
      (omega (arith, low)) (and_from _ _ (and_from _ _ h k) holds) in
      ordered a b (by_rule x p rf a b Rule12 (po_trans x a m b h k) (and_from _ _ l found))

  by_rule13 : (a b : ℕ) → po x a b ≡ true → is_store x b ≡ true → address_between x a b ≡ true → at a < at b
  by_rule13 a b h s d = ordered a b (by_rule x p rf a b Rule13 h (and_from _ _ s d))

  -- a test between i and j finds what it finds up to a later k
  wider : (test : ℕ → Bool) (i j k : ℕ) → j ≤ k → list_any test (between i j) ≡ true → list_any test (between i k) ≡ true
  wider test i j k low h = let m = any_between_from test i j h in any_between_to test i k m.0 m.1 (let q = m.2 in omega (arith, low, q)) m.3

  -- Store u is s, or is before s in program order and is no AMO; the loads on which its address and its word depend
  -- precede s.
  record Below (s u : ℕ) : Type 0 where
    own : (u ≡ s) ⊎ ((po x u s ≡ true) × (is_load x u ≡ false))
    early : (a : ℕ) → is_load x a ≡ true → po x a u ≡ true → (address_dependency x a u || data_dependency x a u) ≡ true → at a < at s

  itself : (s : ℕ) → Below s s
  itself s = record {
    own = inl refl;
    early = λ a l h d. elim (or_cases _ _ d) [ inl e ↦ by_rule9 a s h e | inr e ↦ by_rule10 a s h e ];
  }

  module _ (s : ℕ) (store : is_store x s ≡ true) where
    -- then all loads on which u rests, but u itself, precede s
    precede_later : (u a : ℕ) → po x u s ≡ true → po x a u ≡ true
        → (control_depends (trace_of x u) (place x a) (place x u)
        || list_any (address_depends (trace_of x u) (place x a)) (between (place x a) (place x u))) ≡ true → at a < at s
    precede_later u a h k d =
        let near = po_place x u s h in
        let trace = one_trace x a u k in
        let across = po_trans x a u s k h in
        elim (or_cases _ _ d) [
          | inl c ↦ by_rule11 a s across store
              (wider _ (place x a) (place x u) (place x s) (omega (arith, near))
              (subst (λ (ss : List Step). control_depends ss (place x a) (place x u) ≡ true) (sym trace) c))
          | inr c ↦ by_rule13 a s across store
              (wider _ (place x a) (place x u) (place x s) (omega (arith, near))
              (subst (λ (ss : List Step). list_any (address_depends ss (place x a)) (between (place x a) (place x u)) ≡ true) (sym trace) c))
        ]

    precede_here : (u a : ℕ) → u ≡ s → po x a u ≡ true
        → (control_depends (trace_of x u) (place x a) (place x u)
        || list_any (address_depends (trace_of x u) (place x a)) (between (place x a) (place x u))) ≡ true → at a < at s
    precede_here u a e k d =
        let trace = one_trace x a u k in
        let stores : is_store x u ≡ true = ap (is_store x) e ∙ store in
        let low : at a < at u = elim (or_cases _ _ d) [
          | inl c ↦ by_rule11 a u k stores (subst (λ (ss : List Step). control_depends ss (place x a) (place x u) ≡ true) (sym trace) c)
          | inr c ↦ by_rule13 a u k stores
              (subst (λ (ss : List Step). list_any (address_depends ss (place x a)) (between (place x a) (place x u)) ≡ true) (sym trace) c)
        ] in
        subst (λ v. at a < at v) e low

    precede : (u a : ℕ) → Below s u → is_load x a ≡ true → po x a u ≡ true → rests_on (trace_of x u) (place x u) (place x a) ≡ true
        → at a < at s
    precede u a below l k r =
        let low = po_place x a u k in
        let trace = one_trace x a u k in
        elim (or_cases _ _ r) [
          | inl same ↦ (let e = eqb-true (place x a) (place x u) same in absurd (omega (arith, low, e)))
          | inr r1 ↦ elim (or_cases _ _ r1) [
            | inl d ↦ below.early a l k (or_left _ _ (subst (λ (ss : List Step). address_depends ss (place x a) (place x u) ≡ true) (sym trace) d))
            | inr r2 ↦ elim (or_cases _ _ r2) [
              | inl d ↦ below.early a l k (or_right (address_dependency x a u) _
                  (subst (λ (ss : List Step). data_depends ss (place x a) (place x u) ≡ true) (sym trace) d))
              | inr r3 ↦ elim below.own [
                | inl e ↦ precede_here u a e k r3
                | inr o ↦ precede_later u a o.0 k r3
              ]
            ]
          ]
        ]

  -- ---- the induction

  module _ (P : ℕ → Type 0)
      (closed : (s : ℕ) → is_store x s ≡ true → ((a : ℕ) → rests x s a ≡ true → (r : ℕ) → rf a ≡ Some r → P r) → P s) where
    module _ (s : ℕ) (store : is_store x s ≡ true) (sooner : (r : ℕ) → is_store x r ≡ true → at r < at s → P r) where
      -- the parts of what a source is
      source_store : (a r : ℕ) → rf a ≡ Some r → is_store x r ≡ true
      source_store a r e = (and_parts _ _ (and_parts _ _ (source_may x order a r e)).0).0

      source_word : (a r : ℕ) → rf a ≡ Some r → same_word x r a ≡ true
      source_word a r e = (and_parts _ _ (and_parts _ _ (source_may x order a r e)).0).1

      source_where : (a r : ℕ) → rf a ≡ Some r → (stands_before (gmo x order) r a || po x r a) ≡ true
      source_where a r e = (and_parts _ _ (source_may x order a r e)).1

      -- a forwarded store
      forwarded : (u a r : ℕ) → Below s u → is_load x a ≡ true → po x a u ≡ true → at a < at s → rf a ≡ Some r → po x r a ≡ true
          → is_load x r ≡ false → Below s r
      forwarded u a r below l k low e h none = record {
        own = inr (
          elim below.own [
            | inl same ↦ subst (λ v. po x r v ≡ true) same (po_trans x r a u h k)
            | inr o ↦ po_trans x r u s (po_trans x r a u h k) o.0
          ],
          none,
        );
        early = λ b lb kb d. let first = by_rule12 b r a kb h l (source_store a r e) d e in omega (arith, first, low);
      }

      module _ (u : ℕ) (stores : is_store x u ≡ true) (below : Below s u)
          (deeper : (r : ℕ) → place x r < place x u → is_store x r ≡ true → Below s r → P r) where
        by_itself : (a r : ℕ) → is_load x a ≡ true → a ≡ u → rf a ≡ Some r → P r
        by_itself a r l same e = elim below.own [
          | inr o ↦ absurd (both_ways (is_load x u) o.1 (ap (is_load x) (sym same) ∙ l))
          | inl this ↦ (
              let first : at r < at a = elim (or_cases _ _ (source_where a r e)) [
                | inl b ↦ before r a b
                | inr h ↦ by_rule1 r a h (ap (is_store x) same ∙ stores) (source_word a r e)
              ] in
              sooner r (source_store a r e) (subst (λ v. at r < at v) (same ∙ this) first))
        ]

        by_po : (a r : ℕ) → is_load x a ≡ true → po x a u ≡ true → at a < at s → rf a ≡ Some r → P r
        by_po a r l k first e = elim (or_cases _ _ (source_where a r e)) [
          | inl b ↦ (let second = before r a b in sooner r (source_store a r e) (omega (arith, first, second)))
          | inr h ↦ elim (cases_Bool (is_load x r)) [
            | inl loads ↦ (
                let second = by_rule3 r a h (amo r loads (source_store a r e)) l e in
                sooner r (source_store a r e) (omega (arith, first, second)))
            | inr none ↦ (
                let nearer = po_place x r a h in
                let near = po_place x a u k in
                deeper r (omega (arith, near, nearer)) (source_store a r e) (forwarded u a r below l k first e h none))
          ]
        ]

        rested : (a r : ℕ) → is_load x a ≡ true
            → ((a == u) || (po x a u && rests_on (trace_of x u) (place x u) (place x a))) ≡ true → rf a ≡ Some r → P r
        rested a r l on e = elim (or_cases _ _ on) [
          | inl same ↦ by_itself a r l (eqb-true a u same) e
          | inr both ↦ (
              let parts = and_parts _ _ both in
              by_po a r l parts.0 (precede s store u a below l parts.0 parts.1) e)
        ]

        one_more : P u
        one_more = closed u stores (λ a r s' e. rested a s' (and_parts _ _ r).0 (and_parts _ _ r).1 e)

      inner : (d u : ℕ) → place x u < d → is_store x u ≡ true → Below s u → P u
      inner zero u low stores below = absurd (omega (arith, low))
      inner (suc d) u low stores below =
          one_more u stores below (λ r near stores' below'. inner d r (omega (arith, low, near)) stores' below')

      has_it : P s
      has_it = inner (suc (place x s)) s (omega arith) store (itself s)

    has_below : (m s : ℕ) → at s < m → is_store x s ≡ true → P s
    has_below zero s low store = absurd (omega (arith, low))
    has_below (suc m) s low store = has_it s store (λ r stores first. has_below m r (omega (arith, low, first)) stores)

    pub has_all : (s : ℕ) → is_store x s ≡ true → P s
    has_all s store = has_below (suc (at s)) s (omega arith) store

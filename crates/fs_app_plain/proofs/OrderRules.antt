-- What the rules preserve in the shorter runs stands in that order in the whole ones.
use Rattle.std.proofs.Common.{◌≡◌, ℕ, Bool, true, false, ◌&&◌, ◌||◌, Some, List, [], ◌∷◌, length, refl, sym, ap, subst, ◌∙◌, inl, inr, arith}
use Rattle.std.specs.List.{list_any}
use Rattle.std.proofs.lemmas.Bool.{false≢true, both_ways, cases_Bool, and_parts, and_from, or_cases, or_left, or_right, not-true, not_from_false, false_from_ne_true}
use Rattle.fs_instr.specs.declared.instr.Instr.{Instr}
use Rattle.fs_instr.specs.Roles.{is_amo, is_sc, annotation}
use Rattle.fs_kinds.specs.declared.placement.Entry.{Entry}
use Rattle.fs_model.specs.Numbers.{is_same, stands_before}
use Rattle.fs_model.specs.Operations.{PreExecution, accesses, operation, is_load, is_store, same_word, same_hart, po, any_between, is_acquire, is_release, is_rcsc, is_amo_or_sc, address_dependency, data_dependency}
use Rattle.fs_model.specs.Source.{gmo, source_in}
use Rattle.fs_model.specs.Preserved.{Rule, Rule1, Rule2, Rule3, Rule4, Rule5, Rule6, Rule7, Rule8, Rule9, Rule10, Rule11, Rule12, Rule13, all_rules, case_of, rule, ppo}
use Rattle.fs_model.specs.Execution.{ObeysAxioms, Respects}
use Rattle.fs_model.proofs.OptionalNumbers.{same_is, same_from, one_value}
use Rattle.fs_model.proofs.RangeTests.{any_from, any_to}
use Rattle.fs_model.proofs.NumberOrders.{not_both}
use Rattle.fs_model.proofs.OnceListed.{gmo_once}
use Rattle.fs_model.proofs.SameWord.{word_sym, word_trans}
use Rattle.fs_model.proofs.ProgramOrder.{in_po, po_total, po_of_harts, po_trans}
use Rattle.fs_app_plain.proofs.Shortened.{there, Shortens}
use Rattle.fs_app_plain.proofs.OrderLists.{back, stays, order_without, there_back}
use Rattle.fs_app_plain.proofs.OrderOnce.{gmo_before}
use Rattle.fs_app_plain.proofs.OrderSources.{source_is, forward, store_later, then, loaded_from, gone_source}
use Rattle.fs_app_plain.proofs.OrderReturned.{load_same, store_same, word_same, kept_or_before, source_moved, returned, kept_is}

-- ---- operations between two

record Between (x : PreExecution) (test : ℕ → Bool) (a b : ℕ) : Type 0 where
  m : ℕ
  after : po x a m ≡ true
  before : po x m b ≡ true
  passes : test m ≡ true

between_parts : (x : PreExecution) (test : ℕ → Bool) (a b : ℕ) → any_between x test a b ≡ true → Between x test a b
between_parts x test a b h =
    let m = any_from (λ m. po x a m && po x m b && test m) 0 (length (accesses x)) h in
    let parts = and_parts _ _ m.3 in
    let both = and_parts _ _ parts.0 in
    record { m = m.0; after = both.0; before = both.1; passes = parts.1 }

between_from : (x : PreExecution) (test : ℕ → Bool) (a b m : ℕ) → po x a m ≡ true → po x m b ≡ true → test m ≡ true
    → any_between x test a b ≡ true
between_from x test a b m after before passes =
    let low = (po_of_harts x a m after).1 in
    any_to (λ m. po x a m && po x m b && test m) 0 (length (accesses x)) m (omega arith) (omega (arith, low))
    (and_from _ _ (and_from _ _ after before) passes)

one_hart : (x : PreExecution) (a b c : ℕ) → po x a c ≡ true → po x b c ≡ true → same_hart x a b ≡ true
one_hart x a b c first second =
    let one = in_po x a c first in
    let two = in_po x b c second in
    same_from (operation x a).hart (operation x b).hart one.hart one.first
    (two.first ∙ ap Some (one_value (operation x c).hart two.hart one.hart two.second one.second))

-- ---- one rule at a time

module _ (p : List Entry) (x y : PreExecution) (from count : ℕ) (short : Shortens p x y from count) (order : List ℕ) (ax : ObeysAxioms x p order) where
  amo_or_sc_same : (a : ℕ) → is_amo_or_sc y a ≡ is_amo_or_sc x (there from count a)
  amo_or_sc_same a = ap (λ (i : Instr). is_amo i || is_sc i) (short.instrs a)

  acquire_same : (a : ℕ) → is_acquire y a ≡ is_acquire x (there from count a)
  acquire_same a = ap (λ (i : Instr). (annotation i).acquire) (short.instrs a)

  release_same : (a : ℕ) → is_release y a ≡ is_release x (there from count a)
  release_same a = ap (λ (i : Instr). (annotation i).release) (short.instrs a)

  rcsc_same : (a : ℕ) → is_rcsc y a ≡ is_rcsc x (there from count a)
  rcsc_same a = ap (λ (i : Instr). (annotation i).acquire || (annotation i).release) (short.instrs a)

  po_there : (a b : ℕ) → po y a b ≡ true → po x (there from count a) (there from count b) ≡ true
  po_there a b first = sym (short.before a b) ∙ first

  load_there : (a : ℕ) → is_load y a ≡ true → is_load x (there from count a) ≡ true
  load_there a loads = sym (load_same p x y from count short a) ∙ loads

  store_there : (a : ℕ) → is_store y a ≡ true → is_store x (there from count a) ≡ true
  store_there a stores = sym (store_same p x y from count short a) ∙ stores

  word_there : (a b : ℕ) → same_word y a b ≡ true → same_word x (there from count a) (there from count b) ≡ true
  word_there a b word = sym (word_same p x y from count short a b) ∙ word

  -- what stays between two, in the shorter runs
  store_here : (n a : ℕ) → stays from count n ≡ true → is_store x n ≡ true → same_word x n (there from count a) ≡ true
      → (is_store y (back from count n) && same_word y (back from count n) a) ≡ true
  store_here n a kept stores word =
      let same = there_back from count n kept in
      and_from _ _ (store_same p x y from count short (back from count n) ∙ ap (is_store x) same ∙ stores)
      (word_same p x y from count short (back from count n) a ∙ ap (λ z. same_word x z (there from count a)) same ∙ word)

  between_here : (test : ℕ → Bool) (n a b : ℕ) → stays from count n ≡ true → po x (there from count a) n ≡ true → po x n (there from count b) ≡ true
      → test (back from count n) ≡ true → any_between y test a b ≡ true
  between_here test n a b kept after before passes =
      let same = there_back from count n kept in
      between_from y test a b (back from count n) (short.before a (back from count n) ∙ ap (po x (there from count a)) same ∙ after)
      (short.before (back from count n) b ∙ ap (λ z. po x z (there from count b)) same ∙ before) passes

  -- A store that is gone stands before a load of its word, where no store that stays is between the two. The load
  -- returns it, or a later one.
  gone_forward : (g load : ℕ) → stays from count g ≡ false → is_store x g ≡ true → same_word x g load ≡ true → is_load x load ≡ true
      → po x g load ≡ true
      → ((n : ℕ) → stays from count n ≡ true → is_store x n ≡ true → same_word x n load ≡ true → po x g n ≡ true → po x n load ≡ true → ⊥)
      → stands_before (gmo x order) g load ≡ true
  gone_forward g load gone stores word loads first none =
      let loaded = loaded_from p x y from count short order ax load loads in
      let s = loaded.0 in
      let source = source_is x order ax.once load s loaded.1 in
      elim (source.latest g stores word (inr first)) [
        | inl same ↦ gone_source p x y from count short order ax load g loads (loaded.1 ∙ ap Some (sym same)) gone
        | inr before ↦ then p x y from count short order ax g s load before (elim source.earlier [
          | inl early ↦ early
          | inr second ↦ (elim (cases_Bool (stays from count s)) [
            | inr lost ↦ gone_source p x y from count short order ax load s loads loaded.1 lost
            | inl kept ↦ absurd (elim (po_total x g s (one_hart x g s load first second)
                (λ e. both_ways (stays from count g) gone (ap (stays from count) e ∙ kept))) [
                  | inl later ↦ none s kept source.stores source.word later second
                  | inr earlier ↦ not_both (gmo x order) g s (gmo_once x order ax.once) before
                      (store_later p x y from count short order ax s g earlier stores
                      (word_trans x s load g source.word (word_sym x g load word)))
                ])
          ])
        ])
      ]

  rule_2 : (a b : ℕ) → po y a b ≡ true → is_load x (there from count a) ≡ true → is_load x (there from count b) ≡ true
      → same_word x (there from count a) (there from count b) ≡ true
      → any_between y (λ m. is_store y m && same_word y m a) a b ≡ false
      → is_same (source_in y (order_without from count order) a) (source_in y (order_without from count order) b) ≡ false
      → stands_before (gmo x order) (there from count a) (there from count b) ≡ true
  rule_2 a b first loads_a loads_b word none differ =
      let c = there from count a in
      let d = there from count b in
      elim (cases_Bool (any_between x (λ m. is_store x m && same_word x m c) c d)) [
        | inl some ↦ (
            let m = between_parts x (λ m. is_store x m && same_word x m c) c d some in
            let parts = and_parts _ _ m.passes in
            elim (cases_Bool (stays from count m.m)) [
              | inl kept ↦ absurd (both_ways _ none (between_here (λ n. is_store y n && same_word y n a) m.m a b kept m.after m.before
                  (store_here m.m a kept parts.0 parts.1)))
              | inr gone ↦ then p x y from count short order ax c m.m d
                  (store_later p x y from count short order ax c m.m m.after parts.0 (word_sym x m.m c parts.1))
                  (gone_forward m.m d gone parts.0 (word_trans x m.m c d parts.1 word) loads_b m.before
                  (λ n kept stores same after before.
                  both_ways _ none (between_here (λ n. is_store y n && same_word y n a) n a b kept (po_trans x c m.m n m.after after) before
                  (store_here n a kept stores (word_trans x n d c same (word_sym x c d word))))))
            ])
        | inr none_there ↦ (
            let r = returned p x y from count short order ax a loads_a in
            forward p x y from count short order ax c d Rule2 (po_there a b first)
            (and_from _ _ (and_from _ _ (and_from _ _ (and_from _ _ loads_a loads_b) word) (not_from_false _ none_there))
            (not_from_false _ (false_from_ne_true _ (λ same.
            both_ways _ differ (same_from (source_in y (order_without from count order) a) (source_in y (order_without from count order) b)
            (back from count r.kept) r.source_here
            (source_moved p x y from count short order ax b r.whole r.kept loads_b
            (sym (same_is (source_in x order c) (source_in x order d) same) ∙ r.source) r.stands)))))))
      ]

  rule_3 : (a b : ℕ) → po y a b ≡ true → is_amo_or_sc x (there from count a) ≡ true → is_load x (there from count b) ≡ true
      → source_in y (order_without from count order) b ≡ Some a
      → stands_before (gmo x order) (there from count a) (there from count b) ≡ true
  rule_3 a b first swaps loads e =
      let c = there from count a in
      let d = there from count b in
      let r = returned p x y from count short order ax b loads in
      let is = kept_is p x y from count short order ax b a r e in
      elim (kept_or_before p x y from count short order ax d r.whole r.kept loads r.source r.stands) [
        | inl same ↦ forward p x y from count short order ax c d Rule3 (po_there a b first)
            (and_from _ _ (and_from _ _ swaps loads) (same_from (source_in x order d) (Some c) c (r.source ∙ ap Some (sym same ∙ is)) refl))
        | inr before ↦ subst (λ (z : ℕ). stands_before (gmo x order) z d ≡ true) is before.1
      ]

  rule_12 : (a b m : ℕ) → po y a b ≡ true → po y a m ≡ true → po y m b ≡ true → is_load x (there from count b) ≡ true
      → is_store x (there from count m) ≡ true
      → (address_dependency x (there from count a) (there from count m) || data_dependency x (there from count a) (there from count m)) ≡ true
      → source_in y (order_without from count order) b ≡ Some m
      → stands_before (gmo x order) (there from count a) (there from count b) ≡ true
  rule_12 a b m first after before loads stores depends e =
      let c = there from count a in
      let d = there from count b in
      let n = there from count m in
      let r = returned p x y from count short order ax b loads in
      let is = kept_is p x y from count short order ax b m r e in
      elim (kept_or_before p x y from count short order ax d r.whole r.kept loads r.source r.stands) [
        | inl same ↦ forward p x y from count short order ax c d Rule12 (po_there a b first)
            (and_from _ _ loads
            (between_from x (λ k. is_store x k && (address_dependency x c k || data_dependency x c k) && is_same (source_in x order d) (Some k))
            c d n (po_there a m after) (po_there m b before)
            (and_from _ _ (and_from _ _ stores depends)
            (same_from (source_in x order d) (Some n) n (r.source ∙ ap Some (sym same ∙ is)) refl))))
        | inr standing ↦ then p x y from count short order ax c n d
            (elim (or_cases _ _ depends) [
              | inl by_address ↦ forward p x y from count short order ax c n Rule9 (po_there a m after) by_address
              | inr by_data ↦ forward p x y from count short order ax c n Rule10 (po_there a m after) by_data
            ])
            (subst (λ (z : ℕ). stands_before (gmo x order) z d ≡ true) is standing.1)
      ]

  case_there : (a b : ℕ) (r : Rule) → po y a b ≡ true → case_of y p (source_in y (order_without from count order)) a b r ≡ true
      → stands_before (gmo x order) (there from count a) (there from count b) ≡ true
  case_there a b Rule1 first holds =
      let parts = and_parts _ _ holds in
      store_later p x y from count short order ax (there from count a) (there from count b) (po_there a b first) (store_there b parts.0)
      (word_there a b parts.1)
  case_there a b Rule2 first holds =
      let parts = and_parts _ _ holds in
      let rest = and_parts _ _ parts.0 in
      let access = and_parts _ _ rest.0 in
      let loads = and_parts _ _ access.0 in
      rule_2 a b first (load_there a loads.0) (load_there b loads.1) (word_there a b access.1) (not-true _ rest.1) (not-true _ parts.1)
  case_there a b Rule3 first holds =
      let parts = and_parts _ _ holds in
      let both = and_parts _ _ parts.0 in
      rule_3 a b first (sym (amo_or_sc_same a) ∙ both.0) (load_there b both.1)
      (same_is (source_in y (order_without from count order) b) (Some a) parts.1)
  case_there a b Rule4 first holds =
      forward p x y from count short order ax (there from count a) (there from count b) Rule4 (po_there a b first) (short.fences a b first holds)
  case_there a b Rule5 first holds =
      forward p x y from count short order ax (there from count a) (there from count b) Rule5 (po_there a b first) (sym (acquire_same a) ∙ holds)
  case_there a b Rule6 first holds =
      forward p x y from count short order ax (there from count a) (there from count b) Rule6 (po_there a b first) (sym (release_same b) ∙ holds)
  case_there a b Rule7 first holds =
      let parts = and_parts _ _ holds in
      forward p x y from count short order ax (there from count a) (there from count b) Rule7 (po_there a b first)
      (and_from _ _ (sym (rcsc_same a) ∙ parts.0) (sym (rcsc_same b) ∙ parts.1))
  case_there a b Rule8 first holds =
      forward p x y from count short order ax (there from count a) (there from count b) Rule8 (po_there a b first) (short.pairs a b first holds)
  case_there a b Rule9 first holds =
      forward p x y from count short order ax (there from count a) (there from count b) Rule9 (po_there a b first) (short.by_address a b first holds)
  case_there a b Rule10 first holds =
      forward p x y from count short order ax (there from count a) (there from count b) Rule10 (po_there a b first) (short.by_data a b first holds)
  case_there a b Rule11 first holds =
      let parts = and_parts _ _ holds in
      forward p x y from count short order ax (there from count a) (there from count b) Rule11 (po_there a b first)
      (and_from _ _ (store_there b parts.0) (short.by_control a b first parts.1))
  case_there a b Rule12 first holds =
      let parts = and_parts _ _ holds in
      let m = between_parts y
      (λ m. is_store y m && (address_dependency y a m || data_dependency y a m) && is_same (source_in y (order_without from count order) b) (Some m))
      a b parts.1 in
      let tests = and_parts _ _ m.passes in
      let store = and_parts _ _ tests.0 in
      rule_12 a b m.m first m.after m.before (load_there b parts.0) (store_there m.m store.0)
      (elim (or_cases _ _ store.1) [
        | inl by_address ↦ or_left _ _ (short.by_address a m.m m.after by_address)
        | inr by_data ↦ or_right _ _ (short.by_data a m.m m.after by_data)
      ])
      (same_is (source_in y (order_without from count order) b) (Some m.m) tests.1)
  case_there a b Rule13 first holds =
      let parts = and_parts _ _ holds in
      forward p x y from count short order ax (there from count a) (there from count b) Rule13 (po_there a b first)
      (and_from _ _ (store_there b parts.0) (short.by_address_between a b first parts.1))

  -- ---- all rules

  some_rule : (f : Rule → Bool) (rs : List Rule) → list_any f rs ≡ true → (r : Rule) × (f r ≡ true)
  some_rule f [] h = absurd (false≢true h)
  some_rule f (r ∷ rs) h = elim (or_cases _ _ h) [
    | inl here ↦ (r, here)
    | inr later ↦ some_rule f rs later
  ]

  pub preserved_without : Respects (gmo y (order_without from count order)) (λ a b. ppo y p (source_in y (order_without from count order)) a b ≡ true)
  preserved_without a b holds =
      let r = some_rule (rule y p (source_in y (order_without from count order)) a b) all_rules holds in
      let parts = and_parts _ _ r.1 in
      gmo_before p x y from count short order a b ∙ case_there a b r.0 parts.0 parts.1

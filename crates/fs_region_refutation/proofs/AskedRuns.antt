-- Rules by their numbers, where what is asked of sources stands beside them.
use Rattle.std.proofs.Common.{◌≡◌, ℕ, ◌==◌, Bool, true, false, ◌&&◌, ◌||◌, not, Option, None, Some, List, refl, sym, ◌∙◌, ap, rules}
use Rattle.std.proofs.lemmas.Bool.{false≢true, and_parts}
use Rattle.fs_kinds.specs.declared.placement.Entry.{Entry}
use Rattle.fs_model.specs.Numbers.{is_same}
use Rattle.fs_model.specs.Operations.{PreExecution, operation, po, is_load, is_store, same_word, any_between, is_amo_or_sc}
use Rattle.fs_model.specs.Dependencies.{address_dependency, data_dependency}
use Rattle.fs_model.specs.Preserved.{Rule, Rule1, Rule2, Rule3, Rule4, Rule5, Rule6, Rule7, Rule8, Rule9, Rule10, Rule11, Rule12, Rule13, rule}
use Rattle.fs_model.proofs.OptionalNumbers.{same_parts}
use Rattle.fs_model.proofs.ProgramOrder.{po_trans}
use Rattle.fs_ppo.specs.Rules.{rule_of, number_of, numbered_rule}
use Rattle.fs_ppo.proofs.Between.{passes_one, passes_none}
use Rattle.fs_ppo.proofs.Tests.{same_tests}
use Rattle.fs_region_refutation.specs.inner.Ordered.{IsOwn, loads_after_amo_or_sc, passes_through}

-- those that look at neither sources nor placed fences
abbrev pub is_plain : Rule → Bool
is_plain Rule2 = false
is_plain Rule3 = false
is_plain Rule4 = false
is_plain Rule12 = false
is_plain _ = true

-- ---- rules by their numbers

numbered : (r : Rule) → rule_of (number_of r) ≡ Some r
unfolding rule_of
numbered Rule1 = refl
numbered Rule2 = refl
numbered Rule3 = refl
numbered Rule4 = refl
numbered Rule5 = refl
numbered Rule6 = refl
numbered Rule7 = refl
numbered Rule8 = refl
numbered Rule9 = refl
numbered Rule10 = refl
numbered Rule11 = refl
numbered Rule12 = refl
numbered Rule13 = refl

pub one_rule : (r s : Rule) → number_of r ≡ number_of s → r ≡ s
one_rule r s e = let both : Some r ≡ Some s = sym (numbered r) ∙ ap rule_of e ∙ numbered s in cc

pub others_plain : (r : Rule) (n : ℕ) → number_of r ≡ n → (n ≡ 2 → ⊥) → (n ≡ 3 → ⊥) → (n ≡ 4 → ⊥) → (n ≡ 12 → ⊥) → is_plain r ≡ true
others_plain Rule1 n e two three four twelve = refl
others_plain Rule2 n e two three four twelve = absurd (two (sym e))
others_plain Rule3 n e two three four twelve = absurd (three (sym e))
others_plain Rule4 n e two three four twelve = absurd (four (sym e))
others_plain Rule5 n e two three four twelve = refl
others_plain Rule6 n e two three four twelve = refl
others_plain Rule7 n e two three four twelve = refl
others_plain Rule8 n e two three four twelve = refl
others_plain Rule9 n e two three four twelve = refl
others_plain Rule10 n e two three four twelve = refl
others_plain Rule11 n e two three four twelve = refl
others_plain Rule12 n e two three four twelve = absurd (twelve (sym e))
others_plain Rule13 n e two three four twelve = refl

-- ---- each by itself

module _ (x : PreExecution) (p : List Entry) (rf src : ℕ → Option ℕ) (a b : ℕ) where
  pub plain : (r : Rule) → is_plain r ≡ true → numbered_rule (number_of r) x src a b ≡ rule x p rf a b r
  unfolding rule_of
  plain Rule1 e = refl
  plain Rule2 e = absurd (false≢true e)
  plain Rule3 e = absurd (false≢true e)
  plain Rule4 e = absurd (false≢true e)
  plain Rule5 e = refl
  plain Rule6 e = refl
  plain Rule7 e = refl
  plain Rule8 e = refl
  plain Rule9 e = refl
  plain Rule10 e = refl
  plain Rule11 e = refl
  plain Rule12 e = absurd (false≢true e)
  plain Rule13 e = refl

  -- ---- rule 2

  pub two : src a ≡ None → (same : Bool) → is_same (rf a) (rf b) ≡ same → (numbered_rule 2 x src a b && not same) ≡ rule x p rf a b Rule2
  unfolding rule_of
  two none same e = rw (none, e) (beside (po x a b) (is_load x a && is_load x b && same_word x a b && not (any_between x (λ m. is_store x m && same_word x m a) a b)) same)
    where
      beside : (c l s : Bool) → (c && (l && true) && not s) ≡ (c && (l && not s))
      beside c l s = grind rules

  -- ---- what is of no hart is before nothing

  none_same : (o : Option ℕ) → is_same o None ≡ false
  none_same None = refl
  none_same (Some n) = refl

  pub not_first : (c d : ℕ) → (operation x c).hart ≡ None → po x c d ≡ false
  not_first c d none = rw none refl

  pub not_second : (c d : ℕ) → (operation x d).hart ≡ None → po x c d ≡ false
  not_second c d none = rw (none, none_same (operation x c).hart) refl

  -- ---- rule 3

  pub three : (m : ℕ) → rf b ≡ Some m → ((m == a) && loads_after_amo_or_sc x a b) ≡ rule x p rf a b Rule3
  three m e = rw e (beside (m == a) (po x a b) (is_amo_or_sc x a) (is_load x b))
    where
      beside : (s c d l : Bool) → (s && (c && (d && l))) ≡ (c && (d && l && s))
      beside s c d l = grind rules

  pub three_none : IsOwn x (rf b) None → false ≡ rule x p rf a b Rule3
  three_none away = same_tests _ _ (λ e. absurd (false≢true e)) (λ e.
      let parts = and_parts (po x a b) _ e in
      let source = same_parts (rf b) (Some a) (and_parts (is_amo_or_sc x a && is_load x b) (is_same (rf b) (Some a)) parts.1).1 in
      let is : rf b ≡ Some a = source.1 ∙ sym source.2 in
      absurd (false≢true (sym (not_first a b (away a is)) ∙ parts.0)))

  -- ---- rule 12

  abbrev stores_on : ℕ → Bool
  stores_on m = is_store x m && (address_dependency x a m || data_dependency x a m)

  by_one : (m : ℕ) → rf b ≡ Some m → (po x a b && (is_load x b && (po x a m && po x m b && stores_on m))) ≡ rule x p rf a b Rule12
  by_one m e = ap (λ (o : Bool). po x a b && (is_load x b && o)) (passes_one x stores_on (rf b) a b m _ e refl)

  logic : (c d e l s f g : Bool) → (d ≡ true → e ≡ true → c ≡ true) → (e && (s && (l && (d && f || d && g)))) ≡ (c && (l && (d && e && (s && (f || g)))))
  logic true d e l s f g h = grind rules
  logic false true true l s f g h = absurd (false≢true (h refl refl))
  logic false true false l s f g h = refl
  logic false false e l s f g h = grind rules

  pub twelve : (m : ℕ) → rf b ≡ Some m → passes_through x src a m b ≡ rule x p rf a b Rule12
  unfolding rule_of
  twelve m e =
      logic (po x a b) (po x a m) (po x m b) (is_load x b) (is_store x m) (address_dependency x a m) (data_dependency x a m) (po_trans x a m b)
      ∙ by_one m e

  pub twelve_none : IsOwn x (rf b) None → false ≡ rule x p rf a b Rule12
  twelve_none away = by_source (rf b) refl
    where
      off : (c l : Bool) → false ≡ (c && (l && false))
      off c l = grind rules

      by_source : (o : Option ℕ) → rf b ≡ o → false ≡ rule x p rf a b Rule12
      by_source None e = off (po x a b) (is_load x b) ∙ ap (λ (o : Bool). po x a b && (is_load x b && o)) (passes_none x stores_on (rf b) a b e)
      by_source (Some m) e = outside m (not_second a m (away m e)) ∙ by_one m e
        where
          outside : (m : ℕ) → po x a m ≡ false → false ≡ (po x a b && (is_load x b && (po x a m && po x m b && stores_on m)))
          outside m e = rw e (off (po x a b) (is_load x b))

  -- ---- by number

  module _ (r : Rule) where
    pub case_two : (found : Bool) → found ≡ numbered_rule 2 x src a b → src a ≡ None → (same : Bool) → is_same (rf a) (rf b) ≡ same → number_of r ≡ 2
        → (found && not same) ≡ rule x p rf a b r
    case_two found is none same e n =
        ap (λ (o : Bool). o && not same) is ∙ two none same e ∙ ap (λ (s : Rule). rule x p rf a b s) (sym (one_rule r Rule2 n))

    pub case_twelve : (m : ℕ) → rf b ≡ Some m → number_of r ≡ 12 → passes_through x src a m b ≡ rule x p rf a b r
    case_twelve m e n = twelve m e ∙ ap (λ (s : Rule). rule x p rf a b s) (sym (one_rule r Rule12 n))

    pub case_twelve_none : IsOwn x (rf b) None → number_of r ≡ 12 → false ≡ rule x p rf a b r
    case_twelve_none away n = twelve_none away ∙ ap (λ (s : Rule). rule x p rf a b s) (sym (one_rule r Rule12 n))

    pub case_other : (n : ℕ) → number_of r ≡ n → (n ≡ 2 → ⊥) → (n ≡ 3 → ⊥) → (n ≡ 4 → ⊥) → (n ≡ 12 → ⊥) → numbered_rule n x src a b ≡ rule x p rf a b r
    case_other n e two three four twelve =
        ap (λ (k : ℕ). numbered_rule k x src a b) (sym e) ∙ plain r (others_plain r n e two three four twelve)

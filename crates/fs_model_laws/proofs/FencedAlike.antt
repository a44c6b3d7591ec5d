-- Two pre-executions with the same operations, up to places and branch targets: what one order obeys in the one, it
-- obeys in the other.
use Rattle.std.proofs.Common.{◌≡◌, ℕ, ◌==◌, Bool, true, false, ◌&&◌, ◌||◌, not, cond, List, [], ◌∷◌, ◌++◌, filter, length, Option, None, Some, refl, ap, sym, ◌∙◌}
use Rattle.std.specs.Prelude.{is_some, option_and_then, unwrap_or}
use Rattle.std.specs.List.{list_any, list_all, last_or, range_with_len}
use Rattle.fs_kinds.specs.declared.placement.Entry.{Entry}
use Rattle.fs_instr.specs.declared.names.Ann.{Ann}
use Rattle.fs_model.specs.Test.{address_of}
use Rattle.fs_model.specs.Forms.{annotation}
use Rattle.fs_model.specs.Numbers.{is_same, numbers_below, has_number, stands_before}
use Rattle.fs_model.specs.Operations.{PreExecution, accesses, operation, is_load, is_store, same_word, same_hart, po, any_between, is_rcsc, is_amo_or_sc, paired}
use Rattle.fs_model.specs.Dependencies.{address_dependency, data_dependency, control_dependency, address_between}
use Rattle.fs_model.specs.Fences.{fence_between}
use Rattle.fs_model.specs.Source.{gmo, may_return, source_in}
use Rattle.fs_model.specs.Preserved.{Rule, Rule1, Rule2, Rule3, Rule4, Rule5, Rule6, Rule7, Rule8, Rule9, Rule10, Rule11, Rule12, Rule13, case_of, rule, all_rules, ppo}
use Rattle.fs_model.specs.Execution.{ObeysAxioms}
use Rattle.fs_model.specs.Shows.{is_store_to, final_word}
use Rattle.fs_model_laws.proofs.FencedSpread.{any_same}
use Rattle.fs_model_laws.proofs.FencedDepends.{and_same, and_when, or_same}

pub record Alike (x : PreExecution) (p : List Entry) (y : PreExecution) (q : List Entry) : Type 0 where
  pub count : length (accesses y) ≡ length (accesses x)
  pub words : y.words ≡ x.words
  pub hart : (a : ℕ) → (operation y a).hart ≡ (operation x a).hart
  pub address : (a : ℕ) → (operation y a).address ≡ (operation x a).address
  pub loaded : (a : ℕ) → (operation y a).loaded ≡ (operation x a).loaded
  pub stored : (a : ℕ) → (operation y a).stored ≡ (operation x a).stored
  pub annotated : (a : ℕ) → annotation (operation y a).instr ≡ annotation (operation x a).instr
  pub swaps : (a : ℕ) → is_amo_or_sc y a ≡ is_amo_or_sc x a
  pub order : (a b : ℕ) → po y a b ≡ po x a b
  pub fences : (a b : ℕ) → po x a b ≡ true → fence_between y q a b ≡ fence_between x p a b
  pub pairs : (a b : ℕ) → po x a b ≡ true → paired y a b ≡ paired x a b
  pub addresses : (a b : ℕ) → po x a b ≡ true → address_dependency y a b ≡ address_dependency x a b
  pub words_stored : (a b : ℕ) → po x a b ≡ true → data_dependency y a b ≡ data_dependency x a b
  pub controls : (a b : ℕ) → po x a b ≡ true → control_dependency y a b ≡ control_dependency x a b
  pub betweens : (a b : ℕ) → po x a b ≡ true → address_between y a b ≡ address_between x a b

pub alike_back : (x : PreExecution) (p : List Entry) (y : PreExecution) (q : List Entry) → Alike x p y q → Alike y q x p
alike_back x p y q h =
    record {
      count = sym h.count;
      words = sym h.words;
      hart = λ a. sym (h.hart a);
      address = λ a. sym (h.address a);
      loaded = λ a. sym (h.loaded a);
      stored = λ a. sym (h.stored a);
      annotated = λ a. sym (h.annotated a);
      swaps = λ a. sym (h.swaps a);
      order = λ a b. sym (h.order a b);
      fences = λ a b e. sym (h.fences a b (sym (h.order a b) ∙ e));
      pairs = λ a b e. sym (h.pairs a b (sym (h.order a b) ∙ e));
      addresses = λ a b e. sym (h.addresses a b (sym (h.order a b) ∙ e));
      words_stored = λ a b e. sym (h.words_stored a b (sym (h.order a b) ∙ e));
      controls = λ a b e. sym (h.controls a b (sym (h.order a b) ∙ e));
      betweens = λ a b e. sym (h.betweens a b (sym (h.order a b) ∙ e));
    }

pub filter_same : {X : Type 0} (f g : X → Bool) → ((x : X) → f x ≡ g x) → (xs : List X) → filter f xs ≡ filter g xs
filter_same f g e [] = refl
filter_same f g e (x ∷ xs) =
    ap (λ c. cond c (x ∷ filter f xs) (filter f xs)) (e x) ∙ ap (λ ys. cond (g x) (x ∷ ys) ys) (filter_same f g e xs)

pub then_same : {A B : Type 0} (f g : A → Option B) → ((a : A) → f a ≡ g a) → (o : Option A)
    → option_and_then f o ≡ option_and_then g o
then_same f g e None = refl
then_same f g e (Some a) = e a

-- a sum that asks for the same first
guarded_same : (a b c d s t : Bool) → a ≡ c → b ≡ d → (c ≡ true → d ≡ true → s ≡ t) → (a && b && s) ≡ (c && d && t)
guarded_same a b true true s t e f h = ap (λ u. u && b && s) e ∙ ap (λ u. true && u && s) f ∙ h refl refl
guarded_same a b true false s t e f h = ap (λ u. u && b && s) e ∙ ap (λ u. true && u && s) f
guarded_same a b false d s t e f h = ap (λ u. u && b && s) e

module _ (x : PreExecution) (p : List Entry) (y : PreExecution) (q : List Entry) (h : Alike x p y q) where
  load_same : (a : ℕ) → is_load y a ≡ is_load x a
  load_same a = ap is_some (h.loaded a)

  pub store_same : (a : ℕ) → is_store y a ≡ is_store x a
  store_same a = ap is_some (h.stored a)

  word_same : (a b : ℕ) → same_word y a b ≡ same_word x a b
  word_same a b = ap (λ o. is_same o (operation y b).address) (h.address a) ∙ ap (is_same (operation x a).address) (h.address b)

  one_hart_same : (a b : ℕ) → same_hart y a b ≡ same_hart x a b
  one_hart_same a b = ap (λ o. is_same o (operation y b).hart) (h.hart a) ∙ ap (is_same (operation x a).hart) (h.hart b)

  rcsc_same : (a : ℕ) → is_rcsc y a ≡ is_rcsc x a
  rcsc_same a = ap (λ (ann : Ann). ann.acquire || ann.release) (h.annotated a)

  pub gmo_same : (order : List ℕ) → gmo y order ≡ gmo x order
  gmo_same order =
      ap (λ n. range_with_len n (length y.words) ++ order) h.count
      ∙ ap (λ ws. range_with_len (length (accesses x)) (length ws) ++ order) h.words

  may_return_same : (order : List ℕ) (load s : ℕ) → may_return y order load s ≡ may_return x order load s
  may_return_same order load s =
      and_same _ _ _ _
      (and_same _ _ _ _ (store_same s) (word_same s load))
      (or_same _ _ _ _ (ap (λ ns. stands_before ns s load) (gmo_same order)) (h.order s load))

  source_same : (order : List ℕ) (load : ℕ) → source_in y order load ≡ source_in x order load
  source_same order load =
      ap (last_or None) (filter_same (may_return y order load) (may_return x order load) (may_return_same order load)
      (gmo y order))
      ∙ ap (λ ns. last_or None (filter (may_return x order load) ns)) (gmo_same order)

  any_between_same : (f g : ℕ → Bool) (a b : ℕ) → ((m : ℕ) → po x a m ≡ true → po x m b ≡ true → f m ≡ g m)
      → any_between y f a b ≡ any_between x g a b
  any_between_same f g a b same =
      any_same (λ m. po y a m && po y m b && f m) (λ m. po x a m && po x m b && g m)
      (λ m. guarded_same _ _ _ _ _ _ (h.order a m) (h.order m b) (same m)) (numbers_below (length (accesses y)))
      ∙ ap (λ n. list_any (λ m. po x a m && po x m b && g m) (numbers_below n)) h.count

  module _ (rf sf : ℕ → Option ℕ) (sources : (a : ℕ) → sf a ≡ rf a) (a b : ℕ) (low : po x a b ≡ true) where
    from_same : (m n : ℕ) → is_same (sf m) (Some n) ≡ is_same (rf m) (Some n)
    from_same m n = ap (λ o. is_same o (Some n)) (sources m)

    case_same : (r : Rule) → case_of y q sf a b r ≡ case_of x p rf a b r
    case_same Rule1 = and_same _ _ _ _ (store_same b) (word_same a b)
    case_same Rule2 =
        and_same _ _ _ _
        (and_same _ _ _ _
        (and_same _ _ _ _ (and_same _ _ _ _ (load_same a) (load_same b)) (word_same a b))
        (ap not (any_between_same (λ m. is_store y m && same_word y m a) (λ m. is_store x m && same_word x m a) a b
        (λ m e f. and_same _ _ _ _ (store_same m) (word_same m a)))))
        (ap not (ap (λ o. is_same o (sf b)) (sources a) ∙ ap (is_same (rf a)) (sources b)))
    case_same Rule3 = and_same _ _ _ _ (and_same _ _ _ _ (h.swaps a) (load_same b)) (from_same b a)
    case_same Rule4 = h.fences a b low
    case_same Rule5 = ap (λ (ann : Ann). ann.acquire) (h.annotated a)
    case_same Rule6 = ap (λ (ann : Ann). ann.release) (h.annotated b)
    case_same Rule7 = and_same _ _ _ _ (rcsc_same a) (rcsc_same b)
    case_same Rule8 = h.pairs a b low
    case_same Rule9 = h.addresses a b low
    case_same Rule10 = h.words_stored a b low
    case_same Rule11 = and_same _ _ _ _ (store_same b) (h.controls a b low)
    case_same Rule12 =
        and_same _ _ _ _ (load_same b)
        (any_between_same
        (λ m. is_store y m && (address_dependency y a m || data_dependency y a m) && is_same (sf b) (Some m))
        (λ m. is_store x m && (address_dependency x a m || data_dependency x a m) && is_same (rf b) (Some m))
        a b
        (λ m e f. and_same _ _ _ _ (and_same _ _ _ _ (store_same m)
        (or_same _ _ _ _ (h.addresses a m e) (h.words_stored a m e))) (from_same b m)))
    case_same Rule13 = and_same _ _ _ _ (store_same b) (h.betweens a b low)

  rule_same : (rf sf : ℕ → Option ℕ) → ((a : ℕ) → sf a ≡ rf a) → (a b : ℕ) (r : Rule) → rule y q sf a b r ≡ rule x p rf a b r
  rule_same rf sf sources a b r =
      ap (λ c. c && case_of y q sf a b r) (h.order a b) ∙ and_when (po x a b) _ _ (λ low. case_same rf sf sources a b low r)

  ppo_same : (rf sf : ℕ → Option ℕ) → ((a : ℕ) → sf a ≡ rf a) → (a b : ℕ) → ppo y q sf a b ≡ ppo x p rf a b
  ppo_same rf sf sources a b = any_same (rule y q sf a b) (rule x p rf a b) (rule_same rf sf sources a b) all_rules

  pub final_word_same : (order : List ℕ) (location : ℕ) → final_word y order location ≡ final_word x order location
  final_word_same order location =
      let there = filter_same (is_store_to y location) (is_store_to x location)
      (λ a. and_same _ _ _ _ (store_same a) (ap (λ o. is_same o (Some (address_of location))) (h.address a))) (gmo y order) in
      ap (λ o. unwrap_or o 0)
      (then_same (λ a. (operation y a).stored) (λ a. (operation x a).stored) h.stored
      (last_or None (filter (is_store_to y location) (gmo y order)))
      ∙ ap (λ ns. option_and_then (λ a. (operation x a).stored) (last_or None ns)) there
      ∙ ap (λ ns. option_and_then (λ a. (operation x a).stored) (last_or None (filter (is_store_to x location) ns)))
      (gmo_same order))

  pub axioms_there : (order : List ℕ) → ObeysAxioms x p order → ObeysAxioms y q order
  axioms_there order obeys =
      let earlier : (a b : ℕ) → stands_before (gmo y order) a b ≡ stands_before (gmo x order) a b = λ a b. ap
      (λ ns. stands_before ns a b) (gmo_same order) in
      record {
        once = ap (λ n. (length order == n) && list_all (has_number order) (numbers_below n)) h.count ∙ obeys.once;
        preserved =
            λ a b e. earlier a b ∙ obeys.preserved a b
            (sym (ppo_same (source_in x order) (source_in y order) (source_same order) a b) ∙ e);
        values = λ a e.
            h.loaded a
            ∙ obeys.values a (sym (load_same a) ∙ e)
            ∙ sym (then_same (λ s. (operation y s).stored) (λ s. (operation x s).stored) h.stored (source_in x order a))
            ∙ ap (option_and_then (λ s. (operation y s).stored)) (sym (source_same order a));
        atomic = λ r w s e f g.
            let low = sym (h.order r w) ∙ e in
            let was = obeys.atomic r w s low (sym (h.pairs r w low) ∙ f) (sym (source_same order r) ∙ g) in (
              earlier s w ∙ was.0,
              λ m store word other first last. was.1 m (sym (store_same m) ∙ store) (sym (word_same m w) ∙ word)
                  (sym (one_hart_same m w) ∙ other) (sym (earlier s m) ∙ first) (sym (earlier m w) ∙ last),
            );
      }

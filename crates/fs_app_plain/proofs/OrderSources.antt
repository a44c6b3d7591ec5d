-- What stands for a store that is gone, and what loads of the shorter runs return.
use Rattle.std.proofs.Common.{◌≡◌, ℕ, ◌⊎◌, true, false, Option, None, Some, is_some, option_and_then, List, refl, sym, subst, ◌∙◌, inl, inr}
use Rattle.std.proofs.lemmas.Bool.{both_ways, cases_Bool, and_parts, and_from, or_cases, or_left, or_right}
use Rattle.fs_kinds.specs.declared.placement.Entry.{Entry}
use Rattle.fs_model.specs.Numbers.{has_number, stands_before}
use Rattle.fs_model.specs.Operations.{PreExecution, operation, is_load, is_store, same_word, po}
use Rattle.fs_model.specs.Source.{lists_each_once, gmo, may_return, source_in}
use Rattle.fs_model.specs.Preserved.{Rule, Rule1, Rule3, case_of}
use Rattle.fs_model.specs.Execution.{ObeysAxioms}
use Rattle.fs_model.proofs.ByRule.{by_rule}
use Rattle.fs_model.proofs.OptionalNumbers.{same_from, none_there}
use Rattle.fs_model.proofs.NumberOrders.{before_trans}
use Rattle.fs_model.proofs.OnceListed.{gmo_once}
use Rattle.fs_model.proofs.SameWord.{word_sym, word_trans}
use Rattle.fs_model.proofs.WhichOperation.{store_there}
use Rattle.fs_app_plain.proofs.Shortened.{Shortens}
use Rattle.fs_app_plain.proofs.OrderLists.{stays, gone_from}
use Rattle.fs_app_plain.proofs.OrderLast.{along, last_passes, passes_before_last}
use Rattle.fs_app_plain.proofs.OrderOnce.{gmo_has}

-- ---- the source of a load

-- a stands before b in the global memory order or in program order
abbrev pub IsEarlier : PreExecution → List ℕ → ℕ → ℕ → Type 0
IsEarlier x order a b = (stands_before (gmo x order) a b ≡ true) ⊎ (po x a b ≡ true)

-- a is b, or stands before it
abbrev pub IsUpTo : PreExecution → List ℕ → ℕ → ℕ → Type 0
IsUpTo x order a b = (a ≡ b) ⊎ (stands_before (gmo x order) a b ≡ true)

pub record IsSource (x : PreExecution) (order : List ℕ) (load s : ℕ) : Type 0 where
  pub has : has_number (gmo x order) s ≡ true
  pub stores : is_store x s ≡ true
  pub word : same_word x s load ≡ true
  pub earlier : IsEarlier x order s load
  pub latest : (m : ℕ) → is_store x m ≡ true → same_word x m load ≡ true → IsEarlier x order m load → IsUpTo x order m s

may_from : (x : PreExecution) (order : List ℕ) (load s : ℕ) → is_store x s ≡ true → same_word x s load ≡ true → IsEarlier x order s load
    → may_return x order load s ≡ true
may_from x order load s stores word earlier = and_from _ _ (and_from _ _ stores word) (elim earlier [
  | inl before ↦ or_left _ _ before
  | inr first ↦ or_right _ _ first
])

pub source_is : (x : PreExecution) (order : List ℕ) → lists_each_once x order ≡ true → (load s : ℕ) → source_in x order load ≡ Some s
    → IsSource x order load s
source_is x order once load s e =
    let last = last_passes (may_return x order load) (gmo x order) s e in
    let parts = and_parts _ _ last.1 in
    let access = and_parts _ _ parts.0 in
    record {
      has = last.0;
      stores = access.0;
      word = access.1;
      earlier = or_cases _ _ parts.1;
      latest = λ m stores word earlier.
          passes_before_last (may_return x order load) (gmo x order) s m (gmo_once x order once) e
          (gmo_has x order once m (store_there x m stores)) (may_from x order load m stores word earlier);
    }

-- a load has a source, whose word it returns
some_source : (loaded : Option ℕ) (stored : ℕ → Option ℕ) (o : Option ℕ) → is_some loaded ≡ true → loaded ≡ option_and_then stored o
    → (s : ℕ) × (o ≡ Some s) × (loaded ≡ stored s)
some_source loaded stored None word e = absurd (none_there loaded e word)
some_source loaded stored (Some s) word e = (s, refl, e)

-- ---- what stands for a store

-- k is the latest of the stores to the word of s, up to s, that stay, and stores the same
pub record StandsFor (x : PreExecution) (order : List ℕ) (from count s k : ℕ) : Type 0 where
  pub kept : stays from count k ≡ true
  pub has : has_number (gmo x order) k ≡ true
  pub stores : is_store x k ≡ true
  pub word : same_word x k s ≡ true
  pub alike : (operation x k).stored ≡ (operation x s).stored
  pub up_to : IsUpTo x order k s
  pub itself : stays from count s ≡ true → k ≡ s
  pub latest : (m : ℕ) → stays from count m ≡ true → is_store x m ≡ true → same_word x m s ≡ true → IsUpTo x order m s → IsUpTo x order m k

module _ (p : List Entry) (x y : PreExecution) (from count : ℕ) (short : Shortens p x y from count) (order : List ℕ) (ax : ObeysAxioms x p order) where
  -- what a rule preserves stands in that order
  pub forward : (a b : ℕ) (r : Rule) → po x a b ≡ true → case_of x p (source_in x order) a b r ≡ true → stands_before (gmo x order) a b ≡ true
  forward a b r first holds = ax.preserved a b (by_rule x p (source_in x order) a b r first holds)

  pub store_later : (a b : ℕ) → po x a b ≡ true → is_store x b ≡ true → same_word x a b ≡ true → stands_before (gmo x order) a b ≡ true
  store_later a b first stores word = forward a b Rule1 first (and_from _ _ stores word)

  pub then : (a b c : ℕ) → stands_before (gmo x order) a b ≡ true → stands_before (gmo x order) b c ≡ true → stands_before (gmo x order) a c ≡ true
  then a b c = before_trans (gmo x order) a b c (gmo_once x order ax.once)

  pub up_to_then : (a b c : ℕ) → IsUpTo x order a b → stands_before (gmo x order) b c ≡ true → stands_before (gmo x order) a c ≡ true
  up_to_then a b c up_to before = elim up_to [
    | inl same ↦ subst (λ (z : ℕ). stands_before (gmo x order) z c ≡ true) (sym same) before
    | inr first ↦ then a b c first before
  ]

  pub loaded_from : (b : ℕ) → is_load x b ≡ true → (s : ℕ) × (source_in x order b ≡ Some s) × ((operation x b).loaded ≡ (operation x s).stored)
  loaded_from b loads = some_source (operation x b).loaded (λ s. (operation x s).stored) (source_in x order b) loads (ax.values b loads)

  -- a source that is gone stands before the load
  pub gone_source : (b s : ℕ) → is_load x b ≡ true → source_in x order b ≡ Some s → stays from count s ≡ false
      → stands_before (gmo x order) s b ≡ true
  gone_source b s loads e gone =
      let source = source_is x order ax.once b s e in
      let amo = short.gone_stores s (gone_from from count s gone) source.stores in
      elim source.earlier [
        | inl before ↦ before
        | inr first ↦ forward s b Rule3 first (and_from _ _ (and_from _ _ (or_left _ _ amo.0) loads) (same_from (source_in x order b) (Some s) s e refl))
      ]

  -- what stands for the source of a store that is gone stands for that store
  through : (c s k : ℕ) → stays from count c ≡ false → is_store x c ≡ true → source_in x order c ≡ Some s
      → (operation x c).stored ≡ (operation x s).stored → StandsFor x order from count s k → StandsFor x order from count c k
  through c s k gone stores e word stands =
      let source = source_is x order ax.once c s e in
      let before : stands_before (gmo x order) s c ≡ true = elim source.earlier [
        | inl earlier ↦ earlier
        | inr first ↦ store_later s c first stores source.word
      ] in
      record {
        kept = stands.kept;
        has = stands.has;
        stores = stands.stores;
        word = word_trans x k s c stands.word source.word;
        alike = stands.alike ∙ sym word;
        up_to = inr (up_to_then k s c stands.up_to before);
        itself = λ kept. absurd (both_ways (stays from count c) gone kept);
        latest = λ m kept stored same up_to. stands.latest m kept stored (word_trans x m c s same (word_sym x s c source.word)) (elim up_to [
          | inl here ↦ absurd (both_ways (stays from count c) gone (subst (λ (z : ℕ). stays from count z ≡ true) here kept))
          | inr earlier ↦ source.latest m stored same (inl earlier)
        ]);
      }

  pub stands_for : (s : ℕ) → has_number (gmo x order) s ≡ true → is_store x s ≡ true → same_word x s s ≡ true
      → (k : ℕ) × StandsFor x order from count s k
  stands_for = along (gmo x order) (gmo_once x order ax.once)
      (λ s. is_store x s ≡ true → same_word x s s ≡ true → (k : ℕ) × StandsFor x order from count s k)
      (λ c has each stores word. elim (cases_Bool (stays from count c)) [
        | inl kept ↦ (
          c,
          record {
            kept = kept;
            has = has;
            stores = stores;
            word = word;
            alike = refl;
            up_to = inl refl;
            itself = λ _. refl;
            latest = λ m _ _ _ up_to. up_to;
          },
        )
        | inr gone ↦ (
            let amo = short.gone_stores c (gone_from from count c gone) stores in
            let loaded = loaded_from c amo.1 in
            let s = loaded.0 in
            let source = source_is x order ax.once c s loaded.1 in
            let before : stands_before (gmo x order) s c ≡ true = elim source.earlier [
              | inl earlier ↦ earlier
              | inr first ↦ store_later s c first stores source.word
            ] in
            let rest = each s before source.stores (word_trans x s c s source.word (word_sym x s c source.word)) in
            (rest.0, through c s rest.0 gone stores loaded.1 (amo.2 ∙ loaded.2) rest.1))
      ])

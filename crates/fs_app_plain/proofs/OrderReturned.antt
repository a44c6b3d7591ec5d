-- What loads of the shorter runs return: what stands for their sources in the whole ones.
use Rattle.std.proofs.Common.{◌≡◌, ℕ, ◌⊎◌, Bool, true, ◌&&◌, ◌||◌, None, Some, is_some, option_and_then, List, filter, sym, ap, subst, ◌∙◌, inl, inr}
use Rattle.std.specs.List.{last_or}
use Rattle.std.proofs.lemmas.Bool.{cases_Bool, and_parts, and_from, or_left, or_right}
use Rattle.fs_kinds.specs.declared.placement.Entry.{Entry}
use Rattle.fs_model.specs.Numbers.{is_same, stands_before}
use Rattle.fs_model.specs.Operations.{PreExecution, operation, is_load, is_store, same_word, same_hart, po}
use Rattle.fs_model.specs.Source.{gmo, may_return, source_in}
use Rattle.fs_model.specs.Execution.{ObeysAxioms, ReturnsSources}
use Rattle.fs_model.proofs.OptionalNumbers.{one_value}
use Rattle.fs_model.proofs.OnceListed.{gmo_once}
use Rattle.fs_model.proofs.SameWord.{word_sym, word_trans}
use Rattle.fs_app_plain.proofs.Shortened.{there, Shortens}
use Rattle.fs_app_plain.proofs.OrderLists.{back, stays, order_without, there_back}
use Rattle.fs_app_plain.proofs.OrderLast.{last_without}
use Rattle.fs_app_plain.proofs.OrderOnce.{gmo_without, gmo_before}
use Rattle.fs_app_plain.proofs.OrderSources.{StandsFor, source_is, up_to_then, loaded_from, gone_source, stands_for}

pub both_same : (a b c d : Bool) → a ≡ c → b ≡ d → (a && b) ≡ (c && d)
both_same a b c d e f = ap (λ u. u && b) e ∙ ap (λ u. c && u) f

either_same : (a b c d : Bool) → a ≡ c → b ≡ d → (a || b) ≡ (c || d)
either_same a b c d e f = ap (λ u. u || b) e ∙ ap (λ u. c || u) f

-- ---- what an operation of the shorter runs is in the whole ones

module _ (p : List Entry) (x y : PreExecution) (from count : ℕ) (short : Shortens p x y from count) where
  pub load_same : (a : ℕ) → is_load y a ≡ is_load x (there from count a)
  load_same a = ap is_some (short.loads a)

  pub store_same : (a : ℕ) → is_store y a ≡ is_store x (there from count a)
  store_same a = ap is_some (short.stores a)

  pub word_same : (a b : ℕ) → same_word y a b ≡ same_word x (there from count a) (there from count b)
  word_same a b =
      ap (λ o. is_same o (operation y b).address) (short.addresses a) ∙ ap (is_same (operation x (there from count a)).address) (short.addresses b)

  pub hart_same : (a b : ℕ) → same_hart y a b ≡ same_hart x (there from count a) (there from count b)
  hart_same a b = ap (λ o. is_same o (operation y b).hart) (short.harts a) ∙ ap (is_same (operation x (there from count a)).hart) (short.harts b)

  may_same : (order : List ℕ) (load m : ℕ)
      → may_return y (order_without from count order) load m ≡ may_return x order (there from count load) (there from count m)
  may_same order load m =
      both_same _ _ _ _ (both_same _ _ _ _ (store_same m) (word_same m load))
      (either_same _ _ _ _ (gmo_before p x y from count short order m load) (short.before m load))

-- ---- sources

-- load b returns `whole` in the whole runs, and `kept` stands for it in the shorter ones
pub record Returned (x y : PreExecution) (order : List ℕ) (from count b : ℕ) : Type 0 where
  pub whole : ℕ
  pub kept : ℕ
  pub source : source_in x order (there from count b) ≡ Some whole
  pub word : (operation x (there from count b)).loaded ≡ (operation x whole).stored
  pub stands : StandsFor x order from count whole kept
  pub source_here : source_in y (order_without from count order) b ≡ Some (back from count kept)

module _ (p : List Entry) (x y : PreExecution) (from count : ℕ) (short : Shortens p x y from count) (order : List ℕ) (ax : ObeysAxioms x p order) where
  -- what stands for the source is itself the source, or it and the source stand before the load
  pub kept_or_before : (load s k : ℕ) → is_load x load ≡ true → source_in x order load ≡ Some s → StandsFor x order from count s k
      → (k ≡ s) ⊎ ((stands_before (gmo x order) s load ≡ true) × (stands_before (gmo x order) k load ≡ true))
  kept_or_before load s k loads e stands = elim (cases_Bool (stays from count s)) [
    | inl kept ↦ inl (stands.itself kept)
    | inr gone ↦ (
        let before = gone_source p x y from count short order ax load s loads e gone in
        inr (before, up_to_then p x y from count short order ax k s load stands.up_to before))
  ]

  pub source_moved : (b s k : ℕ) → is_load x (there from count b) ≡ true → source_in x order (there from count b) ≡ Some s
      → StandsFor x order from count s k → source_in y (order_without from count order) b ≡ Some (back from count k)
  source_moved b s k loads e stands =
      let load = there from count b in
      let source = source_is x order ax.once load s e in
      let word = word_trans x k s load stands.word source.word in
      let may : may_return x order load k ≡ true = and_from _ _ (and_from _ _ stands.stores word)
      (elim (kept_or_before load s k loads e stands) [
        | inl same ↦ (elim source.earlier [
          | inl before ↦ or_left _ _ (subst (λ (z : ℕ). stands_before (gmo x order) z load ≡ true) (sym same) before)
          | inr first ↦ or_right _ _ (subst (λ (z : ℕ). po x z load ≡ true) (sym same) first)
        ])
        | inr before ↦ or_left _ _ before.1
      ]) in
      ap (λ ns. last_or None (filter (may_return y (order_without from count order) b) ns)) (gmo_without p x y from count short order)
      ∙ last_without from count (may_return x order load) (may_return y (order_without from count order) b)
      (may_same p x y from count short order b) (gmo x order) (gmo_once x order ax.once) s k e stands.has stands.kept may
      (λ m kept passes up_to.
      let parts = and_parts _ _ (and_parts _ _ passes).0 in
      stands.latest m kept parts.0 (word_trans x m load s parts.1 (word_sym x s load source.word)) up_to)

  pub returned : (b : ℕ) → is_load x (there from count b) ≡ true → Returned x y order from count b
  returned b loads =
      let load = there from count b in
      let loaded = loaded_from p x y from count short order ax load loads in
      let s = loaded.0 in
      let source = source_is x order ax.once load s loaded.1 in
      let stands = stands_for p x y from count short order ax s source.has source.stores (word_trans x s load s source.word (word_sym x s load source.word)) in
      record {
        whole = s;
        kept = stands.0;
        source = loaded.1;
        word = loaded.2;
        stands = stands.1;
        source_here = source_moved b s stands.0 loads loaded.1 stands.1;
      }

  -- an operation that is the source here is what stands for the source there
  pub kept_is : (b n : ℕ) (r : Returned x y order from count b) → source_in y (order_without from count order) b ≡ Some n → r.kept ≡ there from count n
  kept_is b n r e =
      sym (there_back from count r.kept r.stands.kept)
      ∙ ap (there from count) (one_value (source_in y (order_without from count order) b) (back from count r.kept) n r.source_here e)

  -- each load returns the word of its source
  pub values_without : ReturnsSources y (source_in y (order_without from count order))
  values_without a loads =
      let r = returned a (sym (load_same p x y from count short a) ∙ loads) in
      short.loads a
      ∙ r.word
      ∙ sym r.stands.alike
      ∙ sym (short.stores (back from count r.kept) ∙ ap (λ n. (operation x n).stored) (there_back from count r.kept r.stands.kept))
      ∙ sym (ap (option_and_then (λ s. (operation y s).stored)) r.source_here)

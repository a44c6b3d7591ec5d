-- An order of the whole runs' operations that obeys the axioms does so without those that are gone, and ends with the
-- same words.
use Rattle.std.proofs.Common.{◌≡◌, ℕ, ◌<◌, true, Option, None, Some, option_and_then, unwrap_or, List, filter, length, refl, sym, ap, subst, ◌∙◌, inl, inr}
use Rattle.std.specs.List.{last_or}
use Rattle.std.proofs.lemmas.Bool.{cases_eq, and_parts, and_from}
use Rattle.fs_kinds.specs.declared.placement.Entry.{Entry}
use Rattle.fs_model.specs.declared.test.Test.{Test}
use Rattle.fs_model.specs.Runs.{address_of}
use Rattle.fs_model.specs.Numbers.{is_same, stands_before}
use Rattle.fs_model.specs.Operations.{PreExecution, operation, is_load, is_store, same_word, po, paired, steps_of}
use Rattle.fs_model.specs.Source.{gmo, source_in}
use Rattle.fs_model.specs.Executions.{last_word}
use Rattle.fs_model.specs.Shows.{is_store_to}
use Rattle.fs_model.specs.Execution.{Execution, ObeysAxioms, IsAtomic, IsTrace, pre_execution}
use Rattle.fs_model.proofs.OptionalNumbers.{same_parts, same_from}
use Rattle.fs_model.proofs.NumberOrders.{before-first, not_itself, not_both, either_way}
use Rattle.fs_model.proofs.OnceListed.{gmo_once}
use Rattle.fs_model.proofs.SameWord.{word_sym, word_trans}
use Rattle.fs_model.proofs.RunPairs.{pair_accesses}
use Rattle.fs_app_plain.proofs.Shortened.{there, Shortens}
use Rattle.fs_app_plain.proofs.OrderLists.{back, order_without, there_stays, there_back}
use Rattle.fs_app_plain.proofs.OrderLast.{last_passes, last_without, none_without}
use Rattle.fs_app_plain.proofs.OrderOnce.{gmo_without, gmo_before, each_once_without}
use Rattle.fs_app_plain.proofs.OrderSources.{IsUpTo, StandsFor, source_is, up_to_then, stands_for}
use Rattle.fs_app_plain.proofs.OrderReturned.{store_same, word_same, hart_same, returned, kept_is, values_without, both_same}
use Rattle.fs_app_plain.proofs.OrderRules.{preserved_without}

-- Of a pair, the first loads, and the second stores, one word: so it is in runs (`runs_agree` below). Of a pair of two
-- words nothing follows for the shorter runs: what stands for the source of the first may be much earlier, and a store
-- to the second word may come after it.
abbrev pub PairsAgree : PreExecution → Type 0
PairsAgree x =
    (r w : ℕ) → po x r w ≡ true → paired x r w ≡ true → (is_load x r ≡ true) × (is_store x w ≡ true) × (same_word x r w ≡ true)

module _ (p : List Entry) (x y : PreExecution) (from count : ℕ) (short : Shortens p x y from count) where
  -- ---- atomicity

  module _ (agree : PairsAgree x) (order : List ℕ) (ax : ObeysAxioms x p order) where
    -- of the stores to the word that stay none stands after what stands for s and before w, where none stands between s
    -- and w
    none_after : (s k w m : ℕ) → StandsFor x order from count s k → same_word x s w ≡ true → stands_before (gmo x order) s w ≡ true
        → (is_store x (there from count m) ≡ true → same_word x (there from count m) w ≡ true
        → stands_before (gmo x order) s (there from count m) ≡ true → ⊥)
        → is_store x (there from count m) ≡ true → same_word x (there from count m) w ≡ true
        → stands_before (gmo x order) k (there from count m) ≡ true → stands_before (gmo x order) (there from count m) w ≡ true → ⊥
    none_after s k w m stands one_word source none stores word after before =
        let n = there from count m in
        let once = gmo_once x order ax.once in
        let late : IsUpTo x order n s → ⊥ = λ up_to. elim (stands.latest n (there_stays from count m) stores
        (word_trans x n w s word (word_sym x s w one_word)) up_to) [
          | inl same ↦ not_itself (gmo x order) k once (subst (λ (z : ℕ). stands_before (gmo x order) k z ≡ true) same after)
          | inr earlier ↦ not_both (gmo x order) k n once after earlier
        ] in
        elim (cases_eq n s) [
          | inl same ↦ late (inl same)
          | inr other ↦ (elim (either_way (gmo x order) n s (before-first (gmo x order) n w before) (before-first (gmo x order) s w source) other) [
            | inl earlier ↦ late (inr earlier)
            | inr later ↦ none stores word later
          ])
        ]

    atomic_without : IsAtomic y (source_in y (order_without from count order)) (gmo y (order_without from count order))
    atomic_without r w s first pair e =
        let a = there from count r in
        let b = there from count w in
        let low = sym (short.before r w) ∙ first in
        let both = short.pairs r w first pair in
        let access = agree a b low both in
        let read = returned p x y from count short order ax r access.0 in
        let is = kept_is p x y from count short order ax r s read e in
        let was = ax.atomic a b read.whole low both read.source in
        let source = source_is x order ax.once a read.whole read.source in
        let one_word = word_trans x read.whole a b source.word access.2 in (
          gmo_before p x y from count short order s w
              ∙ subst (λ (z : ℕ). stands_before (gmo x order) z b ≡ true) is
              (up_to_then p x y from count short order ax read.kept read.whole b read.stands.up_to was.0),
          λ m stores word other after before. none_after read.whole read.kept b m read.stands one_word was.0
              (λ stored same later. was.1 (there from count m) stored same (sym (hart_same p x y from count short m w) ∙ other) later
              (sym (gmo_before p x y from count short order m w) ∙ before))
              (sym (store_same p x y from count short m) ∙ stores)
              (sym (word_same p x y from count short m w) ∙ word)
              (subst (λ (z : ℕ). stands_before (gmo x order) z (there from count m) ≡ true) (sym is)
              (sym (gmo_before p x y from count short order s m) ∙ after))
              (sym (gmo_before p x y from count short order m w) ∙ before),
        )

    -- ---- all axioms

    pub axioms_without : ObeysAxioms y p (order_without from count order)
    axioms_without = record {
      once = each_once_without p x y from count short order ax.once;
      preserved = preserved_without p x y from count short order ax;
      values = values_without p x y from count short order ax;
      atomic = atomic_without;
    }

  -- ---- the last words

  module _ (order : List ℕ) (ax : ObeysAxioms x p order) (location : ℕ) where
    to_location : (m : ℕ) → is_store_to y location m ≡ is_store_to x location (there from count m)
    to_location m = both_same _ _ _ _ (store_same p x y from count short m) (ap (λ o. is_same o (Some (address_of location))) (short.addresses m))

    last_here : (o : Option ℕ) → last_or None (filter (is_store_to y location) (order_without from count (gmo x order))) ≡ o
        → last_word y (order_without from count order) location ≡ unwrap_or (option_and_then (λ a. (operation y a).stored) o) 0
    last_here o e =
        ap (λ ns. unwrap_or (option_and_then (λ a. (operation y a).stored) (last_or None (filter (is_store_to y location) ns))) 0)
        (gmo_without p x y from count short order)
        ∙ ap (λ o. unwrap_or (option_and_then (λ a. (operation y a).stored) o) 0) e

    word_at : (o : Option ℕ) → last_or None (filter (is_store_to x location) (gmo x order)) ≡ o
        → unwrap_or (option_and_then (λ a. (operation x a).stored) o) 0 ≡ last_word y (order_without from count order) location
    word_at None e =
        sym (last_here None (none_without from count (is_store_to x location) (is_store_to y location) to_location (gmo x order)
        (gmo_once x order ax.once) e))
    word_at (Some s) e =
        let last = last_passes (is_store_to x location) (gmo x order) s e in
        let parts = and_parts _ _ last.1 in
        let at = same_parts (operation x s).address (Some (address_of location)) parts.1 in
        let stands = stands_for p x y from count short order ax s last.0 parts.0
        (same_from (operation x s).address (operation x s).address at.0 at.1 at.1) in
        let k = stands.0 in
        let there_k : is_store_to x location k ≡ true = and_from _ _ stands.1.stores
        (same_from (operation x k).address (Some (address_of location)) at.0
        (to_word (operation x k).address (operation x s).address at.0 stands.1.word at.1) at.2) in
        let last_k = last_without from count (is_store_to x location) (is_store_to y location) to_location (gmo x order)
        (gmo_once x order ax.once) s k e stands.1.has stands.1.kept there_k
        (λ m kept passes up_to.
        let access = and_parts _ _ passes in
        let to = same_parts (operation x m).address (Some (address_of location)) access.1 in
        stands.1.latest m kept access.0
        (same_from (operation x m).address (operation x s).address to.0 to.1 (at.1 ∙ sym at.2 ∙ to.2)) up_to) in
        sym (last_here (Some (back from count k)) last_k
        ∙ ap (λ o. unwrap_or o 0)
        (short.stores (back from count k) ∙ ap (λ n. (operation x n).stored) (there_back from count k stands.1.kept) ∙ stands.1.alike))
      where
        to_word : (o u : Option ℕ) (n : ℕ) → is_same o u ≡ true → u ≡ Some n → o ≡ Some n
        to_word o u n same e = let both = same_parts o u same in both.1 ∙ sym both.2 ∙ e

    pub words_without : last_word x order location ≡ last_word y (order_without from count order) location
    words_without = word_at (last_or None (filter (is_store_to x location) (gmo x order))) refl

-- runs of a test agree
pub runs_agree : (t : Test) (e : Execution) → length e.traces ≡ length t.codes
    → ((hart : ℕ) → hart < length t.codes → IsTrace t hart (steps_of e.traces hart)) → PairsAgree (pre_execution t e.traces)
runs_agree t e harts runs = pair_accesses t e.traces (record { harts = harts; runs = runs })

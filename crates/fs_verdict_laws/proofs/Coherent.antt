-- Coherence order of a raw candidate.
use Rattle.std.proofs.Common.{◌≡◌, ℕ, ◌<◌, ◌⊎◌, inl, inr, true, false, None, Some, [], length, sym, ◌∙◌, ap, subst, arith}
use Rattle.std.specs.List.{last_or}
use Rattle.std.proofs.lemmas.Bool.{cases_Bool}
use Rattle.fs_kinds.specs.declared.reason.OperationName.{OperationName as Name}
use Rattle.fs_model.specs.declared.test.Test.{Test}
use Rattle.fs_model.specs.Test.{address_of}
use Rattle.fs_model.specs.Numbers.{stands_before}
use Rattle.fs_model.specs.Operations.{PreExecution, operation, is_store, same_word, same_hart}
use Rattle.fs_model.specs.Shows.{is_store_to}
use Rattle.fs_model.specs.Witness.{name_of}
use Rattle.fs_model.proofs.OptionalNumbers.{same_parts, one_value}
use Rattle.fs_model.proofs.NumberOrders.{before_trans, not_itself}
use Rattle.fs_model.proofs.LastNumber.{last_in, last_latest}
use Rattle.fs_model.proofs.HartOperations.{has_name}
use Rattle.fs_cert_evidence.specs.Candidates.{Candidate, IsRaw, runs_of, co, stores_to}
use Rattle.fs_verdict_laws.proofs.Rules.{judged_co}
use Rattle.fs_verdict_laws.proofs.JudgedEdges.{edge_low}
use Rattle.fs_verdict_laws.proofs.Sourced.{co_is, co_from, co_total, in_stores, stores_in, store_to_parts, same_location, stores_once}
use Rattle.fs_cand.proofs.Distinct.{named}

pub harts_differ : (x : PreExecution) (a b : ℕ) (m n : Name) → name_of x a ≡ Some m → name_of x b ≡ Some n → (m.hart ≡ n.hart → ⊥) → same_hart x a b ≡ false
harts_differ x a b m n e k apart = elim (cases_Bool (same_hart x a b)) [
  | inr away ↦ away
  | inl near ↦ absurd (
      let same = same_parts (operation x a).hart (operation x b).hart near in
      let first = one_value (operation x a).hart m.hart same.0 (named x a m e).hart same.1 in
      let second = one_value (operation x b).hart n.hart same.0 (named x b n k).hart same.2 in
      apart (first ∙ sym second))
]

module _ (t : Test) (c : Candidate) (raw : IsRaw t c) where
  -- the initial store is before each other
  pub initial_first : (s b : ℕ) (name : Name) → is_store (runs_of t c) s ≡ true → is_store (runs_of t c) b ≡ true
      → same_word (runs_of t c) s b ≡ true → name_of (runs_of t c) s ≡ None → name_of (runs_of t c) b ≡ Some name → co c s b ≡ true
  initial_first s b name stores too same none some = elim (co_total t c raw s b stores too same) [
    | inl one ↦ absurd (let both : None ≡ Some name = sym none ∙ ap (name_of (runs_of t c)) one ∙ some in cc)
    | inr (inl forward) ↦ forward
    | inr (inr back) ↦ absurd (
        let has = has_name (runs_of t c) s (edge_low t [] c raw b s (judged_co t [] c b s back)) in
        let both : None ≡ Some has.0 = sym none ∙ has.1 in
        cc)
  ]

  pub co_trans : (a b d : ℕ) → co c a b ≡ true → co c b d ≡ true → co c a d ≡ true
  co_trans a b d first second =
      let one = co_is t c raw a b first in
      let two = co_is t c raw b d second in
      let same : two.location ≡ one.location = same_location two.location one.location
      (one_value (operation (runs_of t c) b).address (address_of two.location) (address_of one.location)
      (store_to_parts (runs_of t c) two.location b two.first).1 (store_to_parts (runs_of t c) one.location b one.second).1) in
      let many = raw.locations in
      let low = one.low in
      co_from c a d one.location (omega (arith, low, many))
      (before_trans (stores_to c one.location) a b d (stores_once t c raw one.location one.low) one.before
      (subst (λ (k : ℕ). stands_before (stores_to c k) b d ≡ true) same two.before))

  pub co_itself : (a : ℕ) → co c a a ≡ true → ⊥
  co_itself a h =
      let at = co_is t c raw a a h in not_itself (stores_to c at.location) a (stores_once t c raw at.location at.low) at.before

  pub co_not_both : (a b : ℕ) → co c a b ≡ true → co c b a ≡ true → ⊥
  co_not_both a b first second = co_itself a (co_trans a b a first second)

  -- each store to a location is the last one, or before it
  pub up_to_last : (k a b : ℕ) → k < length t.locations → last_or None (stores_to c k) ≡ Some a → is_store_to (runs_of t c) k b ≡ true
      → (b ≡ a) ⊎ (co c b a ≡ true)
  up_to_last k a b low last here =
      let many = raw.locations in
      elim (last_latest (stores_to c k) None a b (stores_once t c raw k low) last (in_stores t c raw k b low here)) [
        | inl one ↦ inl one
        | inr before ↦ inr (co_from c b a k (omega (arith, low, many)) before)
      ]

  -- the last one is before none
  pub last_before_none : (k a b : ℕ) → k < length t.locations → last_or None (stores_to c k) ≡ Some a → co c a b ≡ true → ⊥
  last_before_none k a b low last later =
      let at = co_is t c raw a b later in
      let there = stores_in t c raw k a low (last_in (stores_to c k) a last) in
      let same : at.location ≡ k = same_location at.location k
      (one_value (operation (runs_of t c) a).address (address_of at.location) (address_of k)
      (store_to_parts (runs_of t c) at.location a at.first).1 (store_to_parts (runs_of t c) k a there).1) in
      elim (up_to_last k a b low last (subst (λ (z : ℕ). is_store_to (runs_of t c) z b ≡ true) same at.second)) [
        | inl one ↦ co_itself a (subst (λ (z : ℕ). co c a z ≡ true) one later)
        | inr back ↦ co_not_both a b later back
      ]

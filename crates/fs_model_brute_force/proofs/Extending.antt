-- From the orders that begin with a list to those that begin with one number more.
use Rattle.std.proofs.Common.{◌≡◌, ℕ, ◌+◌, ◌-◌, ◌<◌, inl, inr, Bool, true, false, List, [], ◌∷◌, ◌++◌, length, take}
use Rattle.std.proofs.Common.{sym, ap, subst, ◌∙◌, arith, append_assoc}
use Rattle.std.proofs.lemmas.Bool.{cases_eq}
use Rattle.std.proofs.lemmas.List.{append-nil, length-append}
use Rattle.std.proofs.Math.Seq.{take-append_seam}
use Rattle.fs_kinds.specs.declared.placement.Entry.{Entry}
use Rattle.fs_model.specs.declared.test.Test.{Test}
use Rattle.fs_model.specs.Numbers.{has_number}
use Rattle.fs_model.specs.Operations.{accesses}
use Rattle.fs_model.specs.Execution.{pre_execution}
use Rattle.fs_hart.specs.declared.trace.Trace.{Trace}
use Rattle.fs_hart.specs.Steps.{steps_in}
use Rattle.fs_model_brute_force.specs.Allowing.{execution_of, ShowsFrom}
use Rattle.fs_model_brute_force.specs.Decisions.{Decides, ShowsOutcome}
use Rattle.fs_model.proofs.OnceListed.{once_long, is_below, is_new}

module _ (t : Test) (p : List Entry) (traces : List Trace) where
  -- the runs show it in this order
  abbrev pub Shown : List ℕ → Type 0
  Shown order = ShowsOutcome t p (execution_of traces order)

  -- no order shows it that goes on with a number below a
  abbrev pub NoneBelow : List ℕ → ℕ → Type 0
  NoneBelow order a = (b : ℕ) → b < a → ShowsFrom t p traces (order ++ b ∷ []) → ⊥

  -- the whole order is there
  pub whole_shows : (order : List ℕ) → Shown order → ShowsFrom t p traces order
  whole_shows order shown = ([], subst Shown (sym (append-nil order)) shown)

  pub whole_fails : (order : List ℕ) → length order ≡ length (accesses (pre_execution t (steps_in traces)))
      → (Shown order → ⊥) → ShowsFrom t p traces order → ⊥
  whole_fails order long fails shows = by_rest shows.0 shows.1
    where
      by_rest : (rest : List ℕ) → Shown (order ++ rest) → ⊥
      by_rest [] shown = fails (subst Shown (append-nil order) shown)
      by_rest (b ∷ rest) shown =
          let same = once_long (pre_execution t (steps_in traces)) (order ++ b ∷ rest) shown.0.axioms.once in
          omega (arith, long, same, length-append order (b ∷ rest))

  -- with a at the end it shows
  pub next_shows : (order : List ℕ) (a : ℕ) → ShowsFrom t p traces (order ++ a ∷ []) → ShowsFrom t p traces order
  next_shows order a shows = (a ∷ shows.0, subst Shown (append_assoc order (a ∷ []) shows.0) shows.1)

  -- the next number is below the count of operations, and isn't there yet
  module _ (order : List ℕ) (b : ℕ) (shows : ShowsFrom t p traces (order ++ b ∷ [])) where
    joined : Shown (order ++ b ∷ shows.0)
    joined = subst Shown (append_assoc order (b ∷ []) shows.0) shows.1

    next_below : b < length (accesses (pre_execution t (steps_in traces)))
    next_below = is_below (pre_execution t (steps_in traces)) order shows.0 b joined.0.axioms.once

    pub next_new : has_number order b ≡ true → ⊥
    next_new = is_new (pre_execution t (steps_in traces)) order shows.0 b joined.0.axioms.once

  pub none_more : (order : List ℕ) (a : ℕ) → NoneBelow order a → (ShowsFrom t p traces (order ++ a ∷ []) → ⊥)
      → NoneBelow order (a + 1)
  none_more order a none fails b low shows = elim (cases_eq b a) [
    | inl same ↦ fails (subst (λ c. ShowsFrom t p traces (order ++ c ∷ [])) same shows)
    | inr other ↦ none b (omega (arith, low, other)) shows
  ]

  -- no number is left
  pub none_shows : (order : List ℕ) (count : ℕ) → count ≡ length (accesses (pre_execution t (steps_in traces)))
      → (length order ≡ count → ⊥) → NoneBelow order count → ShowsFrom t p traces order → ⊥
  none_shows order count all short none shows = by_rest shows.0 shows.1
    where
      by_rest : (rest : List ℕ) → Shown (order ++ rest) → ⊥
      by_rest [] shown =
          let same = once_long (pre_execution t (steps_in traces)) (order ++ []) shown.0.axioms.once in
          short (ap length (sym (append-nil order)) ∙ same ∙ sym all)
      by_rest (b ∷ rest) shown =
          let next : ShowsFrom t p traces (order ++ b ∷ []) = (rest, subst Shown (sym (append_assoc order (b ∷ []) rest)) shown) in
          none b (omega (arith, all, next_below order b next)) next

-- x was put last
pub extended : {A : Type 0} (order before pushed longer : List A) (x y : A)
    → longer ≡ pushed → pushed ≡ before ++ x ∷ [] → before ≡ order → x ≡ y → longer ≡ order ++ y ∷ []
extended order before pushed longer x y e f g h = e ∙ f ∙ ap (λ xs. xs ++ x ∷ []) g ∙ ap (λ z. order ++ z ∷ []) h

-- what was put last is taken off
pub popped : {A : Type 0} (n : ℕ) (xs ys zs : List A) (x : A) → n ≡ length zs → zs ≡ xs ++ x ∷ [] → ys ≡ take (n - 1) zs → ys ≡ xs
popped n xs ys zs x size e f =
    let long : length zs ≡ length xs + 1 = ap length e ∙ length-append xs (x ∷ []) in
    let less : n - 1 ≡ length xs = omega arith in
    f ∙ ap (λ k. take k zs) less ∙ ap (take (length xs)) e ∙ take-append_seam xs (x ∷ [])

pub when_no : (answer : Bool) (P : Type 0) → answer ≡ false → Decides answer P → P → ⊥
when_no answer P is decides = subst (λ b. Decides b P) is decides

pub when_yes : (answer : Bool) (P : Type 0) → answer ≡ true → Decides answer P → P
when_yes answer P is decides = subst (λ b. Decides b P) is decides

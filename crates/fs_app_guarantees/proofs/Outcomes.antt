-- The outcome is allowed exactly where one of the final states makes it true.
use Rattle.std.proofs.Common.{◌≡◌, ◌∙◌, ap, ap₂, sym, refl, ℕ, ◌==◌, ◌&&◌, ◌||◌, not, List, map, ◌↔◌}
use Rattle.std.specs.List.{Contains, slice_index_or}
use Rattle.std.proofs.lemmas.List.{get_or-map}
use Rattle.fs_kinds.specs.declared.placement.Entry.{Entry}
use Rattle.fs_model.specs.declared.test.Test.{Test}
use Rattle.fs_model.specs.Allows.{Allows}
use Rattle.fs_model.specs.Condition.{Condition, condition_of, Always, Never, RegisterIs, LocationIs, Deny, Both, Either}
use Rattle.fs_model.specs.Execution.{pre_execution}
use Rattle.fs_model.specs.Shows.{holds, is_outcome, final_register, final_word}
use Rattle.fs_litmus.specs.Reads.{Reads}
use Rattle.fs_litmus.proofs.ReadsTest.{is_test}
use Rattle.fs_judge_outcomes.specs.declared.place.Place.{Place}
use Rattle.fs_judge_outcomes.specs.declared.place.Place.TheVariants.{Register, Location}
use Rattle.fs_judge_outcomes.specs.States.{AreStates, IsState, state_of, word_of}
use Rattle.fs_app_guarantees.specs.Headline.{IsRuledOut, StaysPossible}
use Rattle.fs_app_guarantees.specs.States.{NamesOnly, SomeMakesOutcome}
use Rattle.fs_app_guarantees.proofs.Meaning.{ruled_out, stays}

-- what has the same words at all elements has the same at each
same_at : {X : Type 0} (f g : X → ℕ) (xs : List X) (x : X) → map f xs ≡ map g xs → Contains xs x → f x ≡ g x
same_at f g xs x same there =
    let index = there.0 in
    sym (ap f there.2) ∙ sym (get_or-map f xs index x (f x) there.1)
    ∙ ap (λ ys. slice_index_or ys index (f x)) same
    ∙ get_or-map g xs index x (f x) there.1 ∙ ap g there.2

-- a condition is as true with other words that are the same at the places which it names
module _ (places : List Place) (register other : ℕ → ℕ → ℕ) (word another : ℕ → ℕ)
    (same : map (word_of register word) places ≡ map (word_of other another) places) where
  holds_alike : (c : Condition) → NamesOnly places c → holds register word c ≡ holds other another c
  holds_alike Always h = refl
  holds_alike Never h = refl
  holds_alike (RegisterIs hart reg w) h =
      ap (λ n. n == w) (same_at (word_of register word) (word_of other another) places (Register hart reg) same h)
  holds_alike (LocationIs location w) h =
      ap (λ n. n == w) (same_at (word_of register word) (word_of other another) places (Location location) same h)
  holds_alike (Deny c) h = ap not (holds_alike c h)
  holds_alike (Both c d) h = ap₂ (λ a b. a && b) (holds_alike c h.0) (holds_alike d h.1)
  holds_alike (Either c d) h = ap₂ (λ a b. a || b) (holds_alike c h.0) (holds_alike d h.1)

module _ (t : Test) (p : List Entry) (places : List Place) (states : List (List ℕ)) (are : AreStates t p places states) where
  listed : Allows t p → SomeMakesOutcome t places states
  listed allowed =
      let e = allowed.0 in
      let s = state_of t places e in (
        s,
        (are.exact s).1 (e, allowed.1.execution, refl),
        record {
          register = final_register t e.traces;
          word = final_word (pre_execution t e.traces) e.order;
          same = refl;
          outcome = allowed.1.outcome;
        },
      )

  shown : NamesOnly places (condition_of t.condition) → SomeMakesOutcome t places states → Allows t p
  shown names some =
      let made = some.2 in
      let is : IsState t p places some.0 = (are.exact some.0).0 some.1 in
      let e = is.0 in
      let alike = holds_alike places (final_register t e.traces) made.register (final_word (pre_execution t e.traces) e.order)
      made.word (is.2 ∙ sym made.same) (condition_of t.condition) names in
      (e, record { execution = is.1; outcome = ap (is_outcome t.quantifier) alike ∙ made.outcome })

pub allowed : (t : Test) (p : List Entry) (places : List Place) (states : List (List ℕ)) → AreStates t p places states
    → NamesOnly places (condition_of t.condition) → Allows t p ↔ SomeMakesOutcome t places states
allowed t p places states are names = (listed t p places states are, shown t p places states are names)

pub possible : (bytes : List ℕ) (t : Test) (p : List Entry) (places : List Place) (states : List (List ℕ)) → Reads bytes t
    → AreStates t p places states → NamesOnly places (condition_of t.condition)
    → (SomeMakesOutcome t places states → StaysPossible t p) × ((SomeMakesOutcome t places states → ⊥) → IsRuledOut t p)
possible bytes t p places states reads are names =
    let h = is_test bytes t reads in (
      λ some. stays t h p (shown t p places states are names some),
      λ none. ruled_out t h p (λ allows. none (listed t p places states are allows)),
    )

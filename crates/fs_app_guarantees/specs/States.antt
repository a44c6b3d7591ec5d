-- What the final states of a test tell of its outcome.
use Rattle.std.specs.Prelude.{◌≡◌, ℕ, true, List, map}
use Rattle.std.specs.List.{Contains}
use Rattle.fs_model.specs.declared.test.Test.{Test}
use Rattle.fs_model.specs.Condition.{Condition, condition_of, Always, Never, RegisterIs, LocationIs, Deny, Both, Either}
use Rattle.fs_model.specs.Shows.{holds, is_outcome}
use Rattle.fs_judge_outcomes.specs.declared.place.Place.{Place}
use Rattle.fs_judge_outcomes.specs.declared.place.Place.TheVariants.{Register, Location}
use Rattle.fs_judge_outcomes.specs.States.{word_of}

-- each place that the condition names is one of these
abbrev pub NamesOnly : List Place → Condition → Type 0
NamesOnly places Always = Unit {0}
NamesOnly places Never = Unit {0}
NamesOnly places (RegisterIs hart reg w) = Contains places (Register hart reg)
NamesOnly places (LocationIs location w) = Contains places (Location location)
NamesOnly places (Deny c) = NamesOnly places c
NamesOnly places (Both c d) = NamesOnly places c × NamesOnly places d
NamesOnly places (Either c d) = NamesOnly places c × NamesOnly places d

-- words of all registers and locations that are those of the state at the places make the outcome true
pub record MakesOutcome (t : Test) (places : List Place) (state : List ℕ) : Type 0 where
  pub register : ℕ → ℕ → ℕ
  pub word : ℕ → ℕ
  pub same : map (word_of register word) places ≡ state
  pub outcome : is_outcome t.quantifier (holds register word (condition_of t.condition)) ≡ true

-- one of the states does
abbrev pub SomeMakesOutcome : Test → List Place → List (List ℕ) → Type 0
SomeMakesOutcome t places states = (s : List ℕ) × Contains states s × MakesOutcome t places s

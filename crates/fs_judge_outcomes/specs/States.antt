-- The final states of a test with placed fences: which words its executions leave at places that are asked for. The
-- test's condition plays no part.
use Rattle.std.specs.Prelude.{◌≡◌, ◌↔◌, ◌⊎◌, ℕ, ◌<◌, List, All, length, map}
use Rattle.std.specs.List.{Contains}
use Rattle.std.specs.List.Sorted.{IsStrictlySortedBy}
use Rattle.std.specs.Ordering.{nat_cmp}
use Rattle.std.specs.Cmp.Lexicographic.{slice_cmp}
use Rattle.fs_kinds.specs.declared.fault.Fault.{Fault}
use Rattle.fs_kinds.specs.declared.fault.Fault.TheVariants.{TooManyCandidates}
use Rattle.fs_kinds.specs.declared.placement.Entry.{Entry}
use Rattle.fs_model.specs.declared.test.Test.{Test}
use Rattle.fs_model.specs.Execution.{Execution, IsExecution, pre_execution}
use Rattle.fs_model.specs.Shows.{final_register, final_word}
use Rattle.fs_model.specs.TooMany.{AreMoreThan, IsRunFault}
use Rattle.fs_model.specs.Witness.{IsOfWitness}
use Rattle.fs_cert_evidence.specs.CandidateFaults.{IsCandidateFault}
pub use Rattle.fs_judge_outcomes.specs.Limit.{most_states}
use Rattle.fs_judge_outcomes.specs.declared.place.Place.{Place}
use Rattle.fs_judge_outcomes.specs.declared.place.Place.TheVariants.{Register, Location}
use Rattle.fs_judge_outcomes.specs.declared.state.State.{State}

-- the word at a place, where register h r is the word of a register and word k that of a location
abbrev pub word_of : (ℕ → ℕ → ℕ) → (ℕ → ℕ) → Place → ℕ
word_of register word (Register hart reg) = register hart reg
word_of register word (Location location) = word location

-- the final word at a place
abbrev pub word_at : Test → Execution → Place → ℕ
word_at t e = word_of (final_register t e.traces) (final_word (pre_execution t e.traces) e.order)

-- the final words at the places, in their order
abbrev pub state_of : Test → List Place → Execution → List ℕ
state_of t places e = map (word_at t e) places

-- an execution of the test with these fences ends in this state
abbrev pub IsState : Test → List Entry → List Place → List ℕ → Type 0
IsState t p places s = (e : Execution) × IsExecution t p e × (state_of t places e ≡ s)

-- the states in which the test's executions with these fences end, each once; they rise by their words, those at the
-- first place before the others
pub record AreStates (t : Test) (p : List Entry) (places : List Place) (states : List (List ℕ)) : Type 0 where
  pub rising : IsStrictlySortedBy (slice_cmp nat_cmp) states
  pub exact : (s : List ℕ) → Contains states s ↔ IsState t p places s

-- its witness gives an execution of the test with these fences that ends in it
abbrev pub IsShownState : Test → List Entry → List Place → State → Type 0
IsShownState t p places state =
    (e : Execution) × IsOfWitness t state.witness.witness e × IsExecution t p e × (state_of t places e ≡ state.words)

-- the words of each state
abbrev pub words_of : List State → List (List ℕ)
words_of = map (λ state. state.words)

-- ---- what may be asked, and why there is no answer

-- it is a place of a test with so many harts and locations
abbrev pub IsPlaceOf : (harts locations : ℕ) → Place → Type 0
IsPlaceOf harts locations (Register hart reg) = (hart < harts) × (reg < 32)
IsPlaceOf harts locations (Location location) = location < locations

abbrev pub ArePlacesOf : Test → List Place → Type 0
ArePlacesOf t places = All (IsPlaceOf (length t.codes) (length t.locations)) places

-- no hart's runs have a fault, and there are more states than a list may have
abbrev pub HasTooManyStates : Test → List Entry → List Place → Type 0
HasTooManyStates t p places = ((f : Fault) → IsRunFault t f → ⊥) × AreMoreThan most_states (IsState t p places)

-- the fault of the test's runs and candidates, or too many states
abbrev pub IsStatesFault : Test → List Entry → List Place → Fault → Type 0
IsStatesFault t p places f = IsCandidateFault t f ⊎ ((f ≡ TooManyCandidates) × HasTooManyStates t p places)

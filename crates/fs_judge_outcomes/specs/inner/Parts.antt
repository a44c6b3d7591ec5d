-- Parts of the states that words at some of the places single out, and the test that asks for one of them.
use Rattle.std.specs.Prelude.{◌≡◌, ℕ, ◌<◌, ◌==◌, ◌⊎◌, Bool, true, false, not, ◌&&◌, Some, List, [], All, length, map, slice_get, Vec}
use Rattle.std.specs.BTreeMap.{BTreeMap}
use Rattle.std.specs.declared.alloc.Global.{Global}
use Rattle.std.specs.List.{Contains, list_all, list_any}
use Rattle.std.specs.List.Sorted.{IsStrictlySortedBy}
use Rattle.std.specs.Ordering.{nat_cmp}
use Rattle.std.specs.Cmp.Lexicographic.{slice_cmp}
use Rattle.fs_kinds.specs.declared.placement.Entry.{Entry}
use Rattle.fs_model.specs.declared.outcome.Outcome.{Outcome}
use Rattle.fs_model.specs.declared.test.Test.{Test}
use Rattle.fs_model.specs.declared.test.Quantifier.TheVariants.{Exists}
use Rattle.fs_model.specs.Condition.{condition_of}
use Rattle.fs_model.specs.Numbers.{is_same}
use Rattle.fs_model.specs.Shows.{holds}
use Rattle.fs_model.specs.Test.{IsBounded}
use Rattle.fs_model.specs.Allows.{Shows}
use Rattle.fs_model.specs.Execution.{Execution}
use Rattle.fs_model.specs.Witness.{Witness, IsOfWitness}
use Rattle.fs_cert_evidence.specs.Evidence.{Shown}
use Rattle.fs_judge_outcomes.specs.declared.part.Atom.{Atom}
use Rattle.fs_judge_outcomes.specs.declared.place.Place.{Place}
use Rattle.fs_judge_outcomes.specs.declared.state.State.{State}
use Rattle.fs_judge_outcomes.specs.States.{IsShownState, IsState, state_of, word_of, words_of}

-- the truth value, turned round where it isn't wanted
abbrev pub as_wanted : (wanted found : Bool) → Bool
as_wanted true found = found
as_wanted false found = not found

-- the atom is true of the state
abbrev pub is_so : List ℕ → Atom → Bool
is_so s atom = as_wanted atom.is (is_same (slice_get s atom.index) (Some atom.word))

-- the state is in the part: each atom is true of it
abbrev pub is_in : List Atom → List ℕ → Bool
is_in part s = list_all (is_so s) part

-- the atom says which word the place of this number has
abbrev pub is_fixing : ℕ → Atom → Bool
is_fixing index atom = atom.is && (atom.index == index)

-- no atom of the part does
abbrev pub is_open_at : List Atom → ℕ → Bool
is_open_at part index = not (list_any (is_fixing index) part)

-- its atoms are on the first so many places
abbrev pub IsPartOf : ℕ → List Atom → Type 0
IsPartOf places part = All (λ atom. atom.index < places) part

-- it speaks of the place of this number
abbrev pub is_at : ℕ → Atom → Bool
is_at index atom = atom.index == index

abbrev pub is_same_atom : Atom → Atom → Bool
is_same_atom one other = (one.index == other.index) && (one.word == other.word) && as_wanted one.is other.is

-- the part says all that the wider one says
abbrev pub is_within : (part wider : List Atom) → Bool
is_within part wider = list_all (λ atom. list_any (is_same_atom atom) part) wider

-- the test, asking for a state in which this condition is true
abbrev pub with_condition : Outcome → Test → Test
with_condition condition t = record t { quantifier = Exists; condition = condition }

-- it is such a test, whose condition is true where the state is in the part
pub record AsksFor (t : Test) (places : List Place) (part : List Atom) (asked : Test) : Type 0 where
  pub condition : Outcome
  pub same : asked ≡ with_condition condition t
  pub bounded : IsBounded asked
  pub holds :
      (register : ℕ → ℕ → ℕ) (word : ℕ → ℕ)
      → holds register word (condition_of condition) ≡ is_in part (map (word_of register word) places)

-- ---- witnesses

-- the witness gives an execution that shows the outcome with these fences and ends in the state
abbrev pub EndsIn : Test → List Entry → List Place → Witness → List ℕ → Type 0
EndsIn t p places w s = (e : Execution) × IsOfWitness t w e × Shows t p e × (state_of t places e ≡ s)

-- the execution of the state's witness does so, and the state is in the part
abbrev pub EndsWithin : Test → List Entry → List Place → List Atom → State → Type 0
EndsWithin t p places part state = EndsIn t p places state.witness.witness state.words × (is_in part state.words ≡ true)

-- its execution ends in it, and it is in the part
abbrev pub IsFoundIn : Test → List Entry → List Place → List Atom → State → Type 0
IsFoundIn t p places part state = IsShownState t p places state × (is_in part state.words ≡ true)

-- ---- listings

-- the states of a map by their words
abbrev pub state_in : Vec ℕ Global × Shown → State
state_in entry = record { words = entry.0.items; witness = entry.1 }

abbrev pub states_in : BTreeMap (Vec ℕ Global) Shown → List State
states_in known = map state_in known.entries

-- some part has the state
abbrev pub IsLeft : List (List Atom) → List ℕ → Type 0
IsLeft parts s = list_any (λ part. is_in part s) parts ≡ true

-- how far a listing is: each state is known or in one of the parts that are left, and those that are known are shown
pub record IsListed (t : Test) (p : List Entry) (places : List Place) (known : List State) (parts : List (List Atom))
    : Type 0 where
  pub rising : IsStrictlySortedBy (slice_cmp nat_cmp) (words_of known)
  pub shown : All (IsShownState t p places) known
  pub asked : All (IsPartOf (length places)) parts
  pub covered : (s : List ℕ) → IsState t p places s → Contains (words_of known) s ⊎ IsLeft parts s

-- no state is in any of these parts
abbrev pub AreBarren : Test → List Entry → List Place → List (List Atom) → Type 0
AreBarren t p places parts = (s : List ℕ) → IsState t p places s → IsLeft parts s → ⊥

-- what is learned: the test that asks for any state, and parts that have none
pub record IsLore (t : Test) (p : List Entry) (places : List Place) (whole : Test) (barren : List (List Atom)) : Type 0
  where
    pub asks : AsksFor t places [] whole
    pub none : AreBarren t p places barren

-- what follows when a part is split by a state in it: its states are this one, or left
pub record SplitsBy (part : List Atom) (state : List ℕ) (old new : List (List Atom)) : Type 0 where
  pub kept : (s : List ℕ) → IsLeft old s → IsLeft new s
  pub halves : (s : List ℕ) → length s ≡ length state → is_in part s ≡ true → (s ≡ state) ⊎ IsLeft new s
  pub parts : All (IsPartOf (length state)) old → All (IsPartOf (length state)) new

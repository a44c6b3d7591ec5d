-- No object of states has a float.
use Rattle.std.proofs.Common.{◌≡◌, Bool, true, false, List, [], ◌∷◌, map, refl}
use Rattle.serde_json.specs.Data.{Data}
use Rattle.serde_json.specs.Written.{has_float, items_have_float}
use Rattle.fs_cert_evidence.specs.Texts.{items_of}
use Rattle.fs_kinds.specs.declared.placement.Entry.{Entry}
use Rattle.fs_model.specs.declared.test.Location as locations
use Rattle.fs_model.specs.declared.test.Test.{Test}
use Rattle.fs_report.proofs.Depths.{no_float}
use Rattle.fs_judge_outcomes.specs.declared.state.State.{State}
use Rattle.fs_app_states.specs.declared.columns.Column.{Column}
use Rattle.fs_app_states.specs.Objects.{execution_value, place_value, state_value, states_value, word_value}

items_whole : {A : Type 0} (f : A → Data) → ((x : A) → has_float (f x) ≡ false) → (xs : List A) → items_have_float (items_of (map f xs)) ≡ false
items_whole f h [] = refl
items_whole f h (x ∷ xs) = rw (h x, items_whole f h xs) refl

state_whole : (here : List locations.Location) (state : State) → has_float (state_value here state) ≡ false
state_whole here state = items_whole (word_value here) (λ w. refl) state.words

pub states_whole : (t : Test) (p : List Entry) (columns : List Column) (witnesses : Bool) (states : List State)
    → has_float (states_value t p columns witnesses states) ≡ false
states_whole t p columns false states =
    rw (items_whole place_value (λ c. refl) columns, items_whole (state_value t.locations) (state_whole t.locations) states) refl
states_whole t p columns true states =
    rw (items_whole place_value (λ c. refl) columns, items_whole (state_value t.locations) (state_whole t.locations) states, items_whole execution_value (λ s. no_float s.witness.witness) states) refl

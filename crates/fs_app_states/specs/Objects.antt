-- What `states` prints of a test file as JSON, with the keys in the order of their bytes.
use Rattle.std.specs.Prelude.{ℕ, Bool, true, false, List, [], ◌∷◌, map, codes, if◌then◌else◌}
use Rattle.serde_json.specs.Data.{Data, boolean, object, string}
use Rattle.fs_cert_evidence.specs.Texts.{array_of, members_of, number, witness_value}
use Rattle.fs_kinds.specs.declared.placement.Entry.{Entry}
use Rattle.fs_model.specs.declared.test.Location as locations
use Rattle.fs_model.specs.declared.test.Test.{Test}
use Rattle.fs_model.specs.Condition.{condition_of}
use Rattle.fs_model.specs.Printed.{value_text}
use Rattle.fs_report.specs.Objects.{json_line}
use Rattle.fs_judge_outcomes.specs.declared.state.State.{State}
use Rattle.fs_app_states.specs.declared.asked.Shown.{Shown}
use Rattle.fs_app_states.specs.declared.columns.Column.{Column}
use Rattle.fs_app_states.specs.Report.{condition_line, is_met, negative, observation_word, positive, quantifier_word, states_text}

-- a word as it stands in lines: the name of the location whose address it is, or else a decimal
abbrev pub word_value : List locations.Location → ℕ → Data
word_value locations word = string (value_text locations word)

-- the words of a state, in the order of the places
abbrev pub state_value : List locations.Location → State → Data
state_value locations state = array_of (map (word_value locations) state.words)

abbrev pub place_value : Column → Data
place_value column = string column.name

abbrev pub execution_value : State → Data
execution_value state = witness_value state.witness.witness

-- the executions, in the order of the states, where they are asked for
abbrev pub witness_members : (witnesses : Bool) → List State → List (List ℕ × Data)
witness_members false states = []
witness_members true states = (codes "witnesses", array_of (map execution_value states)) ∷ []

-- where so many states make the condition true, and so many false
abbrev pub counted_members : Test → (condition : List ℕ) → (positive negative : ℕ) → (places states : Data) → List (List ℕ × Data) → List (List ℕ × Data)
counted_members t condition positive negative places states last =
    (codes "condition", string condition)
    ∷ (codes "kind", string (quantifier_word t.quantifier))
    ∷ (codes "negative", number negative)
    ∷ (codes "observation", string (observation_word positive negative))
    ∷ (codes "ok", boolean (is_met t.quantifier positive negative))
    ∷ (codes "places", places)
    ∷ (codes "positive", number positive)
    ∷ (codes "states", states)
    ∷ (codes "test", string t.name)
    ∷ last

abbrev pub states_value : Test → List Entry → List Column → (witnesses : Bool) → List State → Data
states_value t p columns witnesses states = object (members_of (
    counted_members t (condition_line t p)
    (positive columns (condition_of t.condition) states) (negative columns (condition_of t.condition) states)
    (array_of (map place_value columns)) (array_of (map (state_value t.locations) states)) (witness_members witnesses states)))

-- the lines, or the object in a line
abbrev pub shown_text : Test → List Entry → List Column → Shown → List State → List ℕ
shown_text t p columns asked states =
    if asked.json then json_line (states_value t p columns asked.witnesses states)
    else states_text t p columns asked.witnesses states

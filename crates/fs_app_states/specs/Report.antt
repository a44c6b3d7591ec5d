-- What `states` prints of a test file, in herd7's form, the test's name as messages show it.
use Rattle.std.specs.Prelude.{ℕ, ◌==◌, Bool, true, not, filter, option_map, unwrap_or, List, [], ◌∷◌, ◌++◌, length, count_by, codes, if◌then◌else◌}
use Rattle.std.specs.Fmt.{decimal}
use Rattle.std.specs.List.{flat_map}
use Rattle.std.specs.Path.{rsplit_once}
use Rattle.fs_cert_evidence.specs.Texts.{witness_text}
use Rattle.fs_kinds.specs.declared.placement.Entry.{Entry}
use Rattle.fs_model.specs.declared.test.Test.{Test}
use Rattle.fs_model.specs.declared.test.Location as locations
use Rattle.fs_model.specs.declared.test.Quantifier.{Quantifier}
use Rattle.fs_model.specs.declared.test.Quantifier.TheVariants.{Exists, NotExists, Forall}
use Rattle.fs_model.specs.Condition.{Condition, condition_of, Both, Either, Deny}
use Rattle.fs_model.specs.Fenced.{fenced}
use Rattle.fs_model.specs.Printed.{ended, printed}
use Rattle.fs_model.specs.Shows.{holds}
use Rattle.fs_app_error_messages.specs.Messages.{name_text}
use Rattle.fs_judge_outcomes.specs.declared.place.Place.{Place}
use Rattle.fs_judge_outcomes.specs.declared.place.Place.TheVariants.{Register, Location}
use Rattle.fs_judge_outcomes.specs.declared.state.State.{State}
use Rattle.fs_app_states.specs.declared.columns.Column.{Column}
use Rattle.fs_app_states.specs.Names.{state_line}
use Rattle.fs_app_states.specs.Places.{is_place}

-- ---- what the condition says of a state

-- the word at the place
abbrev pub word_in : List Column → (words : List ℕ) → Place → ℕ
word_in [] words place = 0
word_in (column ∷ columns) [] place = 0
word_in (column ∷ columns) (word ∷ words) place =
    if is_place column.place place then word else word_in columns words place

-- the condition, without its quantifier, is true of the state
abbrev pub is_true : List Column → Condition → (words : List ℕ) → Bool
is_true columns c words =
    holds (λ hart reg. word_in columns words (Register hart reg)) (λ location. word_in columns words (Location location)) c

-- a state counts by the condition: the left side of (G) /\ (C), or of (G) => (C), which is ~(G) \/ (C), is true of it
abbrev pub counts : List Column → Condition → (words : List ℕ) → Bool
counts columns (Both g c) words = is_true columns g words
counts columns (Either (Deny g) c) words = is_true columns g words
counts columns _ words = true

-- the states that count: all, unless the condition is guarded
abbrev pub counted : List Column → Condition → (is_guarded : Bool) → List State → List State
counted columns c is_guarded states = if is_guarded then filter (λ state. counts columns c state.words) states else states

-- how many states make it true
abbrev pub positive : List Column → Condition → List State → ℕ
positive columns c states = count_by (λ state. is_true columns c state.words) states

-- and how many make it false
abbrev pub negative : List Column → Condition → List State → ℕ
negative columns c states = count_by (λ state. not (is_true columns c state.words)) states

-- ---- words for it

abbrev pub quantifier_word : Quantifier → List ℕ
quantifier_word Exists = codes "Allowed"
quantifier_word NotExists = codes "Forbidden"
quantifier_word Forall = codes "Required"

-- the condition with its quantifier is true of so many states that make it true without, and so many that don't
abbrev pub is_met : Quantifier → (positive negative : ℕ) → Bool
is_met Exists positive negative = not (positive == 0)
is_met NotExists positive negative = positive == 0
is_met Forall positive negative = negative == 0

abbrev pub met_word : Bool → List ℕ
met_word met = if met then codes "Ok" else codes "No"

abbrev pub observation_word : (positive negative : ℕ) → List ℕ
observation_word positive negative =
    if positive == 0 then codes "Never" else (if negative == 0 then codes "Always" else codes "Sometimes")

-- what stands before the last LF of a text, and behind it
abbrev pub before_break : List ℕ → List ℕ
before_break text = unwrap_or (option_map (λ parts. parts.0) (rsplit_once 10 text)) text

abbrev pub behind_break : List ℕ → List ℕ
behind_break text = unwrap_or (option_map (λ parts. parts.1) (rsplit_once 10 text)) text

-- the quantifier and the condition, as they stand in the last line of what `place` prints
abbrev pub condition_line : Test → List Entry → List ℕ
condition_line t p = behind_break (before_break (printed (fenced t p)))

-- ---- the lines

abbrev pub title_lines : Test → (states : ℕ) → List ℕ
title_lines t states =
    codes "Test " ++ (name_text t.name ++ (codes " " ++ (quantifier_word t.quantifier ++ (codes "\nStates " ++ (decimal states ++ codes "\n")))))

-- the execution, as the JSON text of a witness, where it is asked for
abbrev pub witness_line : (witnesses : Bool) → State → List ℕ
witness_line witnesses state = if witnesses then ended (witness_text state.witness.witness) else []

abbrev pub state_lines : List locations.Location → List Column → (witnesses : Bool) → State → List ℕ
state_lines locations columns witnesses state = state_line locations columns state.words ++ witness_line witnesses state

abbrev pub counts_lines : Quantifier → (positive negative : ℕ) → List ℕ
counts_lines q positive negative =
    met_word (is_met q positive negative) ++ (codes "\nWitnesses\nPositive: " ++ (decimal positive ++ (codes " Negative: " ++ (decimal negative ++ codes "\n"))))

-- the condition, the verdict on it in words, and a blank line
abbrev pub last_lines : Test → List Entry → (positive negative : ℕ) → List ℕ
last_lines t p positive negative =
    codes "Condition " ++ (condition_line t p ++ (codes "\nObservation " ++ (name_text t.name ++ (codes " "
    ++ (observation_word positive negative ++ (codes " " ++ (decimal positive ++ (codes " " ++ (decimal negative ++ codes "\n\n")))))))))

abbrev pub listing_lines : Test → List Column → (witnesses : Bool) → List State → List ℕ
listing_lines t columns witnesses states =
    title_lines t (length states) ++ flat_map (state_lines t.locations columns witnesses) states

abbrev pub counted_lines : Test → List Entry → (positive negative : ℕ) → List ℕ
counted_lines t p positive negative = counts_lines t.quantifier positive negative ++ last_lines t p positive negative

abbrev pub verdict_lines : Test → List Entry → List Column → List State → List ℕ
verdict_lines t p columns states =
    counted_lines t p (positive columns (condition_of t.condition) states) (negative columns (condition_of t.condition) states)

abbrev pub states_text : Test → List Entry → List Column → (witnesses : Bool) → List State → List ℕ
states_text t p columns witnesses states = listing_lines t columns witnesses states ++ verdict_lines t p columns states

-- What `states` answers of a test file, and its fault.
use Rattle.std.specs.Prelude.{◌≡◌, ℕ, None, Some, List, All, map}
use Rattle.fs_kinds.specs.declared.fault.Fault.{Fault}
use Rattle.fs_kinds.specs.declared.fault.Fault.TheVariants.{BadFence, Memory}
use Rattle.fs_kinds.specs.declared.placement.Entry.{Entry}
use Rattle.fs_litmus.specs.Faults.{IsTestFault}
use Rattle.fs_litmus.specs.Reads.{Reads}
use Rattle.fs_model.specs.declared.test.Test.{Test}
use Rattle.fs_model.specs.Condition.{condition_of}
use Rattle.fs_model.specs.Execution.{Execution, pre_execution}
use Rattle.fs_model.specs.Placed.{IsPlaced}
use Rattle.fs_model.specs.Shows.{holds, final_register, final_word}
use Rattle.fs_model.specs.Slots.{slots}
use Rattle.fs_app_place_and_order.specs.Place.{IsBadFences}
use Rattle.fs_judge_outcomes.specs.declared.place.Place.{Place}
use Rattle.fs_judge_outcomes.specs.declared.state.State.{State}
use Rattle.fs_judge_outcomes.specs.States.{AreStates, IsShownState, IsStatesFault, state_of, words_of}
use Rattle.fs_app_states.specs.declared.asked.Shown.{Shown}
use Rattle.fs_app_states.specs.declared.columns.Column.{Column}
use Rattle.fs_app_states.specs.Places.{AreColumns, IsColumnsFault}
use Rattle.fs_app_states.specs.Objects.{shown_text}
use Rattle.fs_app_states.specs.Report.{counted, is_true}

abbrev pub places_of : List Column → List Place
places_of = map (λ column. column.place)

-- The bytes read as a test, the words as a placement of its slots, and the text is of the states of the test with
-- these fences that count; of each there is an execution that ends in it.
pub record IsStatesText (test : List ℕ) (fences : List (List ℕ)) (asked : Shown) (text : List ℕ) : Type 0 where
  pub the_test : Test
  pub reads : Reads test the_test
  pub placement : List Entry
  pub placed : IsPlaced None (slots the_test) fences (Some placement)
  pub columns : List Column
  pub are_columns : AreColumns test the_test asked.all columns
  pub states : List State
  pub are_states : AreStates the_test placement (places_of columns) (words_of states)
  pub shown : All (IsShownState the_test placement (places_of columns)) states
  -- what the condition says of a state, it says of each execution that ends in it
  pub meant : (e : Execution) → is_true columns (condition_of the_test.condition) (state_of the_test (places_of columns) e)
      ≡ holds (final_register the_test e.traces) (final_word (pre_execution the_test e.traces) e.order) (condition_of the_test.condition)
  pub is_text : text ≡ shown_text the_test placement columns asked (counted columns (condition_of the_test.condition) asked.guarded states)

-- The first fault: of the test; else of `locations`; else of the words; else of its runs, its candidates or its states.
-- Want of memory may come in place of any answer.
pub data IsFirstStatesFault (test : List ℕ) (fences : List (List ℕ)) (asked : Shown) : Fault → Type 0 where
  of_test : {fault : Fault} → IsTestFault test fault → IsFirstStatesFault test fences asked fault
  of_locations : {fault : Fault} (t : Test) → Reads test t → IsColumnsFault test t fault → IsFirstStatesFault test fences asked fault
  of_fences : (t : Test) (columns : List Column) → Reads test t → AreColumns test t asked.all columns → IsBadFences None t fences
      → IsFirstStatesFault test fences asked BadFence
  of_states : {fault : Fault} (t : Test) (p : List Entry) (columns : List Column) → Reads test t → IsPlaced None (slots t) fences (Some p)
      → AreColumns test t asked.all columns → IsStatesFault t p (places_of columns) fault → IsFirstStatesFault test fences asked fault
  of_memory : IsFirstStatesFault test fences asked Memory

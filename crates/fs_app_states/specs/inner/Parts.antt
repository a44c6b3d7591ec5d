-- A part of what `states` answers.
use Rattle.std.specs.Prelude.{◌≡◌, ℕ, List, All}
use Rattle.fs_kinds.specs.declared.placement.Entry.{Entry}
use Rattle.fs_model.specs.declared.test.Test.{Test}
use Rattle.fs_judge_outcomes.specs.declared.state.State.{State}
use Rattle.fs_judge_outcomes.specs.States.{AreStates, IsShownState, words_of}
use Rattle.fs_app_states.specs.declared.asked.Shown.{Shown}
use Rattle.fs_app_states.specs.declared.columns.Column.{Column}
use Rattle.fs_model.specs.Condition.{condition_of}
use Rattle.fs_app_states.specs.Objects.{shown_text}
use Rattle.fs_app_states.specs.Report.{counted}
use Rattle.fs_app_states.specs.Shown.{places_of}

-- The text is of the states of the test with these fences that count; of each there is an execution that ends in it.
pub record IsOfStates (t : Test) (p : List Entry) (columns : List Column) (asked : Shown) (text : List ℕ) : Type 0 where
  pub states : List State
  pub are_states : AreStates t p (places_of columns) (words_of states)
  pub shown : All (IsShownState t p (places_of columns)) states
  pub is_text : text ≡ shown_text t p columns asked (counted columns (condition_of t.condition) asked.guarded states)

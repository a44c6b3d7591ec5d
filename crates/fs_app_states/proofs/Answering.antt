-- What is answered of a file that reads as a test, and which fault comes first.
use Rattle.std.proofs.Common.{◌≡◌, ◌≢◌, ◌⊎◌, inl, inr, ℕ, List, Some, None, sym, subst}
use Rattle.fs_kinds.specs.declared.fault.Fault.{Fault}
use Rattle.fs_kinds.specs.declared.fault.Fault.TheVariants.{Memory, BadFence}
use Rattle.fs_kinds.specs.declared.placement.Entry.{Entry}
use Rattle.fs_litmus.specs.Faults.{IsTestFault}
use Rattle.fs_litmus.specs.Reads.{Reads}
use Rattle.fs_model.specs.declared.test.Test.{Test}
use Rattle.fs_model.specs.Placed.{IsPlaced}
use Rattle.fs_model.specs.Slots.{slots}
use Rattle.fs_model.specs.Test.{IsBounded}
use Rattle.fs_app_place_and_order.specs.Place.{IsBadFences}
use Rattle.fs_app_place_and_order.proofs.Faults.{is_memory}
use Rattle.fs_judge_outcomes.specs.States.{IsStatesFault, word_at}
use Rattle.fs_app_states.specs.declared.asked.Shown.{Shown}
use Rattle.fs_app_states.specs.declared.columns.Column.{Column}
use Rattle.fs_app_states.specs.Places.{AreColumns, IsColumnsFault}
use Rattle.fs_app_states.specs.Shown.{places_of, IsStatesText, IsFirstStatesFault, of_test, of_locations, of_fences, of_states, of_memory}
use Rattle.fs_app_states.specs.inner.Parts.{IsOfStates}
use Rattle.fs_app_states.proofs.Meaning.{condition_meant}

module _ (test : List ℕ) (fences : List (List ℕ)) (asked : Shown) where
  first-memory : (f : Fault) → f ≡ Memory → IsFirstStatesFault test fences asked f
  first-memory f e = subst (IsFirstStatesFault test fences asked) (sym e) of_memory

  pub first-test : (f : Fault) → (f ≢ Memory → IsTestFault test f) → IsFirstStatesFault test fences asked f
  first-test f h = elim (is_memory f) [ inl e ↦ first-memory f e | inr n ↦ of_test (h n) ]

  pub first-locations : (f : Fault) (t : Test) → Reads test t → (f ≢ Memory → IsColumnsFault test t f) → IsFirstStatesFault test fences asked f
  first-locations f t reads h = elim (is_memory f) [ inl e ↦ first-memory f e | inr n ↦ of_locations t reads (h n) ]

  pub first-fences : (f : Fault) (t : Test) (columns : List Column) → Reads test t → AreColumns test t asked.all columns
      → (f ≡ BadFence → IsBadFences None t fences) → (f ≡ BadFence) ⊎ (f ≡ Memory) → IsFirstStatesFault test fences asked f
  first-fences f t columns reads are bad other =
      elim other [
        | inl e ↦ subst (IsFirstStatesFault test fences asked) (sym e) (of_fences t columns reads are (bad e))
        | inr e ↦ first-memory f e
      ]

  pub first-states : (f : Fault) (t : Test) (p : List Entry) (columns : List Column) → Reads test t → IsPlaced None (slots t) fences (Some p)
      → AreColumns test t asked.all columns → (f ≢ Memory → IsStatesFault t p (places_of columns) f) → IsFirstStatesFault test fences asked f
  first-states f t p columns reads placed are h =
      elim (is_memory f) [ inl e ↦ first-memory f e | inr n ↦ of_states t p columns reads placed are (h n) ]

  pub told : (text : List ℕ) (t : Test) (p : List Entry) (columns : List Column) → Reads test t → IsBounded t
      → IsPlaced None (slots t) fences (Some p) → AreColumns test t asked.all columns → IsOfStates t p columns asked text
      → IsStatesText test fences asked text
  told text t p columns reads bounded placed are of = record {
    the_test = t;
    reads = reads;
    placement = p;
    placed = placed;
    columns = columns;
    are_columns = are;
    states = of.states;
    are_states = of.are_states;
    shown = of.shown;
    meant = λ e. condition_meant test t asked.all columns are bounded.atoms (word_at t e);
    is_text = of.is_text;
  }

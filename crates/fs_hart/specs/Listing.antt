-- The choice lists of a hart in which each load takes a word of its location's set, as far as they end: in a whole run,
-- or at an instruction that accesses no location. They are in choice order.
use Rattle.std.specs.Prelude.{◌≡◌, ℕ, ◌≤◌, Option, None, Some, List, [], map, length, All}
use Rattle.std.specs.List.{AllPairs, Contains, slice_index_or}
use Rattle.fs_kinds.specs.declared.fault.Fault.{Fault}
use Rattle.fs_kinds.specs.declared.fault.Fault.TheVariants as fault
use Rattle.fs_model.specs.declared.test.Test.{Test}
use Rattle.fs_model.specs.declared.step.Step.{Step}
use Rattle.fs_model.specs.declared.step.Choice.{Choice}
use Rattle.fs_model.specs.declared.step.Stop.TheVariants.{Astray}
use Rattle.fs_model.specs.Choices.{choices_of, ComesBefore, IsStopped}
use Rattle.fs_model.specs.Execution.{code_of, registers_of}
use Rattle.fs_model.specs.Values.{LoadsFrom}
use Rattle.fs_model.specs.Witness.{Chooses}
use Rattle.fs_model.specs.TooMany.{IsHartFault, most_choice_lists}
use Rattle.fs_hart.specs.declared.trace.Trace.{Trace}
use Rattle.fs_hart.specs.Runs.{registers_after}

-- ---- ends

-- the steps that a choice list makes, and the position of the instruction that then goes astray, if one does
pub record End : Type 0 where
  pub steps : List Step
  pub astray : Option ℕ

-- the word is one of the set of location k
abbrev pub IsOffered : List (List ℕ) → ℕ → ℕ → Type 0
IsOffered sets k word = Contains (slice_index_or sets k []) word

-- the choices make these steps, and all of them are used up in a whole run or where the run goes astray
abbrev pub EndsSo : Test → ℕ → List Choice → List Step → Option ℕ → Type 0
EndsSo t hart choices steps None = Chooses t hart choices steps
EndsSo t hart choices steps (Some at) =
    IsStopped (length t.locations) (code_of t hart) (registers_of t hart) choices steps (Astray at)

-- the end of a choice list over the sets: the list is that of its steps' choices
pub record IsEnd (t : Test) (hart : ℕ) (sets : List (List ℕ)) (e : End) : Type 0 where
  pub ends : EndsSo t hart (choices_of e.steps) e.steps e.astray
  pub offered : LoadsFrom (IsOffered sets) e.steps

abbrev pub IsEarlier : End → End → Type 0
IsEarlier a b = ComesBefore (choices_of a.steps) (choices_of b.steps)

-- ends of different choice lists, in choice order
pub record AreEnds (t : Test) (hart : ℕ) (sets : List (List ℕ)) (ends : List End) : Type 0 where
  pub each : All (IsEnd t hart sets) ends
  pub rising : AllPairs IsEarlier ends

-- all ends, each once, in choice order
pub record IsListing (t : Test) (hart : ℕ) (sets : List (List ℕ)) (ends : List End) : Type 0 where
  pub different : AreEnds t hart sets ends
  pub all : (e : End) → IsEnd t hart sets e → Contains ends e

-- ---- what the walk over all choice lists gives

abbrev pub trace_at : Test → ℕ → End → Trace
trace_at t hart e = record { steps = e.steps; registers = registers_after t hart e.steps }

-- no choice list goes astray, and these are the whole runs, in choice order
pub record AreTraces (t : Test) (hart : ℕ) (sets : List (List ℕ)) (traces : List Trace) : Type 0 where
  pub ends : List End
  pub listing : IsListing t hart sets ends
  pub few : length ends ≤ most_choice_lists
  pub whole : All (λ e. e.astray ≡ None) ends
  pub runs : traces ≡ map (trace_at t hart) ends

-- why there are no traces: a fault of the hart over the sets, or want of memory
abbrev pub IsTraceFault : Test → ℕ → List (List ℕ) → Fault → Type 0
IsTraceFault t hart sets fault.Memory = Unit {0}
IsTraceFault t hart sets other = IsHartFault t (IsOffered sets) hart other

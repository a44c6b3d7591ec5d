-- The walk over the choice lists of a hart, from any state on its way.
use Rattle.std.specs.Prelude.{◌≡◌, ℕ, ◌+◌, ◌<◌, ◌≤◌, ◌⊎◌, Bool, true, false, filter, is_none, Option}
use Rattle.std.specs.Prelude.{None, Some, option_and_then, if◌then◌else◌, List, [], ◌∷◌, ◌++◌, map, length, slice_get, All}
use Rattle.std.specs.List.{slice_index_or}
use Rattle.std.specs.Option.{option_or}
use Rattle.fs_kinds.specs.declared.fault.Fault.{Fault}
use Rattle.fs_kinds.specs.declared.fault.Fault.TheVariants.{TooManyTraces, Memory}
use Rattle.fs_instr.specs.declared.instr.Instr.{Instr}
use Rattle.fs_model.specs.Test.{location_of}
use Rattle.fs_model.specs.declared.test.Test.{Test}
use Rattle.fs_model.specs.declared.hart.Hart.{Hart}
use Rattle.fs_model.specs.declared.step.Step.{Step}
use Rattle.fs_model.specs.declared.step.Choice.{Choice}
use Rattle.fs_model.specs.declared.step.Choice.TheVariants.{Word, Success, Failure}
use Rattle.fs_model.specs.Forms.{is_loading, is_sc}
use Rattle.fs_model.specs.Execute.{address_in}
use Rattle.fs_model.specs.Trace.{AreSteps, after_step, hart_after}
use Rattle.fs_model.specs.Choices.{GoesAstray, Makes, is_choosing}
use Rattle.fs_model.specs.Execution.{code_of}
use Rattle.fs_model.specs.Values.{LoadsFrom}
use Rattle.fs_model.specs.TooMany.{most_choice_lists}
use Rattle.fs_hart.specs.declared.trace.Trace.{Trace}
use Rattle.fs_hart.specs.declared.walk.Walk.{Walk}
use Rattle.fs_hart.specs.Listing.{End, IsOffered, IsEarlier, trace_at}

-- ---- the choices that a hart has at an instruction

-- the words of the location of this number
abbrev pub set_of : List (List ℕ) → Option ℕ → List ℕ
set_of sets None = []
set_of sets (Some location) = slice_index_or sets location []

-- the words of the location at the address
abbrev pub set_at : List (List ℕ) → Option ℕ → List ℕ
set_at sets address = set_of sets (option_and_then location_of address)

abbrev pub word_choice : ℕ → Option Choice
word_choice word = Some (Word word)

-- a load or an amo takes one of these words; an instruction that takes no choice has one, which is none
abbrev pub options_of : List ℕ → Instr → List (Option Choice)
options_of words i =
    if is_loading i then map word_choice words
    else (if is_sc i then Some Success ∷ Some Failure ∷ [] else None ∷ [])

abbrev pub options : List (List ℕ) → Hart → Instr → List (Option Choice)
options sets h i = options_of (set_at sets (address_in h.registers i)) i

-- ---- ends from a state on

-- the hart is at the end of the code, or its instruction goes astray
abbrev pub EndsAt : ℕ → List Instr → Hart → Option ℕ → Type 0
EndsAt n code h None = length code ≤ h.at
EndsAt n code h (Some at) = (i : Instr) × (slice_get code h.at ≡ Some i) × (at ≡ h.at) × GoesAstray n h i

pub record IsEndFrom (n : ℕ) (code : List Instr) (sets : List (List ℕ)) (h : Hart) (e : End) : Type 0 where
  pub runs : AreSteps n code h e.steps
  pub offered : LoadsFrom (IsOffered sets) e.steps
  pub ends : EndsAt n code (hart_after h e.steps) e.astray

-- each comes before all later ones
abbrev pub Rises : List End → Type 0
Rises [] = Unit {0}
Rises (e ∷ es) = All (IsEarlier e) es × Rises es

-- it is one of these
abbrev pub IsOf : List End → End → Type 0
IsOf [] e = ⊥
IsOf (x ∷ xs) e = (e ≡ x) ⊎ IsOf xs e

pub record AreEndsFrom (n : ℕ) (code : List Instr) (sets : List (List ℕ)) (h : Hart) (ends : List End) : Type 0 where
  pub each : All (IsEndFrom n code sets h) ends
  pub rising : Rises ends

pub record ListsFrom (n : ℕ) (code : List Instr) (sets : List (List ℕ)) (h : Hart) (ends : List End) : Type 0 where
  pub different : AreEndsFrom n code sets h ends
  pub all : (e : End) → IsEndFrom n code sets h e → IsOf ends e

-- ---- what the walk has found

-- the end of a run that made these steps before
abbrev pub after : List Step → End → End
after path e = record { steps = path ++ e.steps; astray = e.astray }

abbrev pub first_astray : List End → Option ℕ
first_astray [] = None
first_astray (e ∷ es) = option_or e.astray (first_astray es)

abbrev pub is_whole : End → Bool
is_whole e = is_none e.astray

abbrev pub whole_traces : Test → ℕ → List End → List Trace
whole_traces t hart ends = map (trace_at t hart) (filter is_whole ends)

-- the walk goes on by runs of these ends from where it stands, and then stands there again
pub record Adds (t : Test) (hart : ℕ) (ends : List End) (old new : Walk) : Type 0 where
  pub path : new.path.items ≡ old.path.items
  pub runs : new.traces.items ≡ old.traces.items ++ whole_traces t hart (map (after old.path.items) ends)
  pub number : new.ends ≡ old.ends + length ends
  pub first : new.astray ≡ option_or old.astray (first_astray ends)

-- a step of an instruction that takes no choice
pub record IsQuiet (n : ℕ) (code : List Instr) (h : Hart) (s : Step) : Type 0 where
  pub instr : Instr
  pub at : slice_get code h.at ≡ Some instr
  pub quiet : is_choosing instr ≡ false
  pub makes : Makes n h instr None s

abbrev pub AreQuiet : ℕ → List Instr → Hart → List Step → Type 0
AreQuiet n code h [] = Unit {0}
AreQuiet n code h (s ∷ ss) = IsQuiet n code h s × AreQuiet n code (after_step h s) ss

-- steps that take no choice lead from the state h to the state g, and the walk has them at the end of its path
pub record Leads (n : ℕ) (code : List Instr) (h : Hart) (old : Walk) (g : Hart) (new : Walk) : Type 0 where
  pub steps : List Step
  pub quiet : AreQuiet n code h steps
  pub state : g ≡ hart_after h steps
  pub later : h.at ≤ g.at
  pub inside : g.at ≤ length code
  pub path : new.path.items ≡ old.path.items ++ steps
  pub runs : new.traces.items ≡ old.traces.items
  pub number : new.ends ≡ old.ends
  pub first : new.astray ≡ old.astray

-- the hart can't go on without a choice
abbrev pub Halts : ℕ → List Instr → Hart → Type 0
Halts n code h = (i : Instr) → slice_get code h.at ≡ Some i → (is_choosing i ≡ true) ⊎ GoesAstray n h i

-- it has found all ends from the state h on
pub record Explores (t : Test) (hart : ℕ) (sets : List (List ℕ)) (h : Hart) (old new : Walk) : Type 0 where
  pub ends : List End
  pub lists : ListsFrom (length t.locations) (code_of t hart) sets h ends
  pub adds : Adds t hart ends old new

-- with the ends before, more ends than may come from the state h
pub record Overflows (n : ℕ) (code : List Instr) (sets : List (List ℕ)) (h : Hart) (before : ℕ) : Type 0 where
  pub ends : List End
  pub different : AreEndsFrom n code sets h ends
  pub many : most_choice_lists < before + length ends

-- why it stops
abbrev pub IsCut : Test → ℕ → List (List ℕ) → Hart → ℕ → Fault → Type 0
IsCut t hart sets h before TooManyTraces = Overflows (length t.locations) (code_of t hart) sets h before
IsCut t hart sets h before Memory = Unit {0}
IsCut t hart sets h before _ = ⊥

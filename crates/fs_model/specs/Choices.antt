-- The choices of a run: which word each load returns, and whether an sc.w succeeds (RISC-V Unprivileged ISA 20191213,
-- chapter "“A” Standard Extension for Atomic Instructions", section "Load-Reserved/Store-Conditional Instructions").
use Rattle.std.specs.Prelude.{Option, None, option_map, is_some, if◌then◌else◌, ◌≡◌, ◌≢◌, ℕ, ◌<◌, ◌≤◌, ◌⊎◌, Bool, true, false, ◌||◌, not, ◌&&◌, Some, List, [], ◌∷◌, ◌++◌, length, slice_get}
use Rattle.std.specs.Option.{option_to_list}
use Rattle.std.specs.List.{flat_map}
use Rattle.fs_instr.specs.declared.instr.Instr.{Instr}
use Rattle.fs_instr.specs.declared.instr.Instr.TheVariants.{Lw, Lr, Sc, Amo}
use Rattle.fs_instr.specs.Instructions.{is_memory}
use Rattle.fs_model.specs.declared.hart.Hart.{Hart}
use Rattle.fs_model.specs.declared.step.Step.{Step}
use Rattle.fs_model.specs.declared.step.Choice.{Choice}
use Rattle.fs_model.specs.declared.step.Choice.TheVariants.{Word, Success, Failure}
use Rattle.fs_model.specs.declared.step.Stop.{Stop}
use Rattle.fs_model.specs.declared.step.Stop.TheVariants.{Short, Long, BadChoice, BadSc, Astray}
use Rattle.fs_model.specs.Forms.{is_loading, is_sc}
use Rattle.fs_model.specs.Execute.{address_in}
use Rattle.fs_model.specs.Trace.{IsDeclared, Accesses, AreSteps, Runs, start_with, hart_after}

-- an instruction that takes a choice
abbrev pub is_choosing : Instr → Bool
is_choosing i = is_loading i || is_sc i

-- the choice that a step of the instruction makes, and those of a run
abbrev pub choice_by : Instr → Step → Option Choice
choice_by (Lw ann rd base offset) s = option_map Word s.loaded
choice_by (Lr ann rd base) s = option_map Word s.loaded
choice_by (Amo op ann rd value base) s = option_map Word s.loaded
choice_by (Sc ann rd value base) s = Some (if is_some s.stored then Success else Failure)
choice_by _ s = None

abbrev pub choices_of : List Step → List Choice
choices_of steps = flat_map (λ s. option_to_list (choice_by s.instr s)) steps

-- ---- choice order: words rise, success comes before failure, and lists are compared from their first choice on

abbrev pub IsBefore : Choice → Choice → Type 0
IsBefore (Word a) (Word b) = a < b
IsBefore Success Failure = Unit {0}
IsBefore _ _ = ⊥

abbrev pub ComesBefore : List Choice → List Choice → Type 0
ComesBefore [] [] = ⊥
ComesBefore [] (y ∷ ys) = Unit {0}
ComesBefore (x ∷ xs) [] = ⊥
ComesBefore (x ∷ xs) (y ∷ ys) = IsBefore x y ⊎ ((x ≡ y) × ComesBefore xs ys)

-- ---- what choices make

-- the step that the hart in this state makes of the instruction, with the choice where it takes one
pub record Makes (n : ℕ) (h : Hart) (i : Instr) (choice : Option Choice) (s : Step) : Type 0 where
  pub at : s.at ≡ h.at
  pub instr : s.instr ≡ i
  pub access : Accesses n h s i
  pub chosen : choice_by i s ≡ (if is_choosing i then choice else None)

-- these choices make these steps, and the run is whole
abbrev pub IsWhole : ℕ → List Instr → (registers : List ℕ) → List Choice → List Step → Type 0
IsWhole n code registers choices steps = Runs n code registers steps × (choices ≡ choices_of steps)

-- ---- choices that make no whole run

-- the choice is of the kind that the instruction takes
abbrev pub fits : Instr → Choice → Bool
fits i (Word word) = is_loading i
fits i Success = is_sc i
fits i Failure = is_sc i

-- an access to no location; an sc.w is never astray
abbrev pub GoesAstray : ℕ → Hart → Instr → Type 0
GoesAstray n h i = ((is_memory i && not (is_sc i)) ≡ true) × (IsDeclared n (address_in h.registers i) → ⊥)

-- the hart in this state can't go on with the instruction i and these choices
abbrev pub StopsAt : ℕ → Hart → Instr → List Choice → Stop → Type 0
StopsAt n h i choices (Astray at) = (at ≡ h.at) × GoesAstray n h i
StopsAt n h i choices BadSc = (is_sc i ≡ true) × (slice_get choices 0 ≡ Some Success) × (address_in h.registers i ≢ h.paired)
StopsAt n h i choices BadChoice = (GoesAstray n h i → ⊥) × (is_choosing i ≡ true) × (option_map (fits i) (slice_get choices 0) ≡ Some false)
StopsAt n h i choices Short = (GoesAstray n h i → ⊥) × (is_choosing i ≡ true) × (choices ≡ [])
StopsAt n h i choices Long = ⊥

-- the run stops here: at the end of the code with choices left, or at the next instruction
abbrev pub StopsIn : ℕ → List Instr → Hart → List Choice → Stop → Type 0
StopsIn n code h choices Long = (length code ≤ h.at) × (choices ≢ [])
StopsIn n code h choices stop = (i : Instr) × (slice_get code h.at ≡ Some i) × StopsAt n h i choices stop

-- these choices make these steps, and then the run stops
abbrev pub IsStopped : ℕ → List Instr → (registers : List ℕ) → List Choice → List Step → Stop → Type 0
IsStopped n code registers choices steps stop =
    AreSteps n code (start_with registers) steps
    × ((rest : List Choice) × (choices ≡ choices_of steps ++ rest) × StopsIn n code (hart_after (start_with registers) steps) rest stop)

-- ---- what the choices decide: one whole run or one stop at most, and not both

abbrev pub MakeOneRun : ℕ → List Instr → (registers : List ℕ) → List Choice → Type 0
MakeOneRun n code registers choices = (ss us : List Step) → IsWhole n code registers choices ss → IsWhole n code registers choices us → ss ≡ us

abbrev pub StopOnce : ℕ → List Instr → (registers : List ℕ) → List Choice → Type 0
StopOnce n code registers choices =
    (ss us : List Step) (x y : Stop) → IsStopped n code registers choices ss x → IsStopped n code registers choices us y → (ss ≡ us) × (x ≡ y)

abbrev pub NeverDoBoth : ℕ → List Instr → (registers : List ℕ) → List Choice → Type 0
NeverDoBoth n code registers choices =
    (ss us : List Step) (stop : Stop) → IsWhole n code registers choices ss → IsStopped n code registers choices us stop → ⊥

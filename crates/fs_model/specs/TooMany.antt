-- Which tests are refused since their runs are too many or go astray.
use Rattle.std.specs.Prelude.{◌≡◌, ◌≢◌, ℕ, ◌<◌, ◌≤◌, ◌==◌, nat_lt, ◌⊎◌, Bool, true, ◌&&◌, ◌||◌, List, All, AllPairs, length}
use Rattle.fs_kinds.specs.declared.fault.Fault.{Fault}
use Rattle.fs_kinds.specs.declared.fault.Fault.TheVariants as fault
use Rattle.fs_model.specs.declared.test.Test.{Test}
use Rattle.fs_model.specs.declared.step.Step.{Step}
use Rattle.fs_model.specs.declared.step.Choice.{Choice}
use Rattle.fs_model.specs.declared.step.Stop.TheVariants.{Astray}
use Rattle.fs_model.specs.Choices.{choices_of, ComesBefore, IsStopped}
use Rattle.fs_model.specs.Execution.{code_of, registers_of}
use Rattle.fs_model.specs.Values.{IsValueAfter, LoadsFrom, rounds}
use Rattle.fs_model.specs.Witness.{Chooses}

-- more than n different things are so
abbrev pub AreMoreThan : {X : Type 0} → ℕ → (X → Type 0) → Type 0
AreMoreThan {X} n P = (xs : List X) × AllPairs (λ x y. x ≢ y) xs × All P xs × (n < length xs)

-- how many choice lists of a hart may end
abbrev pub most_choice_lists : ℕ
most_choice_lists = 100000

-- ---- the choice lists of a hart, where V says which words a load may take at each location

-- a whole run
abbrev pub EndsWhole : Test → (V : ℕ → ℕ → Type 0) → (hart : ℕ) → List Choice → Type 0
EndsWhole t V hart choices = (steps : List Step) × Chooses t hart choices steps × LoadsFrom V steps

-- a run that takes all choices and goes astray at this instruction
pub record EndsAstray (t : Test) (V : ℕ → ℕ → Type 0) (hart : ℕ) (choices : List Choice) (at : ℕ) : Type 0 where
  pub steps : List Step
  pub astray : IsStopped (length t.locations) (code_of t hart) (registers_of t hart) choices steps (Astray at)
  pub all_taken : choices ≡ choices_of steps
  pub loads : LoadsFrom V steps

-- the choices are all used up in a whole run, or where the run goes astray
abbrev pub Ends : Test → (V : ℕ → ℕ → Type 0) → (hart : ℕ) → List Choice → Type 0
Ends t V hart choices = EndsWhole t V hart choices ⊎ ((at : ℕ) × EndsAstray t V hart choices at)

-- in choice order the hart's first choice list that goes astray does so at this instruction
abbrev pub IsFirstAstray : Test → (V : ℕ → ℕ → Type 0) → (hart at : ℕ) → Type 0
IsFirstAstray t V hart at =
    (choices : List Choice) × EndsAstray t V hart choices at
    × ((others : List Choice) (k : ℕ) → EndsAstray t V hart others k → ComesBefore others choices → ⊥)

-- the fault of a hart: too many choice lists that end, or else one that goes astray
abbrev pub IsHartFault : Test → (V : ℕ → ℕ → Type 0) → (hart : ℕ) → Fault → Type 0
IsHartFault t V hart fault.TooManyTraces = AreMoreThan most_choice_lists (Ends t V hart)
IsHartFault t V hart (fault.Astray h at) =
    (h ≡ hart) × (AreMoreThan most_choice_lists (Ends t V hart) → ⊥) × IsFirstAstray t V hart at
IsHartFault t V hart other = ⊥

-- ---- the faults of a test

abbrev pub is_sooner : (round hart : ℕ) → (round hart : ℕ) → Bool
is_sooner m g n h = nat_lt m n || (m == n) && nat_lt g h

-- the first that is met, round by round, with the values of the round, and in each round hart by hart
pub record IsRunFault (t : Test) (f : Fault) : Type 0 where
  pub round : ℕ
  pub hart : ℕ
  pub round_of_test : round ≤ rounds t
  pub hart_of_test : hart < length t.codes
  pub met : IsHartFault t (IsValueAfter t round) hart f
  pub first :
      (n h : ℕ) (g : Fault) → h < length t.codes → is_sooner n h round hart ≡ true → IsHartFault t (IsValueAfter t n) h g → ⊥

-- What is told below answers.
use Rattle.std.specs.Prelude.{◌≡◌, ℕ, ◌+◌, ◌==◌, Bool, true, false, Option, None, Some, List, [], ◌∷◌, ◌++◌, length, codes}
use Rattle.std.specs.Prelude.{if◌then◌else◌}
use Rattle.std.specs.List.{slice_index_or}
use Rattle.fs_model.specs.Witness.{Witness}
use Rattle.fs_app_io.specs.declared.status.Status.{Status}
use Rattle.fs_app_io.specs.declared.status.Status.TheVariants.{Success}
use Rattle.fs_app_solve_and_check.specs.Solve.{IsCertified}
use Rattle.fs_app_test.specs.declared.said.Kind.{Kind}
use Rattle.fs_app_test.specs.declared.said.Kind.TheVariants as kind
use Rattle.fs_app_test.specs.declared.said.Line.{Line}
use Rattle.fs_app_test.specs.Report.{shown_name}
use Rattle.fs_app_test.specs.SaidVerdicts.{witness_in}
use Rattle.fs_app_why.specs.Why.{IsAllowedWhy, IsCertifiedWhy, IsForbiddenWhy}
use Rattle.fs_app_why.specs.declared.telling.Telling.{Telling}
use Rattle.fs_app_why.specs.declared.telling.Telling.TheVariants.{Few, All, One}
use Rattle.fs_app_command_line.specs.declared.command.Why.{Why}
use Rattle.fs_app_command_line.specs.declared.command.Why.TheVariants as why

-- this, where it is asked for; else nothing
abbrev pub IsTold : (is_asked : Bool) → (List ℕ → Type 0) → (text : List ℕ) → Type 0
IsTold true P text = P text
IsTold false P text = text ≡ []

-- which contradictions are told, where any are
abbrev pub telling_of : Why → Option Telling
telling_of why.Untold = None
telling_of why.Few = Some Few
telling_of why.All = Some All
telling_of (why.Fence hart at) = Some (One hart at)
telling_of (why.Unclear word) = None

-- this, where something is to be told; else nothing
abbrev pub IsToldBy : Option Telling → (Telling → List ℕ → Type 0) → (text : List ℕ) → Type 0
IsToldBy (Some telling) P text = P telling text
IsToldBy None P text = text ≡ []

abbrev pub is_yes : Status → Bool
is_yes Success = true
is_yes other = false

-- below this name an execution of the witness, which shows the outcome of the test as it is written
abbrev pub IsBlock : (name : List ℕ) → Option Witness → (test text : List ℕ) → Type 0
IsBlock name None test text = ⊥
IsBlock name (Some w) test text = (execution : List ℕ) × IsAllowedWhy test w execution × (text ≡ codes "\n" ++ (name ++ execution))

abbrev pub is_allowed : Kind → Bool
is_allowed kind.Allowed = true
is_allowed other = false

-- this text below the name, if there is any
abbrev pub named : (name text : List ℕ) → List ℕ
named name text = if length text == 0 then [] else codes "\n" ++ (name ++ text)

-- below this name why no execution of the test as it is written shows the outcome
abbrev pub IsForbiddenBlock : Telling → (name test text : List ℕ) → Type 0
IsForbiddenBlock telling name test text = (why : List ℕ) × IsForbiddenWhy telling test why × (text ≡ named name why)

abbrev pub is_forbidden : Kind → Bool
is_forbidden kind.Forbidden = true
is_forbidden other = false

-- the first, where this is so; else the second
abbrev pub IsEither : Bool → (P Q : List ℕ → Type 0) → (text : List ℕ) → Type 0
IsEither true P Q text = P text
IsEither false P Q text = Q text

-- of the test that has this line, where its outcome is allowed or forbidden; else nothing
abbrev pub IsTestTold : Telling → Line → (test text : List ℕ) → Type 0
IsTestTold telling line test text =
    IsEither (is_allowed line.said.kind) (IsBlock (shown_name line) (witness_in line.said.witness) test)
    (IsTold (is_forbidden line.said.kind) (IsForbiddenBlock telling (shown_name line) test)) text

-- of these lines, one below the other, the first of which has the test of this number; a test that isn't there has no
-- bytes
abbrev pub AreToldFrom : Telling → ℕ → List Line → (tests : List (List ℕ)) → (text : List ℕ) → Type 0
AreToldFrom telling k [] tests text = text ≡ []
AreToldFrom telling k (line ∷ lines) tests text =
    (told : List ℕ) × (others : List ℕ) × IsTestTold telling line (slice_index_or tests k []) told
    × AreToldFrom telling (k + 1) lines tests others × (text ≡ told ++ others)

abbrev pub AreTold : Telling → List Line → (tests : List (List ℕ)) → (text : List ℕ) → Type 0
AreTold telling = AreToldFrom telling 0

-- of an answer in these lines: what a certificate of it gives
pub record IsSolveWhy (telling : Telling) (test prices lines : List ℕ) (status : Status) (text : List ℕ) : Type 0 where
  pub certificate : List ℕ
  pub certified : IsCertified test prices lines status certificate
  pub told : IsCertifiedWhy telling test certificate text

-- The note that `solve` gives of a test that is vacuous.
use Rattle.std.specs.Prelude.{◌≡◌, ℕ, List, ◌++◌, codes}
use Rattle.fs_model.specs.declared.test.Test.{Test}
use Rattle.fs_model.specs.Printed.{ended}
use Rattle.fs_litmus.specs.Reads.{Reads}
use Rattle.fs_app_test.specs.SaidVerdicts.{MayBeSerious, SaysVacuous}

-- that it is vacuous, and why
abbrev pub note_line : List ℕ → List ℕ
note_line why = ended (codes "note: vacuous: " ++ why)

-- the text says why the test is vacuous, as `test` does
abbrev pub Notes : Test → List ℕ → Type 0
Notes t text = (why : List ℕ) × SaysVacuous t why × (text ≡ note_line why)

-- the same of the test that the bytes read as
abbrev pub IsNoted : (test text : List ℕ) → Type 0
IsNoted test text = (t : Test) × Reads test t × Notes t text

-- they read as a test that isn't vacuous, or of which that may be left open
abbrev pub IsSerious : (test : List ℕ) → Type 0
IsSerious test = (t : Test) × Reads test t × MayBeSerious t

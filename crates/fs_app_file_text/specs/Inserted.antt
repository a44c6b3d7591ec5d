-- The text of a test file with the fences of a placement.
use Rattle.std.specs.Prelude.{◌≡◌, ℕ, List, true, false}
use Rattle.fs_kinds.specs.declared.placement.Entry.{Entry}
use Rattle.fs_model.specs.declared.test.Test.{Test}
use Rattle.fs_model.specs.Fenced.{fenced}
use Rattle.fs_model.specs.Printed.{printed}
use Rattle.fs_model.specs.Test.{IsSame}
use Rattle.fs_litmus.specs.Fence.{IsShort}
use Rattle.fs_litmus.specs.Reads.{Reads}
use Rattle.fs_app_file_text.specs.Added.{adds}

-- the bytes read as the fenced test
pub record ReadsFenced (t : Test) (p : List Entry) (bytes : List ℕ) : Type 0 where
  pub made : Test
  pub reads : Reads bytes made
  pub same : IsSame made (fenced t p)

-- Of a file that reads as the test: its text with lines put in, which reads as the fenced test; or the fenced test in
-- print, as `place` prints it.
pub data IsInserted (file : List ℕ) (t : Test) (p : List Entry) (text : List ℕ) : Type 0 where
  of_file : adds true false file text ≡ true → ReadsFenced t p text → IsInserted file t p text
  of_printed : text ≡ printed (fenced t p) → IsInserted file t p text

-- where no hart of the fenced test has too many instructions the bytes read as it
abbrev pub ReadsShortFenced : Test → List Entry → List ℕ → Type 0
ReadsShortFenced t p bytes = IsShort (fenced t p) → ReadsFenced t p bytes

-- they read as no other test
abbrev pub ReadsOnlyFenced : Test → List Entry → List ℕ → Type 0
ReadsOnlyFenced t p bytes = (u : Test) → Reads bytes u → IsSame u (fenced t p)

-- What the test means that `audit --write` prints.
use Rattle.std.specs.Prelude.{◌≡◌, ◌⊎◌, List, [], ℕ, map, filter}
use Rattle.fs_instr.specs.declared.instr.Instr.{Instr}
use Rattle.fs_model.specs.declared.test.Test.{Test}
use Rattle.fs_litmus.specs.Reads.{Reads}
use Rattle.fs_app_audit.specs.Unfenced.{names_devices}
use Rattle.fs_app_guarantees.specs.Headline.{IsPossible}

-- the outcome of each test that the text reads as is impossible as it stands
abbrev pub IsMendedTest : (text : List ℕ) → Type 0
IsMendedTest text = (u : Test) → Reads text u → IsPossible u → ⊥

-- Nothing is printed, or a test with such an outcome. A text of a hart of more than 32 instructions doesn't read as a
-- test.
abbrev pub IsNothingOrMended : (text : List ℕ) → Type 0
IsNothingOrMended text = (text ≡ []) ⊎ IsMendedTest text

-- the FENCEs of each hart that name devices
abbrev pub device_fences : Test → List (List Instr)
device_fences t = map (filter names_devices) t.codes

-- Nothing is printed, or each test that the text reads as has those of the test that the file reads as.
abbrev pub IsNothingOrKeepsDevices : (test text : List ℕ) → Type 0
IsNothingOrKeepsDevices test text = (text ≡ []) ⊎ ((t u : Test) → Reads test t → Reads text u → device_fences u ≡ device_fences t)

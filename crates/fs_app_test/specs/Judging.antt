-- What is said of files, and the tests that are kept of them.
use Rattle.std.specs.Prelude.{◌≡◌, ◌⊎◌, ℕ, List, [], string_bytes}
use Rattle.std.specs.List.{AllZip}
use Rattle.fs_kinds.specs.declared.fault.Fault.{Fault}
use Rattle.fs_app_test.specs.declared.said.Line.{Line}
use Rattle.fs_app_test.specs.SaidVerdicts.{witness_in}
use Rattle.fs_app_test.specs.Verdicts.{NamesFault, SaysOfBytes}

-- this is said of these bytes
abbrev pub IsSaidOf : Line → (bytes : List ℕ) → Type 0
IsSaidOf line bytes = SaysOfBytes bytes line.said.kind (string_bytes line.said.why) (witness_in line.said.witness)

-- this is said of a file that wasn't read
abbrev pub IsSaidOfNone : Line → Type 0
IsSaidOfNone line =
    (fault : Fault) × NamesFault fault line.said.kind (string_bytes line.said.why) (witness_in line.said.witness)

-- it is said of the bytes that are kept; or none are kept, and it is said of some or of a file that wasn't read
abbrev pub IsJudged : Line → (test : List ℕ) → Type 0
IsJudged line test = IsSaidOf line test ⊎ ((test ≡ []) × (((bytes : List ℕ) × IsSaidOf line bytes) ⊎ IsSaidOfNone line))

-- the same of each of these lines, with the bytes that are kept of its test
abbrev pub AreJudged : List Line → (tests : List (List ℕ)) → Type 0
AreJudged lines tests = AllZip IsJudged lines tests

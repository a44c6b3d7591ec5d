-- What the bytes of a log are read as, and why they aren't read.
use Rattle.std.specs.Prelude.{◌≡◌, ℕ, ◌<◌, ◌≤◌, Result, Ok, Err, List, length}
use Rattle.std.specs.Str.{IsUtf8}
use Rattle.std.specs.Str.Lines.{lines}
use Rattle.fs_kinds.specs.declared.fault.Fault.TheVariants.{Memory}
use Rattle.fs_app_states.specs.Blocks.{ReadBlock, IsOfLines}
use Rattle.fs_app_states.specs.declared.error.LogError.{LogError}
use Rattle.fs_app_states.specs.declared.error.LogError.TheVariants as error

-- how long a log may be: 1 GiB
abbrev pub most_bytes : ℕ
most_bytes = 1073741824

-- the bytes may be those of a log: they are no more than that, and UTF-8
abbrev pub IsLogText : List ℕ → Type 0
IsLogText bytes = (length bytes ≤ most_bytes) × IsUtf8 bytes

-- the bytes are a log, and this is read of it
abbrev pub IsLog : List ℕ → List ReadBlock → Type 0
IsLog bytes log = IsLogText bytes × IsOfLines (lines bytes) (Ok log)

-- why the bytes aren't read: they are too long, or not UTF-8, or their lines aren't those of a log; or memory ran out
abbrev pub IsLogError : List ℕ → LogError → Type 0
IsLogError bytes error.TooLong = most_bytes < length bytes
IsLogError bytes error.NotUtf8 = (length bytes ≤ most_bytes) × (IsUtf8 bytes → ⊥)
IsLogError bytes (error.Fault fault) = fault ≡ Memory
IsLogError bytes e = IsLogText bytes × IsOfLines (lines bytes) (Err e)

-- The exit statuses.
use Rattle.std.specs.Prelude.{ℕ}
use Rattle.fs_kinds.specs.declared.fault.Fault.{Fault}
use Rattle.fs_kinds.specs.declared.fault.Fault.TheVariants.{Memory}
use Rattle.fs_app_io.specs.declared.status.Status.{Status}
use Rattle.fs_app_io.specs.declared.status.Status.TheVariants.{Success, Denied, Failure, OutOfMemory, Vacuous}

abbrev pub code : Status → ℕ
code Success = 0
code Denied = 1
code Failure = 2
code OutOfMemory = 3
code Vacuous = 4

-- want of memory has a status of its own
abbrev pub status_of : Fault → Status
status_of Memory = OutOfMemory
status_of _ = Failure

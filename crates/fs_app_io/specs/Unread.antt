-- Why a file isn't read.
use Rattle.std.specs.Prelude.{Bool, true, false}
use Rattle.fs_kinds.specs.declared.fault.Fault.{Fault}
use Rattle.fs_kinds.specs.declared.fault.Fault.TheVariants.{Memory, ReadFault}
use Rattle.fs_app_io.specs.declared.unread.Unread.{Unread}
use Rattle.fs_app_io.specs.declared.unread.Unread.TheVariants.{NoMemory, TooLong}

abbrev pub is_too_long : Unread → Bool
is_too_long (TooLong limit) = true
is_too_long why = false

-- want of memory is a fault of its own
abbrev pub fault_of : Unread → Fault
fault_of NoMemory = Memory
fault_of why = ReadFault

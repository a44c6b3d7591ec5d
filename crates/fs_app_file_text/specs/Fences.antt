-- Whether a FENCE names devices.
use Rattle.std.specs.Prelude.{Bool, false, ◌||◌}
use Rattle.fs_instr.specs.declared.instr.Instr.{Instr}
use Rattle.fs_instr.specs.declared.instr.Instr.TheVariants.{Fence}

-- a FENCE that has i or o among its letters: it names input or output
abbrev pub names_devices : Instr → Bool
names_devices (Fence before after) = (before.input || before.output) || (after.input || after.output)
names_devices _ = false

-- Which instructions the table has: numbers in their ranges, annotations that it lists (RV32I and the A extension).
use Rattle.std.specs.Prelude.{◌≡◌, ◌<◌, ◌^◌, ◌||◌, ℤ, pos, negsuc, false, IsTrue}
use Rattle.fs_instr.specs.Reading.{is_refused}
use Rattle.fs_instr.specs.declared.letters.Letters.{Letters}
use Rattle.fs_instr.specs.declared.names.Op.TheVariants as op
use Rattle.fs_instr.specs.declared.instr.Instr.{Instr}
use Rattle.fs_instr.specs.declared.instr.Instr.TheVariants as instr

-- -2048 to 2047
abbrev pub IsImmediate : ℤ → Type 0
IsImmediate (pos n) = n < 2048
IsImmediate (negsuc n) = n < 2048

-- one letter or more
abbrev pub HasLetter : Letters → Type 0
HasLetter l = IsTrue (l.input || (l.output || (l.reads || l.writes)))

-- an instruction of the table: no lw or lr.w with rl alone, no sw or sc.w with aq alone
abbrev pub IsOfTable : Instr → Type 0
IsOfTable (instr.Register o rd a b) = (rd < 32) × (a < 32) × (b < 32)
IsOfTable (instr.Immediate o rd a z) = (rd < 32) × (a < 32) × IsImmediate z
IsOfTable (instr.Shift o rd a n) = (rd < 32) × (a < 32) × (n < 32)
IsOfTable (instr.Lui rd n) = (rd < 32) × (n < 2 ^ 20)
IsOfTable (instr.Li rd n) = (rd < 32) × (n < 2 ^ 32)
IsOfTable (instr.Lw ann rd a z) = (is_refused (op.Lw ann) ≡ false) × (rd < 32) × (a < 32) × IsImmediate z
IsOfTable (instr.Sw ann v a z) = (is_refused (op.Sw ann) ≡ false) × (v < 32) × (a < 32) × IsImmediate z
IsOfTable (instr.Lr ann rd a) = (is_refused (op.Lr ann) ≡ false) × (rd < 32) × (a < 32)
IsOfTable (instr.Sc ann rd v a) = (is_refused (op.Sc ann) ≡ false) × (rd < 32) × (v < 32) × (a < 32)
IsOfTable (instr.Amo o ann rd v a) = (rd < 32) × (v < 32) × (a < 32)
IsOfTable (instr.Branch o a b t) = (a < 32) × (b < 32) × (t < 256)
IsOfTable (instr.Jump t) = t < 256
IsOfTable (instr.Fence p s) = HasLetter p × HasLetter s
IsOfTable instr.FenceTso = Unit {0}
IsOfTable instr.FenceI = Unit {0}

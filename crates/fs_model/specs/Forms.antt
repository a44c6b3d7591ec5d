-- Which instructions load, store, and are annotated or paired (RISC-V Unprivileged ISA 20191213, chapter "“A” Standard
-- Extension for Atomic Instructions").
use Rattle.std.specs.Prelude.{Bool, true, false}
pub use Rattle.fs_instr.specs.Roles.{is_lr, is_sc, is_amo, annotation}
use Rattle.fs_instr.specs.declared.instr.Instr.{Instr}
use Rattle.fs_instr.specs.declared.instr.Instr.TheVariants.{Lw, Sw, Lr, Sc, Amo}

-- it loads a word: lw, lr.w or an AMO
abbrev pub is_loading : Instr → Bool
is_loading (Lw ann rd base offset) = true
is_loading (Lr ann rd base) = true
is_loading (Amo op ann rd value base) = true
is_loading _ = false

-- it can store a word: sw, sc.w or an AMO
abbrev pub is_storing : Instr → Bool
is_storing (Sw ann value base offset) = true
is_storing (Sc ann rd value base) = true
is_storing (Amo op ann rd value base) = true
is_storing _ = false

abbrev pub is_sw : Instr → Bool
is_sw (Sw ann value base offset) = true
is_sw _ = false

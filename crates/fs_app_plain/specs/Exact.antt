-- What an instruction makes of words in 32 bits is, extended by its sign, what it makes in 64 bits of these, extended.
use Rattle.std.specs.Prelude.{◌≡◌, ℕ, ℤ}
use Rattle.fs_instr.specs.declared.names.RegOp.{RegOp}
use Rattle.fs_instr.specs.declared.names.ImmOp.{ImmOp}
use Rattle.fs_instr.specs.declared.names.ShiftOp.{ShiftOp}
use Rattle.fs_instr.specs.declared.names.AmoOp.{AmoOp}
use Rattle.fs_model.specs.Instructions as words
use Rattle.fs_app_plain.specs.Instructions64.{extended, doubleword_of, computed, computed_with, shifted, combined}

abbrev pub IsExactComputed : RegOp → ℕ → ℕ → Type 0
IsExactComputed op a b = extended (words.computed op a b) ≡ computed op (extended a) (extended b)

abbrev pub IsExactImmediate : ImmOp → ℕ → ℤ → Type 0
IsExactImmediate op a n =
    extended (words.computed_with op a (words.word_of n)) ≡ computed_with op (extended a) (doubleword_of n)

abbrev pub IsExactShifted : ShiftOp → ℕ → ℕ → Type 0
IsExactShifted op a n = extended (words.shifted op a n) ≡ shifted op (extended a) n

abbrev pub IsExactCombined : AmoOp → ℕ → ℕ → Type 0
IsExactCombined op a b = extended (words.combined op a b) ≡ combined op (extended a) (extended b)

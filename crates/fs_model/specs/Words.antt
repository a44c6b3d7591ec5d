-- Words of 32 bits (RISC-V Unprivileged ISA 20191213, chapter "RV32I Base Integer Instruction Set", section "Integer
-- Computational Instructions"). A word is a number below 2^32; sums wrap, and a signed word is in two's complement.
pub use Rattle.fs_model.specs.Instructions.{word_of, add, sub, shift_left, shift_right, shift_right_signed, is_less_signed, min_signed, max_signed, flag}

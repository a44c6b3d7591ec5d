-- Whether a test is short enough to be read.
use Rattle.std.specs.Prelude.{List, Bool, length, nat_le}
use Rattle.std.specs.List.{list_all}
use Rattle.fs_instr.specs.declared.instr.Instr.{Instr}
use Rattle.fs_kinds.specs.Limits.{most_instructions}

-- no code has more instructions than a hart may have
abbrev pub is_short : List (List Instr) → Bool
is_short codes = list_all (λ code. nat_le (length code) most_instructions) codes

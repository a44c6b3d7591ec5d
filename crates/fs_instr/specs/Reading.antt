-- Instructions from tokens.
use Rattle.std.specs.Prelude.{ℕ, List, [], ◌∷◌, Option, Some, None, option_map, Bool, true, false, not, ◌&&◌, Result, Ok, Err, if◌then◌else◌}
use Rattle.fs_litmus_tokens.specs.Tokens.{Tok, Word}
use Rattle.fs_instr.specs.Names.{op_of}
use Rattle.fs_instr.specs.Operands.{Filled, blank, read_parts}
use Rattle.fs_instr.specs.Instructions.{parts_of, instr_of}
use Rattle.fs_instr.specs.declared.names.Op.{Op}
use Rattle.fs_instr.specs.declared.names.Op.TheVariants.{Lw, Sw, Lr, Sc, Fence, FenceAll}
use Rattle.fs_instr.specs.declared.instr.Instr.{Instr}
use Rattle.fs_instr.specs.declared.operands.Operands.{Operands}
use Rattle.fs_instr.specs.declared.reading.Parsed.{Parsed}
use Rattle.fs_instr.specs.declared.reading.Refused.{Refused}
use Rattle.fs_instr.specs.declared.reading.Refused.TheVariants.{Form, Name, Suffix}

-- an instruction and the label that a branch names
abbrev pub Outcome : Type 0
Outcome = Result (Instr × Option (List ℕ)) Refused

abbrev pub outcome_of : Result Parsed Refused → Outcome
outcome_of (Ok p) = Ok (p.instr, option_map (λ x. x.now) p.label)
outcome_of (Err e) = Err e

-- a load with rl alone, and a store with aq alone
abbrev pub is_refused : Op → Bool
is_refused (Lw ann) = not ann.acquire && ann.release
is_refused (Lr ann) = not ann.acquire && ann.release
is_refused (Sw ann) = ann.acquire && not ann.release
is_refused (Sc ann) = ann.acquire && not ann.release
is_refused _ = false

-- a fence with no letters is a row of its own
abbrev pub is_alone : Op → Bool → Op
is_alone Fence true = FenceAll
is_alone op alone = op

abbrev pub is_empty : List Tok → Bool
is_empty [] = true
is_empty (t ∷ ts) = false

-- the operands that were filled in, without the label
abbrev pub operands_in : Filled → Operands
operands_in o = record { rd = o.rd; first = o.first; second = o.second; imm = o.imm; constant = o.constant; target = o.target; before = o.before; after = o.after }

abbrev pub made : Op → Option Filled → Outcome
made op None = Err Form
made op (Some o) = if is_refused op then Err Suffix else Ok (instr_of op (operands_in o), o.label)

-- the tokens after a row's name
unfoldable pub read_row : Op → List Tok → Outcome
read_row op ts = made (is_alone op (is_empty ts)) (read_parts (parts_of (is_alone op (is_empty ts))) blank ts)

abbrev pub read_named : Option Op → List Tok → Outcome
read_named None ts = Err Name
read_named (Some op) ts = read_row op ts

unfoldable pub read_tokens : List Tok → Outcome
read_tokens (Word c w ∷ ts) = read_named (op_of w) ts
read_tokens _ = Err Form

-- What `--unroll 1` makes of a test with loops: the same test, in which a hart ends early where a branch would go back,
-- and marks the end of its code otherwise (RISC-V Unprivileged ISA 20191213, chapter "RV32I Base Integer Instruction
-- Set", section "Control Transfer Instructions").
use Rattle.std.specs.Prelude.{◌≡◌, ◌≢◌, ℕ, ◌+◌, ◌<◌, ◌≤◌, Bool, true, false, nat_le, Option, None, Some, List, [], ◌∷◌, ◌++◌, All, map, length, if◌then◌else◌}
use Rattle.std.specs.List.{enumerate_from, list_any}
use Rattle.fs_instr.specs.declared.instr.Instr.{Instr}
use Rattle.fs_instr.specs.declared.instr.Instr.TheVariants.{Li}
use Rattle.fs_instr.specs.Instructions.{target_of, targeted}
use Rattle.fs_instr.specs.Roles.{dest_of, sources_of}
use Rattle.fs_model.specs.declared.test.Test.{Test}
use Rattle.fs_model.specs.Instructions.{read}
use Rattle.fs_model.specs.Operations.{is_same}
use Rattle.fs_model.specs.Execution.{Execution, code_of, registers_of, pre_execution}
use Rattle.fs_model.specs.Shows.{final_register, final_word}

-- ---- the code

-- a target that isn't past this position
abbrev pub is_not_past : (at : ℕ) → Option ℕ → Bool
is_not_past at None = false
is_not_past at (Some target) = nat_le target at

-- the instruction at this position branches or jumps to its own or an earlier position
abbrev pub is_back : (at : ℕ) → Instr → Bool
is_back at i = is_not_past at (target_of i)

-- some instruction of the code does
abbrev pub has_back : List Instr → Bool
has_back code = list_any (λ numbered. is_back numbered.0 numbered.1) (enumerate_from 0 code)

-- the instruction at this position, which goes past the code instead of back
abbrev pub turned : (past : ℕ) → ℕ × Instr → Instr
turned past (at, i) = if is_back at i then targeted past i else i

-- A code in which no instruction goes back, as it is. Else each that does goes past the end instead, where the last
-- instruction writes 1 to the register `mark`.
abbrev pub straight : (mark : ℕ) → List Instr → List Instr
straight mark code =
    if has_back code then map (turned (length code + 1)) (enumerate_from 0 code) ++ Li mark 1 ∷ [] else code

-- ---- the register that marks the end

-- no instruction has it as destination or among its sources
abbrev pub IsUnnamed : (mark : ℕ) → List Instr → Type 0
IsUnnamed mark code =
    All (λ i. (is_same (dest_of i) (Some mark) ≡ false)
    × (list_any (λ source. is_same source (Some mark)) (sources_of i) ≡ false)) code

-- each branch and jump goes to a position of the code, or to its end
abbrev pub GoesInside : List Instr → Type 0
GoesInside code = All (λ i. (target : ℕ) → target_of i ≡ Some target → target ≤ length code) code

-- It is a register but x0 that no hart names and that begins with 0; each hart begins with 32 words; and no branch goes
-- elsewhere than into its code or to its end.
pub record IsMark (mark : ℕ) (t : Test) : Type 0 where
  pub not_x0 : 0 < mark
  pub register : mark < 32
  pub unnamed : (hart : ℕ) → hart < length t.codes → IsUnnamed mark (code_of t hart)
  pub sizes : (hart : ℕ) → hart < length t.codes → length (registers_of t hart) ≡ 32
  pub begins : (hart : ℕ) → hart < length t.codes → read (registers_of t hart) mark ≡ 0
  pub inside : (hart : ℕ) → hart < length t.codes → GoesInside (code_of t hart)

-- ---- the test

-- u is t with straight codes, whatever it asks for
pub record IsStraightened (mark : ℕ) (t u : Test) : Type 0 where
  pub codes : u.codes ≡ map (straight mark) t.codes
  pub starts : u.starts ≡ t.starts
  pub locations : u.locations ≡ t.locations

-- each hart whose code had a branch that goes back comes to the end
abbrev pub ReachesMarks : (mark : ℕ) → (t u : Test) → Execution → Type 0
ReachesMarks mark t u e =
    (hart : ℕ) → hart < length t.codes → has_back (code_of t hart) ≡ true → final_register u e.traces hart mark ≡ 1

-- e of u ends with the same words as f of t, in memory and in all registers but the mark
pub record EndsAsIn (mark : ℕ) (t u : Test) (f e : Execution) : Type 0 where
  pub words : (location : ℕ)
      → final_word (pre_execution u e.traces) e.order location ≡ final_word (pre_execution t f.traces) f.order location
  pub registers : (hart r : ℕ) → hart < length t.codes → r ≢ mark
      → final_register u e.traces hart r ≡ final_register t f.traces hart r

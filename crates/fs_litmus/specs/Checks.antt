-- The faults that each step of the reader looks for.
use Rattle.std.specs.Prelude.{◌≡◌, ℕ, ◌<◌, List, false, length, sum_by, count_by}
use Rattle.std.specs.List.{Any}
use Rattle.fs_kinds.specs.declared.fault.Fault.{Fault}
use Rattle.fs_kinds.specs.declared.fault.Fault.TheVariants.{BadInit, BadCondition, TooBig}
use Rattle.fs_kinds.specs.declared.fault.Limit.TheVariants.{Instructions, Accesses}
use Rattle.fs_kinds.specs.Limits.{most_instructions, most_accesses}
use Rattle.fs_litmus_syntax.specs.Init.{Entry}
use Rattle.fs_litmus_syntax.specs.Form.{Form}
use Rattle.fs_litmus_syntax.specs.Grammar.{Syntax}
use Rattle.fs_litmus_syntax.specs.Meaning.{atoms_of}
use Rattle.fs_instr.specs.Instructions.{is_memory}
use Rattle.fs_instr.specs.declared.instr.Instr.{Instr}
use Rattle.fs_litmus.specs.Locations.{Names}
use Rattle.fs_litmus.specs.Settings.{are_there}
use Rattle.fs_litmus.specs.Reads.{names_in}
use Rattle.fs_litmus.specs.Faults.{IsBadEntry}

-- a fault of the initial values
pub data IsEntryFault (columns : ℕ) (names : Names) (entries : List Entry) : Fault → Type 0 where
  entry : {line : ℕ} → IsBadEntry columns names entries line → IsEntryFault columns names entries (BadInit line)

-- a fault of the initial values or of the condition's atoms
pub data IsBindingFault (form : Form) (s : Syntax) : Fault → Type 0 where
  start : {f : Fault} → IsEntryFault form.columns (names_in form s) form.entries f → IsBindingFault form s f
  atom : are_there form.columns (names_in form s) (atoms_of s) ≡ false → IsBindingFault form s BadCondition

-- a limit that codes pass
pub data IsCodeLimit (codes : List (List Instr)) : Fault → Type 0 where
  instructions : Any (λ code. most_instructions < length code) codes → IsCodeLimit codes (TooBig Instructions)
  accesses : most_accesses < sum_by (count_by is_memory) codes → IsCodeLimit codes (TooBig Accesses)

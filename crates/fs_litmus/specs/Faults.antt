-- The faults of a test file (herd7's format of litmus tests), and which of them is given.
use Rattle.std.specs.Prelude.{◌≡◌, ℕ, ◌<◌, List, [], ◌∷◌, ◌++◌, Some, None, Bool, true, false, length, sum_by, count_by}
use Rattle.std.specs.List.{Any}
use Rattle.std.specs.Str.{IsUtf8}
use Rattle.fs_kinds.specs.declared.fault.Fault.{Fault}
use Rattle.fs_kinds.specs.declared.fault.Fault.TheVariants.{BadUtf8, NotRiscv, Syntax, BadInit, BadCondition, TooBig}
use Rattle.fs_kinds.specs.declared.fault.Limit.{Limit}
use Rattle.fs_kinds.specs.declared.fault.Limit.TheVariants.{Harts, Instructions, Accesses, Locations, Depth}
use Rattle.fs_kinds.specs.Limits.{most_harts, most_instructions, most_accesses, most_locations, most_depth}
use Rattle.fs_litmus_tokens.specs.Tokens.{Lined}
use Rattle.fs_litmus_tokens.specs.Sections.{Then, BeginsText, StopsText}
use Rattle.fs_litmus_syntax.specs.Init.{Entry}
use Rattle.fs_litmus_syntax.specs.Form.{Form, IsForm}
use Rattle.fs_litmus_syntax.specs.Body.{flatten}
use Rattle.fs_litmus_syntax.specs.Grammar as grammar
use Rattle.fs_litmus_syntax.specs.Grammar.{IsCondition}
use Rattle.fs_litmus_syntax.specs.Meaning.{atoms_of, depth_of}
use Rattle.fs_instr.specs.Instructions.{is_memory}
use Rattle.fs_instr.specs.declared.instr.Instr.{Instr}
use Rattle.fs_litmus_syntax.specs.Codes.{AreCodes, IsFault}
use Rattle.fs_kinds.specs.FaultOrder.{IsFirst}
use Rattle.fs_litmus.specs.Title.{last_line, HasTitle, HasBody}
use Rattle.fs_litmus.specs.Locations.{Names}
use Rattle.fs_litmus.specs.Settings.{holder_of, setting_of, is_x0, are_there}
use Rattle.fs_litmus.specs.Reads.{HasTokens, HasForm, names_in}
use Rattle.fs_litmus.specs.declared.settings.Holder.{Holder}

-- ---- the form of the text

-- a text below the title's line: the sections, and then the condition
abbrev pub IsText : List Lined → grammar.Syntax → Type 0
IsText = Then IsForm (λ form. IsCondition)

-- the line of the first token, and the last line where there is none
abbrev pub line_at : List Lined → ℕ → ℕ
line_at [] last = last
line_at (t ∷ ts) last = t.1

-- the text isn't of the form, from this line on
pub data IsBroken (bytes : List ℕ) : ℕ → Type 0 where
  -- no block of initial values begins: the last line
  no_block : ((body : List ℕ) (line : ℕ) → ¬ HasBody bytes body line) → IsBroken bytes (last_line bytes)
  -- a token with which the tokens so far begin no text: its line; or they end too soon: the last line
  token : {tokens rest : List Lined} {closed : Bool} → HasTokens bytes tokens closed → StopsText IsText tokens rest → IsBroken bytes (line_at rest (last_line bytes))
  -- a comment isn't closed, and no token before it breaks the form: the last line
  comment : {tokens : List Lined} → HasTokens bytes tokens false → BeginsText IsText tokens → IsBroken bytes (last_line bytes)

-- ---- what the form means

-- An entry that sets nothing that may be set, in the line of its target: a hart or a register that isn't there, a
-- number out of range, x0, or what an earlier entry sets.
pub data IsBadEntry (columns : ℕ) (names : Names) (entries : List Entry) : ℕ → Type 0 where
  absent : (before after : List Entry) (e : Entry) → entries ≡ before ++ e ∷ after → setting_of columns names (e.target, e.value) ≡ None → IsBadEntry columns names entries e.line
  zero : (before after : List Entry) (e : Entry) {p : Holder} → entries ≡ before ++ e ∷ after → holder_of columns names e.target ≡ Some p → is_x0 p ≡ true → IsBadEntry columns names entries e.line
  again : (before between after : List Entry) (d e : Entry) {p : Holder} → entries ≡ before ++ (d ∷ between ++ e ∷ after) → holder_of columns names d.target ≡ Some p → holder_of columns names e.target ≡ Some p → IsBadEntry columns names entries e.line

-- a limit that is passed
pub data IsPassed (form : Form) (s : grammar.Syntax) : Limit → Type 0 where
  harts : most_harts < form.columns → IsPassed form s Harts
  instructions : {codes : List (List Instr)} → AreCodes form.columns (flatten form.rows) codes → Any (λ code. most_instructions < length code) codes → IsPassed form s Instructions
  accesses : {codes : List (List Instr)} → AreCodes form.columns (flatten form.rows) codes → most_accesses < sum_by (count_by is_memory) codes → IsPassed form s Accesses
  locations : most_locations < length (names_in form s) → IsPassed form s Locations
  depth : most_depth < depth_of s → IsPassed form s Depth

-- a fault of what the form and its condition mean: of a cell, a label or a branch; of an initial value; of an atom,
-- with a hart or a register that isn't there or a number out of range; or of the limits
pub data IsFormFault (form : Form) (s : grammar.Syntax) : Fault → Type 0 where
  code : {f : Fault} → IsFault form.columns (flatten form.rows) f → IsFormFault form s f
  entry : {line : ℕ} → IsBadEntry form.columns (names_in form s) form.entries line → IsFormFault form s (BadInit line)
  atom : are_there form.columns (names_in form s) (atoms_of s) ≡ false → IsFormFault form s BadCondition
  limit : {what : Limit} → IsPassed form s what → IsFormFault form s (TooBig what)

-- ---- the whole

-- the file has this fault
pub data HasFault (bytes : List ℕ) : Fault → Type 0 where
  encoding : ¬ IsUtf8 bytes → HasFault bytes BadUtf8
  title : ((name : List ℕ) → ¬ HasTitle bytes name) → HasFault bytes NotRiscv
  form : {line : ℕ} → IsBroken bytes line → HasFault bytes (Syntax line)
  meaning : {form : Form} {s : grammar.Syntax} {f : Fault} → HasForm bytes form s → IsFormFault form s f → HasFault bytes f

-- the fault that is given: the first of those that the file has
abbrev pub IsTestFault : List ℕ → Fault → Type 0
IsTestFault bytes f = IsFirst (HasFault bytes) f

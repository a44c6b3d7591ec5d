-- Which text spells which instruction.
use Rattle.std.specs.Prelude.{◌≡◌, ℕ, List, Option, option_map, Result, Ok, Err, true}
use Rattle.fs_litmus_tokens.specs.Tokens.{Tok, Lined, AreTokens, without_lines}
use Rattle.fs_litmus_tokens.specs.Few.{are_plain}
use Rattle.fs_kinds.specs.declared.fault.Fault.{Fault}
use Rattle.fs_kinds.specs.declared.fault.Fault.TheVariants.{Syntax, UnknownInstr, BadAnnotation}
use Rattle.fs_instr.specs.Reading.{Outcome}
use Rattle.fs_instr.specs.Spelled.{Spells, IsUnsupported, IsUnknown}
use Rattle.fs_instr.specs.declared.instr.Instr.{Instr}
use Rattle.fs_instr.specs.declared.reading.Parsed.{Parsed}
use Rattle.fs_instr.specs.declared.reading.Refused.{Refused}
use Rattle.fs_instr.specs.declared.reading.Refused.TheVariants.{Form, Name, Suffix}

-- the tokens of a text, with each comment closed
abbrev pub HasTokens : List ℕ → (List Tok → Type 0) → Type 0
HasTokens text P = (ts : List Lined) × AreTokens text 0 ts true × P (without_lines ts)

abbrev pub SpellsText : List ℕ → Instr → Option (List ℕ) → Type 0
SpellsText text i l = HasTokens text (λ ts. Spells ts i l)

-- the text is of words and marks, and its first word names no row
abbrev pub IsUnknownText : List ℕ → Type 0
IsUnknownText text = HasTokens text (λ ts. (are_plain ts ≡ true) × IsUnknown ts)

-- the text spells no instruction, and its first word isn't all that is wrong with it
abbrev pub IsNoForm : List ℕ → Type 0
IsNoForm text = ((i : Instr) (l : Option (List ℕ)) → ¬ SpellsText text i l) × (¬ IsUnknownText text) × (¬ HasTokens text IsUnsupported)

-- the outcome of reading this text is as it says
abbrev pub TextAnswers : List ℕ → Outcome → Type 0
TextAnswers text (Ok x) = SpellsText text x.0 x.1
TextAnswers text (Err Name) = IsUnknownText text
TextAnswers text (Err Suffix) = HasTokens text IsUnsupported
TextAnswers text (Err Form) = IsNoForm text

-- ---- with faults, whose line is 1

abbrev pub TextOutcome : Type 0
TextOutcome = Result (Instr × Option (List ℕ)) Fault

abbrev pub text_outcome : Result Parsed Fault → TextOutcome
text_outcome (Ok p) = Ok (p.instr, option_map (λ x. x.now) p.label)
text_outcome (Err fault) = Err fault

abbrev pub fault_of : Refused → Fault
fault_of Form = Syntax 1
fault_of Name = UnknownInstr 1
fault_of Suffix = BadAnnotation 1

abbrev pub HasFault : List ℕ → Fault → Type 0
HasFault text (Syntax line) = (line ≡ 1) × IsNoForm text
HasFault text (UnknownInstr line) = (line ≡ 1) × IsUnknownText text
HasFault text (BadAnnotation line) = (line ≡ 1) × HasTokens text IsUnsupported
HasFault text _ = ⊥

-- the instruction that the text spells, or its fault
abbrev pub IsReading : List ℕ → TextOutcome → Type 0
IsReading text (Ok x) = SpellsText text x.0 x.1
IsReading text (Err fault) = HasFault text fault

-- What the tokens below the title's line are: the sections and the condition, or where they stop being that.
use Rattle.std.specs.Prelude.{◌≡◌, ℕ, List}
use Rattle.fs_kinds.specs.declared.fault.Fault as faults
use Rattle.fs_kinds.specs.declared.fault.Fault.TheVariants as fault
use Rattle.fs_litmus_tokens.specs.Tokens.{Lined, views}
use Rattle.fs_litmus_tokens.specs.Sections.{StopsText}
use Rattle.fs_litmus_tokens.specs.declared.values.Stop.{Stop}
use Rattle.fs_litmus_tokens.specs.declared.values.Stop.TheVariants.{Memory, At}
use Rattle.fs_litmus_syntax.specs.Form.{Form, IsForm}
use Rattle.fs_litmus_syntax.specs.Grammar.{Syntax, IsCondition}
use Rattle.fs_litmus_syntax.specs.Answer.{Means}
use Rattle.fs_litmus_syntax.specs.declared.condition.Condition as conditions
use Rattle.fs_litmus.specs.Faults.{IsText, line_at}

-- The tokens are sections and a condition that this one stands for, all of them, and nothing else.
pub record AreSections (tokens : List Lined) (form : Form) (c : conditions.Condition) : Type 0 where
  pub rest : List Lined
  pub is_form : IsForm tokens form rest
  pub syntax_of : Syntax
  pub is_condition : IsCondition rest syntax_of
  pub means : Means c syntax_of
  pub only : (g : Form) (m : List Lined) (s : Syntax) → IsForm tokens g m → IsCondition m s → (g ≡ form) × Means c s

-- unless memory was refused, the tokens are lent back from the first that breaks the form on
abbrev pub IsTextStop : List Lined → Stop → Type 0
IsTextStop tokens Memory = Unit {0}
IsTextStop tokens (At rest) = StopsText IsText tokens (views rest.now)

-- the fault of tokens that stop there, in a text with this last line
abbrev pub fault_of : Stop → ℕ → faults.Fault
fault_of Memory last = fault.Memory
fault_of (At rest) last = fault.Syntax (line_at (views rest.now) last)

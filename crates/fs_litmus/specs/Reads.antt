-- Which bytes read as which test (herd7's format of litmus tests).
use Rattle.std.specs.Prelude.{◌≡◌, ℕ, ◌≤◌, List, [], Bool, Some, true, length, sum_by, count_by, All}
use Rattle.std.specs.Str.{IsUtf8}
use Rattle.fs_kinds.specs.Limits.{most_harts, most_instructions, most_accesses, most_locations, most_depth}
use Rattle.fs_litmus_tokens.specs.Tokens.{Lined, AreTokens}
use Rattle.fs_litmus_syntax.specs.Form.{Form, IsForm}
use Rattle.fs_litmus_syntax.specs.Body.{flatten}
use Rattle.fs_litmus_syntax.specs.declared.rows.Quantifier as written
use Rattle.fs_litmus_syntax.specs.declared.rows.Quantifier.TheVariants as asked
use Rattle.fs_litmus_syntax.specs.Grammar.{Syntax, IsCondition}
use Rattle.fs_litmus_syntax.specs.Meaning as meaning
use Rattle.fs_litmus_syntax.specs.Meaning.{atoms_of, depth_of}
use Rattle.fs_litmus_syntax.specs.Codes.{AreCodes}
use Rattle.fs_model.specs.Condition.{condition_of}
use Rattle.fs_instr.specs.Instructions.{is_memory}
use Rattle.fs_model.specs.declared.outcome.Outcome.{Outcome}
use Rattle.fs_model.specs.declared.test.Test.{Test}
use Rattle.fs_model.specs.declared.test.Quantifier.{Quantifier}
use Rattle.fs_model.specs.declared.test.Quantifier.TheVariants.{Exists, NotExists, Forall}
use Rattle.fs_litmus.specs.Title.{HasTitle, HasBody}
use Rattle.fs_litmus.specs.Locations.{Names, declared}
use Rattle.fs_litmus.specs.Settings.{entry_bindings, settings_after}
use Rattle.fs_litmus.specs.Starts.{starts_of, AreLocations}
use Rattle.fs_litmus.specs.Atoms.{condition_in}
use Rattle.fs_litmus.specs.declared.settings.Setting.{Setting}

-- Below the title's line there is doc text, up to the block of initial values, and from there these are the tokens;
-- closed says that no comment is open at the end.
pub record HasTokens (bytes : List ℕ) (tokens : List Lined) (closed : Bool) : Type 0 where
  pub body : List ℕ
  pub line : ℕ
  pub has_body : HasBody bytes body line
  pub are_tokens : AreTokens body line tokens closed

-- The text below the title's line has this form: its tokens are the sections and then the condition, and no comment is
-- left open.
pub record HasForm (bytes : List ℕ) (form : Form) (s : Syntax) : Type 0 where
  pub tokens : List Lined
  pub has_tokens : HasTokens bytes tokens true
  pub rest : List Lined
  pub is_form : IsForm tokens form rest
  pub is_condition : IsCondition rest s

abbrev pub quantifier_of : written.Quantifier → Quantifier
quantifier_of asked.Exists = Exists
quantifier_of asked.NotExists = NotExists
quantifier_of asked.Forall = Forall

-- the locations that the form and its condition name, by first appearance
abbrev pub names_in : Form → Syntax → Names
names_in form s = declared (declared [] (entry_bindings form.entries)) (atoms_of s)

-- The form and its condition mean the test.
pub record MeanTest (form : Form) (s : Syntax) (t : Test) : Type 0 where
  pub codes : AreCodes form.columns (flatten form.rows) t.codes
  -- the initial values, each of a register or location of its own
  pub settings : List Setting
  pub are_settings : settings_after form.columns (names_in form s) [] (entry_bindings form.entries) ≡ Some settings
  pub starts : t.starts ≡ starts_of form.columns settings
  pub locations : AreLocations (names_in form s) settings t.locations
  pub quantifier : t.quantifier ≡ quantifier_of form.quantifier
  pub condition : condition_in form.columns (names_in form s) (meaning.condition_of s) ≡ Some (condition_of t.condition)

-- The limits.
pub record IsWithinLimits (form : Form) (s : Syntax) (t : Test) : Type 0 where
  pub harts : form.columns ≤ most_harts
  pub instructions : All (λ code. length code ≤ most_instructions) t.codes
  pub accesses : sum_by (count_by is_memory) t.codes ≤ most_accesses
  pub locations : length (names_in form s) ≤ most_locations
  pub depth : depth_of s ≤ most_depth

-- The bytes read as the test.
pub record Reads (bytes : List ℕ) (t : Test) : Type 0 where
  pub utf8 : IsUtf8 bytes
  pub title : HasTitle bytes t.name
  pub form : Form
  pub syntax_of : Syntax
  pub has_form : HasForm bytes form syntax_of
  pub means : MeanTest form syntax_of t
  pub limits : IsWithinLimits form syntax_of t

-- ---- parts

-- the condition isn't too deep, and this is what it means
pub record IsOutcome (columns : ℕ) (names : Names) (s : Syntax) (o : Outcome) : Type 0 where
  pub depth : depth_of s ≤ most_depth
  pub means : condition_in columns names (meaning.condition_of s) ≡ Some (condition_of o)

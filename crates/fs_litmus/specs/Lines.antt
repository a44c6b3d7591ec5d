-- The lines in which the instructions of a test file stand.
use Rattle.std.specs.Prelude.{ℕ, List}
use Rattle.fs_litmus_syntax.specs.Form.{Form}
use Rattle.fs_litmus_syntax.specs.Body.{flatten}
use Rattle.fs_litmus_syntax.specs.Grammar.{Syntax}
use Rattle.fs_litmus_syntax.specs.Lines.{AreLines}
use Rattle.fs_litmus.specs.Reads.{HasForm}

-- the bytes have a form, and these are the lines of its instructions, hart by hart
pub record StandIn (bytes : List ℕ) (lines : List (List ℕ)) : Type 0 where
  pub form : Form
  pub syntax_of : Syntax
  pub has_form : HasForm bytes form syntax_of
  pub are_lines : AreLines form.columns (flatten form.rows) lines

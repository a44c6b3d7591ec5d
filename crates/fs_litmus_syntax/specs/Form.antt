-- A test file below its first line, up to its condition (herd7's format of litmus tests).
use Rattle.std.specs.Prelude.{ℕ, List}
use Rattle.fs_litmus_tokens.specs.Tokens.{Lined}
use Rattle.fs_litmus_syntax.specs.Init.{Entry, IsInit, entries_of}
use Rattle.fs_litmus_syntax.specs.Header.{IsHeader}
use Rattle.fs_litmus_syntax.specs.Body.{Cell, IsBody, cells_of, rows_of}
use Rattle.fs_litmus_syntax.specs.declared.rows.Quantifier.{Quantifier}
use Rattle.fs_litmus_syntax.specs.declared.form.Form as forms

pub record Form : Type 0 where
  pub entries : List Entry
  pub columns : ℕ
  pub rows : List (List Cell)
  pub quantifier : Quantifier

-- the initial values, the header, and rows of as many cells as it has columns, with the quantifier
pub data IsForm : List Lined → Form → List Lined → Type 0 where
  form : {es : List Entry} {n : ℕ} {rs : List (List Cell)} {q : Quantifier} {ts header body rest : List Lined} → IsInit ts es header → IsHeader header n body → IsBody n body (record { rows = rs; quantifier = q }) rest → IsForm ts (record { entries = es; columns = n; rows = rs; quantifier = q }) rest

-- ---- what the reader's value stands for

abbrev pub form_of : forms.Form → Form
form_of f = record { entries = entries_of f.entries.items; columns = f.columns; rows = rows_of f.columns (cells_of f.cells.items); quantifier = f.quantifier }

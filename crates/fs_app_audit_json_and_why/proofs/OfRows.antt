-- The lines that are printed are those of the rows.
use Rattle.std.proofs.Common.{◌≡◌, ◌∙◌, ◌++◌, ℕ, Option, None, Some, List, [], ◌∷◌, flat_map, refl, ap, sym}
use Rattle.std.specs.List.{enumerate_from}
use Rattle.std.proofs.lemmas.List.{append-nil}
use Rattle.std.proofs.lemmas.List.Concat.{flat_map-append, flat_map-cons}
use Rattle.fs_instr.specs.declared.instr.Instr.{Instr}
use Rattle.fs_kinds.specs.declared.placement.Entry.{Entry}
use Rattle.fs_kinds.specs.PriceTable.{PriceTable}
use Rattle.fs_app_audit.specs.Advice.{advice_of}
use Rattle.fs_app_audit.specs.InPlace.{advice_in_place, code_in_place, instruction_in_place, lines_in_place}
use Rattle.fs_app_audit.specs.Report.{advised, code_text, instruction_text, line_of, line_text, lines_text}
use Rattle.fs_app_audit.specs.declared.advice.Advice.{Advice}
use Rattle.fs_app_audit_json_and_why.specs.Rows.{code_anew, code_rows, instruction_anew, instruction_row, place_of, row_of, row_text, rows_anew, rows_in_place}
use Rattle.fs_app_audit_json_and_why.specs.declared.rows.Row.{Row}

text_of_row : (line hart at : ℕ) (i : Instr) (advice : Option Advice)
    → advised line hart at i advice ≡ flat_map row_text (row_of line (place_of hart at) i advice)
text_of_row line hart at i None = refl
text_of_row line hart at i (Some a) = sym (append-nil (line_text line hart at i a))

-- the text of each item is that of its rows, and so is that of all
of_all : {X : Type 0} (f : X → List ℕ) (g : X → List Row) → ((x : X) → f x ≡ flat_map row_text (g x)) → (xs : List X)
    → flat_map f xs ≡ flat_map row_text (flat_map g xs)
of_all f g h [] = refl
of_all f g h (x ∷ xs) =
    flat_map-cons f x xs
    ∙ ap (λ text. text ++ flat_map f xs) (h x)
    ∙ ap (λ text. flat_map row_text (g x) ++ text) (of_all f g h xs)
    ∙ sym (flat_map-append row_text (g x) (flat_map g xs))
    ∙ ap (flat_map row_text) (sym (flat_map-cons g x xs))

module _ (prices : PriceTable) (lines : List (List ℕ)) (codes : List (List Instr)) (p : List Entry) where
  in_code : (numbered : ℕ × List Instr) → code_in_place prices lines p numbered ≡ flat_map row_text (code_rows prices lines p numbered)
  in_code numbered =
      of_all (instruction_in_place prices lines p numbered.0 numbered.1) (instruction_row prices lines p numbered.0 numbered.1)
      (λ n. text_of_row (line_of lines numbered.0 n.0) numbered.0 n.0 n.1 (advice_in_place prices p numbered.0 numbered.1 n.0))
      (enumerate_from 0 numbered.1)

  pub lines_in_place_of_rows : lines_in_place prices lines codes p ≡ flat_map row_text (rows_in_place prices lines codes p)
  lines_in_place_of_rows = of_all (code_in_place prices lines p) (code_rows prices lines p) in_code (enumerate_from 0 codes)

module _ (lines : List (List ℕ)) (codes : List (List Instr)) (p : List Entry) where
  anew_code : (numbered : ℕ × List Instr) → code_text lines p numbered ≡ flat_map row_text (code_anew lines p numbered)
  anew_code numbered =
      of_all (instruction_text lines p numbered.0 numbered.1) (instruction_anew lines p numbered.0 numbered.1)
      (λ n. text_of_row (line_of lines numbered.0 n.0) numbered.0 n.0 n.1 (advice_of p numbered.0 numbered.1 n.0))
      (enumerate_from 0 numbered.1)

  pub lines_anew_of_rows : lines_text lines codes p ≡ flat_map row_text (rows_anew lines codes p)
  lines_anew_of_rows = of_all (code_text lines p) (code_anew lines p) anew_code (enumerate_from 0 codes)

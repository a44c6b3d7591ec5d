-- A code with marks in the places of FENCEs is as long as it was.
use Rattle.std.proofs.Common.{◌≡◌, ℕ, List, length, ◌∙◌}
use Rattle.std.specs.List.{enumerate_from}
use Rattle.std.proofs.lemmas.List.{length-map}
use Rattle.std.proofs.lemmas.List.FromFn.{length-enumerate_from}
use Rattle.fs_instr.specs.declared.instr.Instr.{Instr}
use Rattle.fs_kinds.specs.declared.placement.Entry.{Entry}
use Rattle.fs_app_file_text.specs.Rewritten.{marked_code, marked_instr}

pub marked_length : (p : List Entry) (hart : ℕ) (code : List Instr) → length (marked_code p (hart, code)) ≡ length code
marked_length p hart code = length-map (enumerate_from 0 code) (marked_instr p hart) ∙ length-enumerate_from 0 code

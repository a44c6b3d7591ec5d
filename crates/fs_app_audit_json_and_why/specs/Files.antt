-- What `audit` prints of several files as JSON.
use Rattle.std.specs.Prelude.{◌≡◌, ℕ, Bool, false, List, [], ◌∷◌, string_bytes}
use Rattle.std.specs.List.{flat_map}
use Rattle.fs_kinds.specs.declared.fault.Fault.{Fault}
use Rattle.fs_app_io.specs.declared.status.Status.TheVariants as ending
use Rattle.fs_app_test.specs.declared.said.Kind.TheVariants as verdict
use Rattle.fs_app_test.specs.declared.said.Line.{Line}
use Rattle.fs_app_test.specs.Report.{json_text}
use Rattle.fs_app_test.specs.SaidVerdicts.{witness_in}
use Rattle.fs_app_test.specs.Verdicts.{NamesFault}
use Rattle.fs_app_audit.specs.declared.blocks.Block.{Block}
use Rattle.fs_app_audit_json_and_why.specs.Answered.{IsObjectBy}

-- The text is the object of some bytes at these prices, or that of `test` of a fault, with the name of the block. Want
-- of memory has none: it ends the run.
pub data IsObjectBlock (is_anew : Bool) (prices : List ℕ) (block : Block) : Type 0 where
  of_bytes : (test : List ℕ)
      → IsObjectBy is_anew (string_bytes block.name) test prices (string_bytes block.text) block.status block.kind
      block.saved
      → IsObjectBlock is_anew prices block
  of_fault : (fault : Fault) (line : Line)
      → NamesFault fault line.said.kind (string_bytes line.said.why) (witness_in line.said.witness)
      → string_bytes line.name ≡ string_bytes block.name → string_bytes block.text ≡ json_text false (line ∷ [])
      → block.kind ≡ verdict.Faulty → block.status ≡ ending.Failure → block.saved ≡ 0
      → IsObjectBlock is_anew prices block

abbrev pub AreObjectBlocks : (is_anew : Bool) (prices : List ℕ) → List Block → Type 0
AreObjectBlocks is_anew prices [] = Unit {0}
AreObjectBlocks is_anew prices (block ∷ blocks) =
    IsObjectBlock is_anew prices block × AreObjectBlocks is_anew prices blocks

-- an object a line
abbrev pub objects_text : List Block → List ℕ
objects_text = flat_map (λ block. string_bytes block.text)

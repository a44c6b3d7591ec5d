-- What `audit` prints of several files.
use Rattle.std.specs.Prelude.{◌≡◌, ◌≢◌, ◌==◌, ◌+◌, ◌&&◌, ℕ, Bool, true, false, List, [], ◌∷◌, ◌++◌, codes, count_by, fold, if◌then◌else◌, length, string_bytes}
use Rattle.std.specs.Fmt.{decimal}
use Rattle.std.specs.List.{flat_map, list_all, list_any, zip}
use Rattle.std.specs.Str.{bytes_eq}
use Rattle.fs_kinds.specs.declared.fault.Fault.{Fault}
use Rattle.fs_kinds.specs.declared.fault.Fault.TheVariants.{Memory}
use Rattle.fs_kinds.specs.FaultLine.{fault_line}
use Rattle.fs_model.specs.Printed.{ended, joined}
use Rattle.fs_app_error_messages.specs.Messages.{name_text}
use Rattle.fs_app_io.specs.declared.source.Source.{Source}
use Rattle.fs_app_io.specs.declared.status.Status.{Status}
use Rattle.fs_app_io.specs.declared.status.Status.TheVariants as ending
use Rattle.fs_app_test.specs.declared.said.Kind.{Kind}
use Rattle.fs_app_test.specs.declared.said.Kind.TheVariants as verdict
use Rattle.fs_app_test.specs.Report.{count_text}
use Rattle.fs_app_test.specs.Status.{is_kind}
use Rattle.fs_app_test.specs.Words.{counted}
use Rattle.fs_app_audit.specs.Audit.{IsAudited, IsAuditedAnew}
use Rattle.fs_app_audit.specs.declared.blocks.Block.{Block}

-- ---- what is said of a file

-- with `--anew`, and in place
abbrev pub IsSaidBy : (is_anew : Bool) (test prices text : List ℕ) → Status → (said : Kind) (saved : ℕ) → Type 0
IsSaidBy true test prices text status said saved = IsAuditedAnew test prices text status said × (saved ≡ 0)
IsSaidBy false test prices text status said saved = IsAudited test prices text status said saved

-- The text is that of some bytes at these prices, or the line of a fault. Want of memory has no line: it ends the run.
pub data IsBlock (is_anew : Bool) (prices : List ℕ) (block : Block) : Type 0 where
  of_bytes : (test : List ℕ)
      → IsSaidBy is_anew test prices (string_bytes block.text) block.status block.kind block.saved → IsBlock is_anew prices block
  of_fault : (fault : Fault) → fault ≢ Memory → string_bytes block.text ≡ ended (fault_line fault)
      → block.kind ≡ verdict.Faulty → block.status ≡ ending.Failure → block.saved ≡ 0 → IsBlock is_anew prices block

abbrev pub AreBlocks : (is_anew : Bool) (prices : List ℕ) → List Block → Type 0
AreBlocks is_anew prices [] = Unit {0}
AreBlocks is_anew prices (block ∷ blocks) = IsBlock is_anew prices block × AreBlocks is_anew prices blocks

-- the block is that of the file, by its name
abbrev pub is_named : Source × Block → Bool
is_named (file, block) = bytes_eq (string_bytes file.name) (string_bytes block.name)

-- there is a block of each of the files, in their order, and no other
abbrev pub are_named : List Source → List Block → Bool
are_named files blocks = (length files == length blocks) && list_all is_named (zip files blocks)

-- ---- what is printed

-- the name of the file as messages show it, what is said of it, and an empty line
abbrev pub block_text : Block → List ℕ
block_text block = ended (name_text (string_bytes block.name)) ++ (string_bytes block.text ++ codes "\n")

abbrev pub count_of : Kind → List Block → ℕ
count_of said = count_by (λ block. is_kind said block.kind)

-- how many are of the kind, left out where none is
abbrev pub count_piece : List Block → Kind → List (List ℕ)
count_piece blocks said = if count_of said blocks == 0 then [] else count_text said (count_of said blocks) ∷ []

abbrev pub pieces : List Block → List (List ℕ)
pieces blocks =
    count_piece blocks verdict.Forbidden ++ count_piece blocks verdict.Allowed
    ++ count_piece blocks verdict.Vacuous ++ count_piece blocks verdict.Faulty

abbrev pub all_saved : List Block → ℕ
all_saved = fold (λ sum block. sum + block.saved) 0

-- how much can be saved, where that is known
abbrev pub saved_text : (is_anew : Bool) → List Block → List ℕ
saved_text true blocks = []
saved_text false blocks = codes "; " ++ (decimal (all_saved blocks) ++ codes " could be saved in place")

-- such as `3 tests: 1 forbidden, 1 allowed, 1 vacuous; 0 could be saved in place`
abbrev pub summary : (is_anew : Bool) → List Block → List ℕ
summary is_anew blocks =
    ended (counted (length blocks) (codes "test")
    ++ (codes ": " ++ (joined (codes ", ") (pieces blocks) ++ saved_text is_anew blocks)))

abbrev pub blocks_text : (is_anew : Bool) → List Block → List ℕ
blocks_text is_anew blocks = flat_map block_text blocks ++ summary is_anew blocks

-- ---- the exit status

-- one of the two
abbrev pub is_status : Status → Status → Bool
is_status ending.Success ending.Success = true
is_status ending.Denied ending.Denied = true
is_status ending.Failure ending.Failure = true
is_status ending.OutOfMemory ending.OutOfMemory = true
is_status ending.Vacuous ending.Vacuous = true
is_status _ _ = false

abbrev pub has : Status → List Block → Bool
has status = list_any (λ block. is_status status block.status)

-- 1 where that is the status of some file; else 2 where one has a fault; else 4 where one is vacuous; else 0
abbrev pub blocks_status : List Block → Status
blocks_status blocks =
    if has ending.Denied blocks then ending.Denied else if has ending.Failure blocks then ending.Failure
    else if has ending.Vacuous blocks then ending.Vacuous else ending.Success

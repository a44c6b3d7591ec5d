-- What a command answers, of the files that it has read. What a file gives when it is read no definition says.
use Rattle.std.specs.Prelude.{◌≡◌, ℕ, Bool, true, false, List, [], ◌∷◌, ◌++◌, ◌||◌, Option, None, IfSome, IsSome, is_some, map, option_map, string_bytes, if◌then◌else◌}
use Rattle.fs_app_io.specs.declared.source.Source.{Source}
use Rattle.fs_app_io.specs.declared.status.Output.{Output}
use Rattle.fs_app_io.specs.declared.status.Status.{Status}
use Rattle.fs_app_io.specs.declared.status.Status.TheVariants.{Success, Denied, Failure}
use Rattle.fs_app_place_and_order.specs.Place.{ArePricesOf, IsFencedText, IsFirstPlaceFault}
use Rattle.fs_app_place_and_order.specs.Order.{IsOrderAnswer, IsFirstOrderFault}
use Rattle.fs_app_sites.specs.Place.{IsSitesText, IsFirstSitesPlaceFault}
use Rattle.fs_app_sites.specs.Order.{IsSitesOrderAnswer, IsFirstSitesOrderFault}
use Rattle.fs_report.specs.Objects.{AreOneAnswer}
use Rattle.fs_app_solve_and_check.specs.Solve.{IsSolved}
use Rattle.fs_app_file_text.specs.Inserted.{IsInserted}
use Rattle.fs_app_sites.specs.Solved.{IsSolved as IsSitesSolved}
use Rattle.fs_app_sites.specs.declared.content.File.{File}
use Rattle.fs_app_sites.specs.declared.content.Tests.{Tests}
use Rattle.fs_app_sites_check_and_audit.specs.Audited.{IsAudited as IsSitesAudited}
use Rattle.fs_app_sites_check_and_audit.specs.Checked.{IsSitesChecked}
use Rattle.fs_app_audit.specs.Audit.{IsAnew, IsAudited, IsWritten, IsFirstAnewFault, IsFirstAuditFault, IsFirstWrittenFault}
use Rattle.fs_app_audit.specs.Blocks.{AreBlocks, are_named, blocks_status, blocks_text}
use Rattle.fs_app_audit.specs.declared.blocks.Block.{Block}
use Rattle.fs_app_audit_json_and_why.specs.Files.{AreObjectBlocks, objects_text}
use Rattle.fs_app_audit_json_and_why.specs.Why.{IsAuditWhy}
use Rattle.fs_kinds.specs.declared.fault.Fault.{Fault}
use Rattle.fs_kinds.specs.declared.placement.Entry.{Entry}
use Rattle.fs_kinds.specs.PriceTable.{PriceTable}
use Rattle.fs_litmus.specs.Reads.{Reads}
use Rattle.fs_model.specs.Allows.{IsCheapest}
use Rattle.fs_model.specs.declared.test.Test.{Test as Program}
use Rattle.fs_app_solve_and_check.specs.Check.{IsChecked, AreOneVerdict}
use Rattle.fs_app_test.specs.declared.said.Kind.{Kind}
use Rattle.fs_app_test.specs.declared.said.Line.{Line}
use Rattle.fs_app_test.specs.Status.{report_status}
use Rattle.fs_app_test.specs.Report.{report_text, json_text}
use Rattle.fs_app_why.specs.Why.{IsCertifiedWhy, IsOrderWhy}
use Rattle.fs_app_command_line.specs.declared.command.Task.{Task}
use Rattle.fs_app_command_line.specs.declared.command.Task.TheVariants as task
use Rattle.fs_app_command_line.specs.declared.command.Test.{Test}
use Rattle.fs_app_command_line.specs.declared.command.Place.{Place}
use Rattle.fs_app_command_line.specs.declared.command.Order.{Order}
use Rattle.fs_app_command_line.specs.declared.command.Solve.{Solve}
use Rattle.fs_app_command_line.specs.declared.command.Sites.{Sites}
use Rattle.fs_app_command_line.specs.declared.command.Audit.{Audit}
use Rattle.fs_app_command_line.specs.declared.command.AuditSites.{AuditSites}
use Rattle.fs_app_command_line.specs.declared.command.Check.{Check}
use Rattle.fs_app_command_line.specs.declared.command.CheckSites.{CheckSites}
use Rattle.fs_app_test.specs.declared.papers.Papers.{Papers}
use Rattle.fs_app_test.specs.Judging.{AreJudged}
use Rattle.fs_app_why.specs.declared.telling.Telling.{Telling}
use Rattle.fs_app.specs.Telling.{AreTold, IsSolveWhy, IsTold, IsToldBy, is_yes, telling_of}

-- the bytes of the prices that were read, where `place` is to read some
abbrev pub offered : Place → Papers → Option (List ℕ)
offered place papers = option_map (λ name. papers.prices.bytes.items) place.prices

-- what is printed: the lines of an answer, or its object
abbrev pub in_form : (is_json : Bool) (lines object : List ℕ) → List ℕ
in_form is_json lines object = if is_json then object else lines

-- the test with fences in slots, or with `--sites` at all copies of sites
abbrev pub IsPlacedText : (has_sites is_free : Bool) (test : List ℕ) (prices : Option (List ℕ)) (words : List (List ℕ)) (text : List ℕ) → Type 0
IsPlacedText true is_free test prices words text = IsSitesText is_free test prices words text
IsPlacedText false is_free test prices words text = IsFencedText test prices words text

abbrev pub IsPlaceFault : (has_sites is_free : Bool) (test : List ℕ) (prices : Option (List ℕ)) (words : List (List ℕ)) → Fault → Type 0
IsPlaceFault true is_free test prices words fault = IsFirstSitesPlaceFault is_free test prices words fault
IsPlaceFault false is_free test prices words fault = IsFirstPlaceFault test prices words fault

-- and the verdict on a witness in it
abbrev pub IsOrderText : (has_sites is_free : Bool) (test witness : List ℕ) (words : List (List ℕ)) (text : List ℕ) (status : Status) → Type 0
IsOrderText true is_free test witness words text status = IsSitesOrderAnswer is_free test witness words text status
IsOrderText false is_free test witness words text status = IsOrderAnswer test witness words text status

abbrev pub IsOrderFault : (has_sites is_free : Bool) (test witness : List ℕ) (words : List (List ℕ)) → Fault → Type 0
IsOrderFault true is_free test witness words fault = IsFirstSitesOrderFault is_free test witness words fault
IsOrderFault false is_free test witness words fault = IsFirstOrderFault test witness words fault

-- what `place` prints of the test of this name, with the prices of this name
pub record AnswersPlace (place : Place) (papers : Papers) (output : Output) : Type 0 where
  pub test_name : papers.test.name.now ≡ place.test.now
  pub prices_name : IfSome place.prices (λ name. papers.prices.name.now ≡ name.now)
  pub text : IsPlacedText place.sites place.free papers.test.bytes.items (offered place papers) (map string_bytes place.fences.items) (string_bytes output.text)
  pub ends : output.status ≡ Success

pub record AnswersOrder (order : Order) (papers : Papers) (output : Output) : Type 0 where
  pub test_name : papers.test.name.now ≡ order.test.now
  pub witness_name : papers.evidence.name.now ≡ order.witness.now
  pub lines : List ℕ
  pub below : List ℕ
  pub answer : IsOrderText order.sites order.free papers.test.bytes.items papers.evidence.bytes.items (map string_bytes order.fences.items) lines output.status
  pub told : IsTold order.why (IsOrderWhy papers.test.bytes.items papers.evidence.bytes.items (map string_bytes order.fences.items)) below
  pub text : string_bytes output.text ≡ lines ++ below

-- these lines of an answer to the test and the prices, or the object of one
pub record IsSolvedIn (is_json : Bool) (test prices lines text : List ℕ) (status : Status) : Type 0 where
  pub object : List ℕ
  pub answer : IsSolved test prices lines status
  pub alike : AreOneAnswer lines object
  pub shown : text ≡ in_form is_json lines object

-- an answer to the test and the prices, and what is told below it
pub record IsSolvedAndTold (is_json : Bool) (asked : Option Telling) (test prices : List ℕ) (output : Output) : Type 0 where
  pub lines : List ℕ
  pub shown : List ℕ
  pub below : List ℕ
  pub answer : IsSolvedIn is_json test prices lines shown output.status
  pub told : IsToldBy asked (λ telling. IsSolveWhy telling test prices lines output.status) below
  pub text : string_bytes output.text ≡ shown ++ below

-- The test that the bytes read as has these fences at these prices: the first of the cheapest that rule its outcome out.
-- The text is the file with them, or the fenced test in print.
pub record IsFencedFile (test prices text : List ℕ) : Type 0 where
  pub the_test : Program
  pub table : PriceTable
  pub placement : List Entry
  pub reads : Reads test the_test
  pub priced : ArePricesOf prices table
  pub cheapest : IsCheapest the_test table placement
  pub inserted : IsInserted test the_test placement text

-- the answer, and what is told below it; or with `--write`, where the answer is fences, the file with these
pub data IsSolveText (solve : Solve) (test prices : List ℕ) (output : Output) : Type 0 where
  said : IsSolvedAndTold solve.json (telling_of solve.why) test prices output → IsSolveText solve test prices output
  written : solve.write ≡ true → IsFencedFile test prices (string_bytes output.text) → output.status ≡ Success
      → IsSolveText solve test prices output

pub record AnswersSolve (solve : Solve) (papers : Papers) (output : Output) : Type 0 where
  pub test_name : papers.test.name.now ≡ solve.test.now
  pub prices_name : papers.prices.name.now ≡ solve.prices.now
  pub answer : IsSolveText solve papers.test.bytes.items papers.prices.bytes.items output

-- the answer to some files and the prices that were read; or no answer, and at most an object, since a file has a fault
pub data AnswersSites (sites : Sites) (papers : Papers) (output : Output) : Type 0 where
  answered : (tests : Tests) → tests.is_free ≡ sites.free → papers.prices.name.now ≡ sites.prices.now
      → IsSitesSolved sites.json tests papers.prices.bytes.items (string_bytes output.text) output.status
      → AnswersSites sites papers output
  refused : output.status ≡ Failure → (sites.json ≡ false → string_bytes output.text ≡ []) → AnswersSites sites papers output

-- with `--write` the mended test, with `--anew` what is found anew
abbrev pub IsAuditText : (is_mended is_anew : Bool) (test prices text : List ℕ) (status : Status) → Type 0
IsAuditText true is_anew test prices text status = IsWritten test prices text status
IsAuditText false true test prices text status = IsAnew test prices text status
IsAuditText false false test prices text status =
    (said : Kind) × (saved : ℕ) × IsAudited test prices text status said saved

-- and its faults
abbrev pub IsAuditFault : (is_mended is_anew : Bool) (test prices : List ℕ) (limit : ℕ) → Fault → Type 0
IsAuditFault true is_anew test prices limit fault = IsFirstWrittenFault test prices limit fault
IsAuditFault false true test prices limit fault = IsFirstAnewFault test prices limit fault
IsAuditFault false false test prices limit fault = IsFirstAuditFault test prices limit fault

-- what `audit` prints of one file, and what is told below it
pub record AnswersOneAudit (audit : Audit) (name : List ℕ) (papers : Papers) (output : Output) : Type 0 where
  pub test_name : papers.test.name.now ≡ name
  pub prices_name : papers.prices.name.now ≡ audit.prices.now
  pub lines : List ℕ
  pub below : List ℕ
  pub answer : IsAuditText audit.write audit.anew papers.test.bytes.items papers.prices.bytes.items lines output.status
  pub told : IsToldBy (telling_of audit.why)
      (λ telling. IsAuditWhy telling papers.test.bytes.items papers.prices.bytes.items) below
  pub text : string_bytes output.text ≡ lines ++ below

-- Is a file to be written, or is something to be told of it? Then it is the only one.
abbrev pub wants_one : Audit → Bool
wants_one audit = audit.write || is_some (telling_of audit.why)

-- and of these files, in their order: each block has the name of its file, and is that of some bytes at the prices that
-- were read, or of a fault
pub record AnswersBlocks (audit : Audit) (files : List Source) (papers : Papers) (output : Output) : Type 0 where
  pub prices_name : papers.prices.name.now ≡ audit.prices.now
  pub blocks : List Block
  pub named : are_named files blocks ≡ true
  pub are : AreBlocks audit.anew papers.prices.bytes.items blocks
  pub text : string_bytes output.text ≡ blocks_text audit.anew blocks
  pub ends : output.status ≡ blocks_status blocks

-- the same with `--json`: of each file its object
pub record AnswersObjects (audit : Audit) (files : List Source) (papers : Papers) (output : Output) : Type 0 where
  pub prices_name : papers.prices.name.now ≡ audit.prices.now
  pub blocks : List Block
  pub named : are_named files blocks ≡ true
  pub are : AreObjectBlocks audit.anew papers.prices.bytes.items blocks
  pub text : string_bytes output.text ≡ objects_text blocks
  pub ends : output.status ≡ blocks_status blocks

-- Of the only file that the words name, or of several; nothing where a file is mended, or where one is wanted and there
-- are several. Which files folders and lists stand for no definition says.
pub data AnswersAudit (audit : Audit) (papers : Papers) (output : Output) : Type 0 where
  alone : (name : List ℕ) → audit.json ≡ false → map string_bytes audit.files.items ≡ name ∷ [] → AnswersOneAudit audit name papers output
      → AnswersAudit audit papers output
  objects : {files : List Source} → audit.json ≡ true → AnswersObjects audit files papers output
      → AnswersAudit audit papers output
  several : {files : List Source} → audit.json ≡ false → wants_one audit ≡ false → AnswersBlocks audit files papers output
      → AnswersAudit audit papers output
  mended : audit.in_place ≡ true → string_bytes output.text ≡ [] → AnswersAudit audit papers output
  too_many : wants_one audit ≡ true → string_bytes output.text ≡ [] → output.status ≡ Failure
      → AnswersAudit audit papers output

pub record AnswersCheck (check : Check) (papers : Papers) (output : Output) : Type 0 where
  pub test_name : papers.test.name.now ≡ check.test.now
  pub prices_name : papers.prices.name.now ≡ check.prices.now
  pub certificate_name : papers.evidence.name.now ≡ check.certificate.now
  pub lines : List ℕ
  pub object : List ℕ
  pub answer : IsChecked papers.test.bytes.items papers.prices.bytes.items papers.evidence.bytes.items lines output.status
  pub alike : AreOneVerdict lines object
  pub below : List ℕ
  pub told : IsToldBy (if is_yes output.status then telling_of check.why else None)
      (λ telling. IsCertifiedWhy telling papers.test.bytes.items papers.evidence.bytes.items) below
  pub text : string_bytes output.text ≡ in_form check.json lines object ++ below

-- the verdict on the certificate that was read, for some files and the prices that were read; or none, since a file has
-- a fault
pub data AnswersCheckSites (check : CheckSites) (papers : Papers) (output : Output) : Type 0 where
  checked : (tests : Tests) (lines object : List ℕ) → tests.is_free ≡ check.free
      → papers.prices.name.now ≡ check.prices.now → papers.evidence.name.now ≡ check.certificate.now
      → IsSitesChecked tests papers.prices.bytes.items papers.evidence.bytes.items lines object output.status
      → string_bytes output.text ≡ in_form check.json lines object
      → AnswersCheckSites check papers output
  refused : output.status ≡ Failure → (check.json ≡ false → string_bytes output.text ≡ []) → AnswersCheckSites check papers output

-- what is said of the FENCEs at the sites of some files at the prices that were read; or nothing, since a file has a
-- fault
pub data AnswersAuditSites (audit : AuditSites) (papers : Papers) (output : Output) : Type 0 where
  audited : (files : List File) → papers.prices.name.now ≡ audit.prices.now
      → IsSitesAudited audit.json files papers.prices.bytes.items (string_bytes output.text) output.status
      → AnswersAuditSites audit papers output
  refused : output.status ≡ Failure → (audit.json ≡ false → string_bytes output.text ≡ []) → AnswersAuditSites audit papers output

-- The text, but for what is told below it, and the status are those of the same lines. Each says what is true of some
-- bytes, or of a file that wasn't read; what is told is told of these bytes.
pub record AnswersLines (test : Test) (output : Output) : Type 0 where
  pub lines : List Line
  pub tests : List (List ℕ)
  pub judged : AreJudged lines tests
  pub below : List ℕ
  pub told : IsToldBy (telling_of test.why) (λ telling. AreTold telling lines tests) below
  pub text : string_bytes output.text
      ≡ in_form test.json (report_text (is_some test.expect) lines) (json_text (is_some test.expect) lines) ++ below
  pub ends : output.status ≡ report_status (is_some test.expect) lines

-- of the lines alone; or, where something is expected, with status 1 where a test isn't there of which it is, or no text
-- where what is expected isn't read
pub data AnswersTest (test : Test) (output : Output) : Type 0 where
  told : AnswersLines test output → AnswersTest test output
  lacking : IsSome test.expect → (lines : Output) → AnswersLines test lines → output.text ≡ lines.text
      → output.status ≡ Denied → AnswersTest test output
  refused : IsSome test.expect → string_bytes output.text ≡ [] → output.status ≡ Failure → AnswersTest test output

-- of `states` there is none here: it is the answers of its files, one below the other
abbrev pub Answers : Task → Papers → Output → Type 0
Answers (task.Test test) papers output = AnswersTest test output
Answers (task.States states) papers output = Unit {0}
Answers (task.Place place) papers output = AnswersPlace place papers output
Answers (task.Order order) papers output = AnswersOrder order papers output
Answers (task.Solve solve) papers output = AnswersSolve solve papers output
Answers (task.Sites sites) papers output = AnswersSites sites papers output
Answers (task.Audit audit) papers output = AnswersAudit audit papers output
Answers (task.AuditSites audit) papers output = AnswersAuditSites audit papers output
Answers (task.Check check) papers output = AnswersCheck check papers output
Answers (task.CheckSites check) papers output = AnswersCheckSites check papers output
Answers (task.Completions shell) papers output = output.status ≡ Success

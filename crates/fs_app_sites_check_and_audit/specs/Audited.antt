-- What `audit --sites` answers, and the fault that it answers.
use Rattle.std.specs.Prelude.{◌≡◌, Bool, ℕ, Option, List, if◌then◌else◌}
use Rattle.std.specs.List.{AllZip, list_any}
use Rattle.serde_json.specs.Data.{Data}
use Rattle.fs_kinds.specs.declared.fault.Fault.{Fault}
use Rattle.fs_kinds.specs.declared.fault.Fault.TheVariants.{Memory}
use Rattle.fs_model.specs.Witness.{Witness}
use Rattle.fs_sites.specs.Answers.{IsAnswer, IsSolveFault}
use Rattle.fs_sites.specs.declared.answer.Answer.{Answer}
use Rattle.fs_app_io.specs.declared.status.Status.{Status}
use Rattle.fs_app_test.specs.declared.said.Kind.{Kind}
use Rattle.fs_app_test.specs.declared.said.Kind.TheVariants as verdict
use Rattle.fs_app_test.specs.Status.{is_kind}
use Rattle.fs_app_test.specs.Verdicts.{IsFirstTestFault, IsTested}
use Rattle.fs_app_sites.specs.declared.content.File.{File}
use Rattle.fs_app_sites.specs.SitePrices.{AreSitePrices, IsSitePricesFault}
use Rattle.fs_app_sites.specs.Sites.{offers_of}
use Rattle.fs_app_sites_check_and_audit.specs.Asked.{asked_of, names_in}
use Rattle.fs_app_sites_check_and_audit.specs.Copies.{AreHeld, Held, IsFilesFault}
use Rattle.fs_app_sites_check_and_audit.specs.Files.{IsFirstIn}
use Rattle.fs_app_sites_check_and_audit.specs.Marks.{all_cost, marks_of, written_cost}
use Rattle.fs_app_sites_check_and_audit.specs.Objects.{shown_text}
use Rattle.fs_app_sites_check_and_audit.specs.Printed.{Findings, status_of}

-- ---- as they are written

-- what `test` says of a file
abbrev pub IsSaidOf : File → Kind → Type 0
IsSaidOf file kind = (why : List ℕ) × (witness : Option Witness) × IsTested file.bytes.items kind why witness

abbrev pub AreSaid : List File → List Kind → Type 0
AreSaid = AllZip IsSaidOf

-- the fault that it names, of the first file that has one
abbrev pub IsSaidFault : List File → Fault → Type 0
IsSaidFault = IsFirstIn IsSaidOf (λ file. IsFirstTestFault file.bytes.items)

-- of all together: allowed where one is, else forbidden where one is
abbrev pub together : List Kind → Kind
together kinds =
    if list_any (is_kind verdict.Allowed) kinds then verdict.Allowed
    else if list_any (is_kind verdict.Forbidden) kinds then verdict.Forbidden else verdict.Vacuous

-- ---- the answer

-- the copies of the sites as they are written, what they cost, and what is said of the files; and the answer
pub record AreFound (files : List File) (prices : Data) (held : List Held) (f : Findings) : Type 0 where
  pub names : f.names ≡ names_in held
  pub marks : f.marks ≡ marks_of (names_in held) held
  pub written : f.written ≡ written_cost (marks_of (names_in held) held) (offers_of prices (names_in held))
  pub all_cost : f.all_cost ≡ all_cost (marks_of (names_in held) held) (offers_of prices (names_in held))
  pub kinds : List Kind
  pub said : AreSaid files kinds
  pub kind : f.kind ≡ together kinds
  pub answer : IsAnswer (asked_of prices held) f.found

-- what the files hold, and what is found of it at these prices, is printed
pub record IsAudited (is_json : Bool) (files : List File) (prices text : List ℕ) (status : Status) : Type 0 where
  pub table : Data
  pub held : List Held
  pub findings : Findings
  pub priced : AreSitePrices prices table
  pub read : AreHeld files held
  pub found : AreFound files table held findings
  pub shown : text ≡ shown_text is_json files findings
  pub ends : status ≡ status_of findings

-- ---- faults

-- of the search, else of what is said of the files as they are written
pub data IsFindFault (files : List File) (prices : Data) (held : List Held) : Fault → Type 0 where
  of_search : {fault : Fault} → IsSolveFault (asked_of prices held).parts fault → IsFindFault files prices held fault
  of_verdicts : {fault : Fault} (found : Answer) → IsAnswer (asked_of prices held) found → IsSaidFault files fault
      → IsFindFault files prices held fault

-- the first fault: of the prices, else of the files, else such a one; want of memory may come in place of any answer
pub data IsFirstFault (files : List File) (prices : List ℕ) : Fault → Type 0 where
  of_prices : {fault : Fault} → IsSitePricesFault prices fault → IsFirstFault files prices fault
  of_files : {fault : Fault} (table : Data) → AreSitePrices prices table → IsFilesFault files fault
      → IsFirstFault files prices fault
  of_findings : {fault : Fault} (table : Data) (held : List Held) → AreSitePrices prices table → AreHeld files held
      → IsFindFault files table held fault → IsFirstFault files prices fault
  of_memory : IsFirstFault files prices Memory

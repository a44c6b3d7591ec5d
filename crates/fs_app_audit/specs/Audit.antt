-- What `audit` answers, in place and anew, and its fault.
use Rattle.std.specs.Prelude.{◌≡◌, ◌⊎◌, ◌==◌, ◌-◌, ◌&&◌, ◌||◌, not, ℕ, Bool, true, false, Option, None, Some, is_none, List, [], ◌∷◌, ◌++◌, if◌then◌else◌}
use Rattle.std.specs.List.{flat_map, enumerate_from, list_all}
use Rattle.std.specs.Str.{bytes_eq}
use Rattle.fs_instr.specs.declared.instr.Instr.{Instr}
use Rattle.fs_kinds.specs.declared.fault.Fault.{Fault}
use Rattle.fs_kinds.specs.declared.fault.Fault.TheVariants.{Memory}
use Rattle.fs_kinds.specs.declared.kind.Kind.{Kind as FenceKind}
use Rattle.fs_kinds.specs.declared.placement.Entry.{Entry}
use Rattle.fs_kinds.specs.declared.slot.Slot.{Slot}
use Rattle.fs_kinds.specs.Placement.{with_kind}
use Rattle.fs_kinds.specs.PriceTable.{PriceTable, weight_of}
use Rattle.fs_model.specs.declared.test.Test.{Test}
use Rattle.fs_model.specs.Test.{IsSame}
use Rattle.fs_model.specs.Allows.{IsCheapest, RefutesAll, no_fences}
use Rattle.fs_model.specs.Execution.{Execution}
use Rattle.fs_model.specs.Fenced.{fenced}
use Rattle.fs_model.specs.Placed.{fits}
use Rattle.fs_model.specs.Printed.{printed}
use Rattle.fs_model.specs.Witness.{Witness}
use Rattle.fs_model_laws.specs.InPlace.{emptied}
use Rattle.fs_board_offers.specs.Offers as offers
use Rattle.fs_board_search.specs.Answers.{IsLimitFault}
use Rattle.fs_cert_evidence.specs.Certificate.{IsLeastCost}
use Rattle.fs_cert_evidence.specs.Sizes.{IsUnanswered}
use Rattle.fs_app_io.specs.declared.status.Status.{Status}
use Rattle.fs_app_io.specs.declared.status.Status.TheVariants as ending
use Rattle.fs_litmus.specs.Reads.{Reads}
use Rattle.fs_litmus.specs.Lines.{StandIn}
use Rattle.fs_litmus.specs.Faults.{IsTestFault}
use Rattle.fs_app_place_and_order.specs.Place.{ArePricesOf, IsPricesFault}
use Rattle.fs_app_test.specs.declared.said.Kind.{Kind}
use Rattle.fs_app_test.specs.declared.said.Kind.TheVariants as verdict
use Rattle.fs_app_test.specs.SaidVerdicts.{IsFaultOf, IsForbidden, IsTestedAs}
use Rattle.fs_app_file_text.specs.Kept.{keeps}
use Rattle.fs_app_file_text.specs.Rewritten.{rewritten}
use Rattle.fs_app_audit.specs.Unfenced.{eased, is_fence, memory_kind, unfenced}
use Rattle.fs_app_audit.specs.Advice.{slot_of}
use Rattle.fs_app_audit.specs.declared.asked.Purpose.{Purpose}
use Rattle.fs_app_audit.specs.declared.asked.Purpose.TheVariants.{Advise, Write}
use Rattle.fs_app_audit.specs.Standing.{access_after}
use Rattle.fs_app_audit.specs.Report.{audit_status, below, first_line}
use Rattle.fs_app_audit.specs.InPlace.{anew_text, costs_line, in_place_status, lines_in_place, offers_in_place, vacuous_line, written_cost}

-- ---- what is asked of a test

-- Where something is said of each FENCE, those that name devices count too, and the test without FENCEs has none that
-- orders memory. What is written for use keeps each FENCE that names devices, with all that it orders; then only the
-- others count.
abbrev pub asked : Purpose → Test → Test
asked Advise t = t
asked Write t = eased t

-- the test without FENCEs
abbrev pub bare : Purpose → Test → Test
bare Advise t = eased (unfenced t)
bare Write t = unfenced t

-- ---- the FENCEs as they are written, as a placement over the slots of the unfenced test

-- a fence of this kind at the slot of this access, if there are both
abbrev pub fence_there : ℕ → List Instr → Option ℕ → Option FenceKind → Option (Slot × FenceKind)
fence_there hart code (Some access) (Some kind) = Some (slot_of hart code access, kind)
fence_there hart code _ _ = None

abbrev pub written_fence : ℕ → List Instr → ℕ × Instr → List (Option (Slot × FenceKind))
written_fence hart code numbered =
    if is_fence numbered.1 then fence_there hart code (access_after code numbered.0) (memory_kind numbered.1) ∷ [] else []

abbrev pub code_fences : ℕ × List Instr → List (Option (Slot × FenceKind))
code_fences numbered = flat_map (written_fence numbered.0 numbered.1) (enumerate_from 0 numbered.1)

-- of each FENCE in turn its slot and its kind; none of one that stands at no access
abbrev pub written_fences : List (List Instr) → List (Option (Slot × FenceKind))
written_fences codes = flat_map code_fences (enumerate_from 0 codes)

-- its slot is there, with no fence yet, and its kind has a price
abbrev pub fits_one : PriceTable → List Entry → Option (Slot × FenceKind) → Bool
fits_one prices p None = false
fits_one prices p (Some fence) = fits (Some prices) p fence

-- put there where it fits
abbrev pub with_one : PriceTable → List Entry → Option (Slot × FenceKind) → List Entry
with_one prices p None = p
with_one prices p (Some fence) = if fits (Some prices) p fence then with_kind fence.0 (Some fence.1) p else p

-- each put in its turn where it fits; and do all fit?
abbrev pub taken_up : PriceTable → List Entry → List (Option (Slot × FenceKind)) → List Entry
taken_up prices p [] = p
taken_up prices p (fence ∷ fences) = taken_up prices (with_one prices p fence) fences

abbrev pub all_fit : PriceTable → List Entry → List (Option (Slot × FenceKind)) → Bool
all_fit prices p [] = true
all_fit prices p (fence ∷ fences) = fits_one prices p fence && all_fit prices (with_one prices p fence) fences

-- ---- the answer

-- no fence of the placement is for nothing
abbrev pub costs_there : PriceTable → Entry → Bool
costs_there prices e = is_none e.kind || not (weight_of prices e.slot == 0)

abbrev pub costs_everywhere : PriceTable → List Entry → Bool
costs_everywhere prices = list_all (costs_there prices)

-- The fences that are advised: those that are written, where each of them costs something, they forbid the outcome, and
-- nothing cheaper does; or else the first of the cheapest. Or none forbid the outcome, and there is an execution that
-- shows it.
abbrev pub IsKept : Test → PriceTable → List Entry → Type 0
IsKept bare prices written = (costs_everywhere prices written ≡ true) × IsLeastCost bare prices written

abbrev pub IsAdvised : Test → PriceTable → (written : List Entry) → Option (List Entry) → Type 0
IsAdvised bare prices written (Some p) =
    ((p ≡ written) × IsKept bare prices written) ⊎ (IsCheapest bare prices p × (IsKept bare prices written → ⊥))
IsAdvised bare prices written None = (e : Execution) × RefutesAll bare e

-- What was found of a test file and prices.
pub record Findings : Type 0 where
  -- as it is written
  pub test : Test
  pub prices : PriceTable
  -- of each hart's instructions, in the file
  pub lines : List (List ℕ)
  -- of the test as it is written
  pub kind : Kind
  -- the codes with the FENCEs that count
  pub codes : List (List Instr)
  -- without FENCEs
  pub bare : Test
  -- the FENCEs that fit one by one, as a placement, and whether all do
  pub written : List Entry
  pub all : Bool
  -- the fences that are advised
  pub best : Option (List Entry)

-- they are true of the bytes
pub record AreFound (purpose : Purpose) (test prices : List ℕ) (f : Findings) : Type 0 where
  pub reads : Reads test f.test
  pub priced : ArePricesOf prices f.prices
  pub stand : StandIn test f.lines
  pub tested : (why : List ℕ) × (witness : Option Witness) × IsTestedAs f.test f.kind why witness
  pub codes : f.codes ≡ (asked purpose f.test).codes
  pub bare : IsSame f.bare (bare purpose f.test)
  pub written : f.written ≡ taken_up f.prices (no_fences f.bare) (written_fences f.codes)
  pub all : f.all ≡ all_fit f.prices (no_fences f.bare) (written_fences f.codes)
  pub best : IsAdvised f.bare f.prices f.written f.best

-- ---- what is printed

abbrev pub audit_text : Findings → List ℕ
audit_text f = first_line f.kind f.prices (if f.all then Some f.written else None) f.best ++ below f.lines f.test.codes f.best

-- what `--anew` prints
pub record IsAnew (test prices text : List ℕ) (status : Status) : Type 0 where
  pub findings : Findings
  pub found : AreFound Advise test prices findings
  pub shown : text ≡ audit_text findings
  pub ends : status ≡ audit_status findings.kind findings.codes findings.best

-- the test with the advised fences, where some rule the outcome out; else nothing
abbrev pub fenced_text : Test → Option (List Entry) → List ℕ
fenced_text bare None = []
fenced_text bare (Some p) = printed (fenced bare p)

-- what `--write` prints
pub record IsMended (test prices text : List ℕ) (status : Status) : Type 0 where
  pub findings : Findings
  pub found : AreFound Write test prices findings
  pub shown : text ≡ fenced_text findings.bare findings.best
  pub ends : status ≡ audit_status findings.kind findings.codes findings.best

-- ---- in place

-- the first line, and the lines of the FENCEs
abbrev pub in_place_text : Findings → List Entry → List ℕ
in_place_text f p =
    costs_line (written_cost (offers_in_place f.prices f.test.codes)) (offers.cost (offers_in_place f.prices f.test.codes) p) (anew_text f.prices f.best)
    ++ lines_in_place f.prices f.lines f.test.codes p

-- The test is forbidden as it is written. In the test whose FENCEs order no memory, these fences in their places are the
-- cheapest that rule the outcome out, of several the first.
pub record IsInPlace (test prices text : List ℕ) (status : Status) : Type 0 where
  pub findings : Findings
  pub found : AreFound Advise test prices findings
  pub forbidden : findings.kind ≡ verdict.Forbidden
  pub empty : Test
  pub same : IsSame empty (emptied findings.test)
  pub advised : List Entry
  pub cheapest : offers.IsCheapest empty (offers_in_place findings.prices findings.test.codes) advised
  pub shown : text ≡ in_place_text findings advised
  pub ends : status ≡ in_place_status findings.prices findings.test.codes advised

-- what it costs, and why it is vacuous
pub record IsVacuousAudit (test prices text : List ℕ) (status : Status) : Type 0 where
  pub own : Test
  pub reads : Reads test own
  pub table : PriceTable
  pub priced : ArePricesOf prices table
  pub why : List ℕ
  pub tested : IsTestedAs own verdict.Vacuous why None
  pub shown : text ≡ vacuous_line (written_cost (offers_in_place table own.codes)) why
  pub ends : status ≡ ending.Vacuous

-- Its text is as it was but for FENCEs. It reads as the test in which FENCEs are those of the placement, each in its own
-- place, and of that test no execution shows the outcome.
pub record IsRewritten (test : List ℕ) (own : Test) (p : List Entry) (text : List ℕ) : Type 0 where
  pub kept : keeps false test text ≡ true
  pub made : Test
  pub reads : Reads text made
  pub same : IsSame made (rewritten p own)
  pub forbidden : IsForbidden made

-- 0 where nothing changed, else 1
abbrev pub written_status : (test text : List ℕ) → Status
written_status test text = if bytes_eq test text then ending.Success else ending.Denied

-- the test is forbidden as it is written, and has in its text the fences that are advised in place
pub record IsWrittenInPlace (test prices text : List ℕ) (status : Status) : Type 0 where
  pub own : Test
  pub reads : Reads test own
  pub table : PriceTable
  pub priced : ArePricesOf prices table
  pub forbidden : IsForbidden own
  pub empty : Test
  pub same : IsSame empty (emptied own)
  pub advised : List Entry
  pub cheapest : offers.IsCheapest empty (offers_in_place table own.codes) advised
  pub shown : IsRewritten test own advised text
  pub ends : status ≡ written_status test text

-- what `--write` prints: the file with other FENCEs, where the test is forbidden as it is written; or the test with the
-- cheapest fences, in the printed form
pub data IsWritten (test prices text : List ℕ) (status : Status) : Type 0 where
  of_file : IsWrittenInPlace test prices text status → IsWritten test prices text status
  of_printed : IsMended test prices text status → IsWritten test prices text status

-- how much less the fences cost that are advised in place
abbrev pub saved_in_place : Findings → List Entry → ℕ
saved_in_place f p =
    written_cost (offers_in_place f.prices f.test.codes) - offers.cost (offers_in_place f.prices f.test.codes) p

-- what is printed, by what the test is as it is written, and how much can be saved in place
pub data IsAudited (test prices text : List ℕ) (status : Status) (said : Kind) (saved : ℕ) : Type 0 where
  of_forbidden : (in_place : IsInPlace test prices text status) → said ≡ verdict.Forbidden
      → saved ≡ saved_in_place in_place.findings in_place.advised → IsAudited test prices text status said saved
  of_vacuous : IsVacuousAudit test prices text status → said ≡ verdict.Vacuous → saved ≡ 0
      → IsAudited test prices text status said saved
  of_allowed : (anew : IsAnew test prices text status) → anew.findings.kind ≡ verdict.Allowed
      → said ≡ verdict.Allowed → saved ≡ 0 → IsAudited test prices text status said saved

-- what `--anew` prints, and what the test is as it is written
abbrev pub IsAuditedAnew : (test prices text : List ℕ) → Status → (said : Kind) → Type 0
IsAuditedAnew test prices text status said = (anew : IsAnew test prices text status) × (said ≡ anew.findings.kind)

-- ---- the fault

-- something is said of the test as it is written
abbrev pub IsTested : Test → Type 0
IsTested t = (k : Kind) × (why : List ℕ) × (witness : Option Witness) × IsTestedAs t k why witness

-- the first fault: of the prices; else of the test as a file; else of it as it is written; else of the search for
-- fences. Want of memory may come in place of any answer.
pub data IsFirstFault (purpose : Purpose) (test prices : List ℕ) (limit : ℕ) : Fault → Type 0 where
  of_prices : {fault : Fault} → IsPricesFault (Some prices) fault → IsFirstFault purpose test prices limit fault
  of_test : {fault : Fault} (table : PriceTable) → ArePricesOf prices table → IsTestFault test fault
      → IsFirstFault purpose test prices limit fault
  of_written : {fault : Fault} (table : PriceTable) (t : Test) → ArePricesOf prices table → Reads test t → IsFaultOf t fault
      → IsFirstFault purpose test prices limit fault
  of_search : {fault : Fault} (table : PriceTable) (t u : Test) → ArePricesOf prices table → Reads test t → IsTested t
      → IsSame u (bare purpose t) → IsUnanswered u table limit fault → IsFirstFault purpose test prices limit fault
  of_memory : IsFirstFault purpose test prices limit Memory

abbrev pub IsFirstAnewFault : (test prices : List ℕ) (limit : ℕ) → Fault → Type 0
IsFirstAnewFault = IsFirstFault Advise

-- the same faults; and where the test is forbidden as it is written, those of the search in place
pub data IsFirstPlacesFault (purpose : Purpose) (test prices : List ℕ) (limit : ℕ) : Fault → Type 0 where
  of_anew : {fault : Fault} → IsFirstFault purpose test prices limit fault → IsFirstPlacesFault purpose test prices limit fault
  of_places : {fault : Fault} (table : PriceTable) (t u : Test) → ArePricesOf prices table → Reads test t → IsTested t
      → IsSame u (emptied t) → IsLimitFault (record { test = u; offers = offers_in_place table t.codes }) limit fault
      → IsFirstPlacesFault purpose test prices limit fault

abbrev pub IsFirstAuditFault : (test prices : List ℕ) (limit : ℕ) → Fault → Type 0
IsFirstAuditFault = IsFirstPlacesFault Advise

abbrev pub IsFirstWrittenFault : (test prices : List ℕ) (limit : ℕ) → Fault → Type 0
IsFirstWrittenFault = IsFirstPlacesFault Write

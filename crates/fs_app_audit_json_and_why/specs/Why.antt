-- What `audit --why` tells below the lines of `audit`, and its fault.
use Rattle.std.specs.Prelude.{◌≡◌, ◌⊎◌, ℕ, Option, None, Some, List, [], ◌∷◌, ◌++◌, codes}
use Rattle.fs_kinds.specs.declared.fault.Fault.{Fault}
use Rattle.fs_kinds.specs.declared.kind.Kind.{Kind as FenceKind}
use Rattle.fs_kinds.specs.declared.placement.Entry.{Entry}
use Rattle.fs_kinds.specs.declared.slot.Slot.{Slot}
use Rattle.fs_kinds.specs.Kind.{word}
use Rattle.fs_kinds.specs.Placement.{with_kind}
use Rattle.fs_kinds.specs.PriceTable.{PriceTable}
use Rattle.fs_model.specs.declared.test.Test.{Test}
use Rattle.fs_model.specs.Allows.{no_fences}
use Rattle.fs_model.specs.Test.{IsSame}
use Rattle.fs_model.specs.Witness.{Witness}
use Rattle.fs_model_laws.specs.InPlace.{emptied}
use Rattle.fs_board_offers.specs.Offers.{IsCheapest}
use Rattle.fs_cert_evidence.specs.CandidateFaults.{IsCandidateFault}
use Rattle.fs_litmus.specs.Lines.{StandIn}
use Rattle.fs_litmus.specs.Reads.{Reads}
use Rattle.fs_app_why.specs.declared.fences.Fence.TheVariants.{Written}
use Rattle.fs_app_why.specs.Kinds.{ChainKind}
use Rattle.fs_app_place_and_order.specs.Place.{ArePricesOf}
use Rattle.fs_app_test.specs.declared.said.Kind.{Kind}
use Rattle.fs_app_test.specs.declared.said.Kind.TheVariants.{Allowed, Faulty, Forbidden, Vacuous}
use Rattle.fs_app_test.specs.SaidVerdicts.{IsTestedAs}
use Rattle.fs_app_audit.specs.Audit.{IsFirstAuditFault}
use Rattle.fs_app_audit.specs.InPlace.{offers_in_place}
use Rattle.fs_app_why.specs.declared.telling.Telling.{Telling}
use Rattle.fs_app_why.specs.Counted.{in_text}
use Rattle.fs_app_why.specs.Told.{fence_key}
use Rattle.fs_app_why.specs.Why.{TellsForbidden, TellsUnless, allowed_heading, asked, lacks_written, unwritten_text, without_heading}
use Rattle.fs_app_why.specs.Words.{place_text}
use Rattle.fs_app_why.specs.inner.Told.{TellsExecution}
use Rattle.fs_app_audit_json_and_why.specs.Advised.{as_advised}

-- ---- of a fence that is advised

-- such as `w,w at P0:5 (line 15): in cycle 3`: the fence, and in which of these kinds of contradictions it is needed
abbrev pub fence_line : (lines : List (List ℕ)) → Telling → List ChainKind → Slot → FenceKind → List ℕ
fence_line lines telling kinds place kind =
    codes "\n" ++ (word kind ++ (codes " at " ++ (place_text lines (record { hart = place.hart; at = place.at })
    ++ (in_text telling kinds (fence_key (Written place.hart place.at)) ++ codes "\n"))))

-- an execution of the test with these fences that shows its outcome, below this heading
abbrev pub TellsSome : Test → List Entry → (lines : List (List ℕ)) → (heading text : List ℕ) → Type 0
TellsSome t p lines heading text = (w : Witness) × TellsExecution t p lines heading w text

-- one of the test without the fence in this place, the others as advised
abbrev pub TellsWithout : Test → (lines : List (List ℕ)) → List Entry → Slot → (text : List ℕ) → Type 0
TellsWithout t lines p place text =
    (u : Test) × IsSame u (as_advised t (with_kind place None p)) × TellsSome u (no_fences u) lines without_heading text

module _ (t : Test) (lines : List (List ℕ)) (telling : Telling) (kinds : List ChainKind) (p : List Entry) where
  -- of a place in which no fence is advised nothing
  abbrev pub TellsPlace : Slot → Option FenceKind → (text : List ℕ) → Type 0
  TellsPlace place None text = text ≡ []
  TellsPlace place (Some kind) text =
      (without : List ℕ) × TellsWithout t lines p place without × (text ≡ fence_line lines telling kinds place kind ++ without)

  -- of those of these places that are asked for, in their order
  abbrev pub TellsPlaces : List Entry → (text : List ℕ) → Type 0
  TellsPlaces [] text = text ≡ []
  TellsPlaces (entry ∷ entries) text =
      (told : List ℕ) × (others : List ℕ) × TellsPlace entry.slot (asked telling entry).kind told
      × TellsPlaces entries others × (text ≡ told ++ others)

-- ---- of a test that is forbidden as it is written

-- these fences are advised in place
pub record AreAdvised (t : Test) (table : PriceTable) (p : List Entry) : Type 0 where
  pub empty : Test
  pub same : IsSame empty (emptied t)
  pub cheapest : IsCheapest empty (offers_in_place table t.codes) p

-- first why the test as advised rules the outcome out; then what is told of each fence that is advised
pub record TellsAdvised (t : Test) (lines : List (List ℕ)) (telling : Telling) (p : List Entry) (text : List ℕ) : Type 0 where
  pub advised : Test
  pub same : IsSame advised (as_advised t p)
  pub why : List ℕ
  pub forbidden : TellsForbidden advised lines telling (no_fences advised) why
  pub fences : List ℕ
  pub tells : TellsPlaces t lines telling forbidden.kinds p p fences
  pub told : text ≡ why ++ fences

abbrev pub TellsInPlace : Test → PriceTable → (lines : List (List ℕ)) → Telling → (text : List ℕ) → Type 0
TellsInPlace t table lines telling text =
    (p : List Entry) × AreAdvised t table p × TellsAdvised t lines telling p text

-- ---- of a test, by what it is as it is written

abbrev pub TellsAs : Kind → Test → PriceTable → (lines : List (List ℕ)) → Telling → (text : List ℕ) → Type 0
TellsAs Forbidden t table lines telling text =
    TellsUnless (lacks_written telling t) (unwritten_text telling) (TellsInPlace t table lines telling) text
TellsAs Allowed t table lines telling text = TellsSome t (no_fences t) lines allowed_heading text
TellsAs Vacuous t table lines telling text = text ≡ []
TellsAs Faulty t table lines telling text = ⊥

-- what is told by what is said of the test as it is written
pub record IsAuditWhy (telling : Telling) (test prices text : List ℕ) : Type 0 where
  pub own : Test
  pub reads : Reads test own
  pub table : PriceTable
  pub priced : ArePricesOf prices table
  pub lines : List (List ℕ)
  pub stand : StandIn test lines
  pub kind : Kind
  pub why : List ℕ
  pub witness : Option Witness
  pub tested : IsTestedAs own kind why witness
  pub tells : TellsAs kind own table lines telling text

-- ---- the fault

-- the runs of the test as these fences advise it, or all of them but one, can't be listed, or its candidates are too many
pub record IsAdvisedFault (t : Test) (p : List Entry) (fault : Fault) : Type 0 where
  pub judged : Test
  pub advised : IsSame judged (as_advised t p) ⊎ ((place : Slot) × IsSame judged (as_advised t (with_kind place None p)))
  pub met : IsCandidateFault judged fault

-- that of `audit`, or else of judging a test as it is advised
pub data IsFirstWhyFault (test prices : List ℕ) (limit : ℕ) : Fault → Type 0 where
  of_audit : {fault : Fault} → IsFirstAuditFault test prices limit fault → IsFirstWhyFault test prices limit fault
  of_advised : {fault : Fault} (table : PriceTable) (t : Test) (p : List Entry) → ArePricesOf prices table → Reads test t
      → AreAdvised t table p → IsAdvisedFault t p fault → IsFirstWhyFault test prices limit fault

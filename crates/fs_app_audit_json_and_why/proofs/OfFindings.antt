-- The object of what is found is that of its lines.
use Rattle.std.proofs.Common.{◌≡◌, ℕ, List, Option, refl, sym, subst}
use Rattle.fs_kinds.specs.declared.placement.Entry.{Entry}
use Rattle.fs_kinds.specs.PriceTable.{PriceTable}
use Rattle.fs_model.specs.declared.test.Test.{Test}
use Rattle.fs_model.specs.Test.{IsSame}
use Rattle.fs_model.specs.Witness.{Witness}
use Rattle.fs_model_laws.specs.InPlace.{emptied}
use Rattle.fs_board_offers.specs.Offers as offers
use Rattle.fs_litmus.specs.Reads.{Reads}
use Rattle.fs_report.specs.Objects.{json_line}
use Rattle.fs_app_io.specs.declared.status.Status.{Status}
use Rattle.fs_app_io.specs.declared.status.Status.TheVariants as ending
use Rattle.fs_app_place_and_order.specs.Place.{ArePricesOf}
use Rattle.fs_app_test.specs.declared.said.Kind.{Kind}
use Rattle.fs_app_test.specs.declared.said.Kind.TheVariants as verdict
use Rattle.fs_app_test.specs.SaidVerdicts.{IsTestedAs}
use Rattle.fs_app_audit.specs.Audit.{AreFound, Findings, audit_text, in_place_text, of_allowed, of_forbidden, of_vacuous, saved_in_place}
use Rattle.fs_app_audit.specs.InPlace.{in_place_status, offers_in_place, vacuous_line, written_cost}
use Rattle.fs_app_audit.specs.Report.{audit_status}
use Rattle.fs_app_audit.specs.declared.asked.Purpose.TheVariants.{Advise}
use Rattle.fs_app_audit.proofs.Answered.{vacuous}
use Rattle.fs_app_audit_json_and_why.specs.Answered.{IsObjectAnew, IsObjectAudit}
use Rattle.fs_app_audit_json_and_why.specs.Objects.{anew_value, in_place_value, vacuous_value}

module _ (name test prices text : List ℕ) (status : Status) (said : Kind) (saved : ℕ) where
  pub of_place : (f : Findings) (empty : Test) (p : List Entry) → AreFound Advise test prices f → f.kind ≡ verdict.Forbidden
      → IsSame empty (emptied f.test) → offers.IsCheapest empty (offers_in_place f.prices f.test.codes) p
      → text ≡ json_line (in_place_value name f p) → status ≡ in_place_status f.prices f.test.codes p
      → said ≡ verdict.Forbidden → saved ≡ saved_in_place f p → IsObjectAudit name test prices text status said saved
  of_place f empty p found forbidden same cheapest shown ends kind less = record {
    lines = in_place_text f p;
    audit = of_forbidden
        (record {
          findings = f;
          found = found;
          forbidden = forbidden;
          empty = empty;
          same = same;
          advised = p;
          cheapest = cheapest;
          shown = refl;
          ends = ends;
        }) kind less;
    shown = shown;
  }

  pub of_none : (own : Test) (table : PriceTable) (why : List ℕ) (w : Option Witness) → Reads test own → ArePricesOf prices table
      → IsTestedAs own verdict.Vacuous why w
      → text ≡ json_line (vacuous_value name why (written_cost (offers_in_place table own.codes))) → status ≡ ending.Vacuous
      → said ≡ verdict.Vacuous → saved ≡ 0 → IsObjectAudit name test prices text status said saved
  of_none own table why w reads priced tested shown ends kind none = record {
    lines = vacuous_line (written_cost (offers_in_place table own.codes)) why;
    audit = of_vacuous
        (record {
          own = own;
          reads = reads;
          table = table;
          priced = priced;
          why = why;
          tested = vacuous own verdict.Vacuous why w refl tested;
          shown = refl;
          ends = ends;
        }) kind none;
    shown = shown;
  }

  pub of_possible : (f : Findings) → AreFound Advise test prices f → f.kind ≡ verdict.Allowed
      → text ≡ json_line (anew_value name f) → status ≡ audit_status f.kind f.codes f.best → said ≡ verdict.Allowed
      → saved ≡ 0 → IsObjectAudit name test prices text status said saved
  of_possible f found allowed shown ends kind none = record {
    lines = audit_text f;
    audit = of_allowed (record { findings = f; found = found; shown = refl; ends = ends }) allowed kind none;
    shown = shown;
  }

  pub of_findings : (f : Findings) → AreFound Advise test prices f → text ≡ json_line (anew_value name f)
      → status ≡ audit_status f.kind f.codes f.best → said ≡ f.kind → IsObjectAnew name test prices text status said
  of_findings f found shown ends kind = record {
    lines = audit_text f;
    anew = record { findings = f; found = found; shown = refl; ends = ends };
    kind = kind;
    shown = shown;
  }

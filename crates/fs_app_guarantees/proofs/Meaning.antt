-- An answer means what it says of the fenced tests.
use Rattle.std.proofs.Common.{◌≡◌, inl, inr, ℕ, nat_lt, ◌==◌, ◌&&◌, ◌||◌, true, List, Ok, refl, sym, subst, length, ap, ap₂, ◌∙◌}
use Rattle.fs_kinds.specs.declared.placement.Entry.{Entry}
use Rattle.fs_kinds.specs.Placement.{precedes}
use Rattle.fs_kinds.specs.PriceTable.{PriceTable}
use Rattle.fs_model.specs.declared.test.Test.{Test}
use Rattle.fs_model.specs.Fenced.{fenced}
use Rattle.fs_model.specs.Printed.{printed}
use Rattle.fs_model.specs.Test.{IsTest, IsSame}
use Rattle.fs_litmus.specs.Reads.{Reads}
use Rattle.fs_litmus.proofs.ReadsTest.{is_test}
use Rattle.fs_litmus.proofs.ReadsOnce.{reads_once}
use Rattle.fs_app_guarantees.proofs.KeptPlacements.{cheapest_same, of_witness_same, refutes_all_same}
use Rattle.fs_app_guarantees.proofs.KeptRuns.{run_fault_same}
use Rattle.fs_cert_evidence.specs.Texts.{fenced_lines, witness_text}
use Rattle.fs_cert_evidence.specs.WitnessFile.{IsWitnessFile}
use Rattle.fs_litmus.proofs.Fencing.{read_back}
use Rattle.fs_model.specs.Allows.{Allows, IsPlacement, is_better}
use Rattle.fs_model_laws.proofs.FencedSame.{allows_as_read}
use Rattle.fs_model_laws.proofs.Filled.{filled-shows}
use Rattle.fs_app_io.specs.declared.status.Status.{Status}
use Rattle.fs_app_place_and_order.specs.Place.{ArePricesOf}
use Rattle.fs_app_guarantees.specs.Headline.{IsFencedTest, StaysPossible, IsRuledOut, CheapestRulesOut, NothingRulesOut, IsTrueAnswer, IsTrueOfFiles}
use Rattle.fs_app_guarantees.proofs.SamePrices.{Agree, agree, same_placement, same_costs}
use Rattle.fs_app_solve_and_check.specs.Solve.{PrintsCheapest, PrintsNone, IsSolved}

pub same_itself : (t : Test) → IsSame t t
same_itself t = record { name = refl; codes = refl; starts = refl; locations = refl; quantifier = refl; condition = refl }

-- the fenced test is one, wherever it was read from
is_same : (t : Test) (p : List Entry) (u : Test) → IsTest t → IsFencedTest t p u → IsSame u (fenced t p)
is_same t p u h is = elim is [
  | inl e ↦ subst (λ v. IsSame v (fenced t p)) (sym e) (same_itself (fenced t p))
  | inr read ↦ read_back t p (printed (fenced t p)) (Ok u) h refl read
]

module _ (t : Test) (h : IsTest t) where
  -- what the test allows with the fences, the fenced test allows as it stands
  pub stays : (p : List Entry) → Allows t p → StaysPossible t p
  stays p allowed u is = (allows_as_read t p u (is_same t p u h is)).1 allowed

  pub ruled_out : (p : List Entry) → (Allows t p → ⊥) → IsRuledOut t p
  ruled_out p forbids u is possible = forbids ((allows_as_read t p u (is_same t p u h is)).0 possible)

  -- the answer for one table, said of another one with the same prices
  pub cheapest : (table other : PriceTable) (text : List ℕ) (status : Status) → Agree table other → PrintsCheapest t other text status → CheapestRulesOut t table text
  cheapest table other text status same a =
      let p = a.placement in
      let moved = same_placement t table other same h.bounded in
      let costs = same_costs t table other same h.bounded in
      let placed : IsPlacement t table p = (moved p).1 a.cheapest.placement in
      record {
        placement = p;
        shown = a.shown ∙ ap (λ n. fenced_lines n p) (sym (costs p placed.slots));
        placed = placed;
        ruled_out = ruled_out p a.cheapest.forbids;
        better = λ q over better.
            let there : is_better other q p ≡ true =
            ap₂ (λ (m n : ℕ). nat_lt m n || (m == n) && precedes q p) (sym (costs q over.slots)) (sym (costs p placed.slots)) ∙ better in
            stays q (a.cheapest.better q ((moved q).0 over) there);
      }

  none : (text : List ℕ) (status : Status) → PrintsNone t text status → NothingRulesOut t text
  none text status a = record {
    witness = a.witness;
    shown = a.shown;
    says = a.says;
    shows = (a.execution, a.given, a.refutes.execution, a.refutes.outcome);
    possible = λ q over. stays q (a.execution, filled-shows t a.execution a.refutes q over);
  }

-- what is printed for a test is printed for the same one
pub cheapest_of_same : (t u : Test) (prices : PriceTable) (text : List ℕ) (status : Status) → IsSame t u → PrintsCheapest t prices text status → PrintsCheapest u prices text status
cheapest_of_same t u prices text status s a =
    record { placement = a.placement; cheapest = (cheapest_same t u s prices a.placement).0 a.cheapest; shown = a.shown; ends = a.ends }

pub none_of_same : (t u : Test) (text : List ℕ) (status : Status) → IsSame t u → PrintsNone t text status → PrintsNone u text status
none_of_same t u text status s a = record {
  witness = a.witness;
  execution = a.execution;
  given = (of_witness_same t u s a.witness a.execution).0 a.given;
  refutes = (refutes_all_same t u s a.execution).0 a.refutes;
  says = subst (λ codes. IsWitnessFile (length codes) (witness_text a.witness) a.witness) s.codes a.says;
  shown = a.shown;
  ends = a.ends;
}

-- the answer is true of each test and prices that the bytes read as
holds_of : (test prices text : List ℕ) (status : Status) → IsSolved test prices text status → (t : Test) (table : PriceTable) → Reads test t
    → ArePricesOf prices table → IsTrueAnswer t table text status
holds_of test prices text status s t table reads priced =
    let same : IsSame s.the_test t = reads_once test s.the_test t s.reads reads in
    let h : IsTest t = is_test test t reads in (
      λ f fault. s.listed f ((run_fault_same s.the_test t same f).1 fault),
      elim s.answer [
        | inl a ↦ inl (a.ends, cheapest t h table s.table text status (agree prices table s.table priced s.priced) (cheapest_of_same s.the_test t s.table text status same a))
        | inr a ↦ inr (a.ends, none t h text status (none_of_same s.the_test t text status same a))
      ],
    )

pub holds : (test prices text : List ℕ) (status : Status) → IsSolved test prices text status → IsTrueOfFiles test prices text status
holds test prices text status s = (((s.the_test, s.reads), (s.table, s.priced)), holds_of test prices text status s)

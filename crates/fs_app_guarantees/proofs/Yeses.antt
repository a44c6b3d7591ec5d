-- What `check` prints below a yes is true.
use Rattle.std.proofs.Common.{◌≡◌, ◌<◌, inl, inr, ℕ, Some, List, refl, sym, subst, ap}
use Rattle.fs_kinds.specs.declared.kind.Kind.TheVariants.{RwRw}
use Rattle.fs_kinds.specs.declared.placement.Entry.{Entry}
use Rattle.fs_kinds.specs.Placement.{all_with}
use Rattle.fs_kinds.specs.PriceTable.{PriceTable, cost}
use Rattle.fs_model.specs.declared.test.Test.{Test}
use Rattle.fs_model.specs.Slots.{slots}
use Rattle.fs_model.specs.Test.{IsTest, IsSame}
use Rattle.fs_litmus.specs.Reads.{Reads}
use Rattle.fs_litmus.proofs.ReadsTest.{is_test}
use Rattle.fs_litmus.proofs.ReadsOnce.{reads_once}
use Rattle.fs_app_guarantees.proofs.KeptPlacements.{cheapest_same, least_cost_same, of_witness_same, refutes_all_same}
use Rattle.fs_app_guarantees.proofs.KeptCandidates.{cycles_fault_same}
use Rattle.fs_model.specs.Allows.{IsCheapest, RefutesAll}
use Rattle.fs_model.specs.Execution.{Execution}
use Rattle.fs_model.specs.Witness.{Witness, IsOfWitness}
use Rattle.fs_cert_evidence.specs.Certificate.{Certificate, Version, First, Second, Fourth, IsBest, IsLeastCost}
use Rattle.fs_cert_evidence.specs.CandidateFaults.{HasNoCyclesFault}
use Rattle.fs_cert_evidence.specs.CertificateFile.{IsCertificateFile}
use Rattle.fs_cert_evidence.specs.Texts.{fenced_lines, none_lines}
use Rattle.fs_check_certificate.proofs.OneFile.{file_once}
use Rattle.fs_model_laws.proofs.Filled.{filled-shows}
use Rattle.fs_app_io.specs.declared.status.Status.TheVariants.{Success, Denied}
use Rattle.fs_app_place_and_order.specs.Place.{ArePricesOf}
use Rattle.fs_app_guarantees.specs.Checked.{LeastRulesOut, IsBestAnswer, IsTrueAnswerBelow, IsTrueYes}
use Rattle.fs_app_guarantees.specs.Headline.{CheapestRulesOut, NothingRulesOut}
use Rattle.fs_app_guarantees.proofs.Meaning.{cheapest, ruled_out, stays}
use Rattle.fs_app_guarantees.proofs.SamePrices.{Agree, agree, same_placement, same_costs}
use Rattle.fs_app_guarantees.proofs.Witnesses.{given_file}
use Rattle.fs_app_solve_and_check.specs.Check.{IsChecked}

not_denied : Success ≡ Denied → ⊥
not_denied e = cc

module _ (t : Test) (h : IsTest t) where
  least : (table other : PriceTable) (p : List Entry) → Agree table other → IsLeastCost t other p → LeastRulesOut t table (fenced_lines (cost other p) p)
  least table other p same a =
      let moved = same_placement t table other same h.bounded in
      let costs = same_costs t table other same h.bounded in
      record {
        placement = p;
        shown = ap (λ n. fenced_lines n p) (sym (costs p a.placement.slots));
        placed = (moved p).1 a.placement;
        ruled_out = ruled_out t h p a.forbids;
        cheaper = λ q over less.
            stays t h q (a.cheaper q ((moved q).0 over) (subst (λ n. n < cost other p) (costs q over.slots) (subst (λ n. cost table q < n) (costs p a.placement.slots) less)));
      }

  first_cheapest : (table other : PriceTable) (p : List Entry) → Agree table other → IsCheapest t other p
      → CheapestRulesOut t table (fenced_lines (cost other p) p)
  first_cheapest table other p same a =
      cheapest t h table other (fenced_lines (cost other p) p) Success same
      (record { placement = p; cheapest = a; shown = refl; ends = refl })

  best : (version : Version) (table other : PriceTable) (p : List Entry) → Agree table other → IsBest version t other p
      → IsBestAnswer version t table (fenced_lines (cost other p) p)
  best First table other p same a = least table other p same a
  best Second table other p same a = first_cheapest table other p same a
  best Fourth table other p same a = first_cheapest table other p same a

  allows : (w : Witness) (e : Execution) → IsOfWitness t w e → RefutesAll t e → NothingRulesOut t (none_lines w)
  allows w e given refutes = record {
    witness = w;
    shown = refl;
    says = given_file t (all_with (Some RwRw) (slots t)) e h.bounded refutes.execution w given;
    shows = (e, given, refutes.execution, refutes.outcome);
    possible = λ q over. stays t h q (e, filled-shows t e refutes q over);
  }

best_of_same : (version : Version) (t u : Test) → IsSame t u → (prices : PriceTable) (p : List Entry) → IsBest version t prices p → IsBest version u prices p
best_of_same First t u same prices p a = (least_cost_same t u same prices p).0 a
best_of_same Second t u same prices p a = (cheapest_same t u same prices p).0 a
best_of_same Fourth t u same prices p a = (cheapest_same t u same prices p).0 a

-- the yes is true of each test, prices and certificate that the bytes read as
true_of : (test prices certificate text : List ℕ) → IsChecked test prices certificate text Success → (t : Test) (table : PriceTable) (c : Certificate)
    → Reads test t → ArePricesOf prices table → IsCertificateFile certificate c → IsTrueAnswerBelow c t table text
true_of test prices certificate text s t table c reads priced says =
    let same : IsSame s.the_test t = reads_once test s.the_test t s.reads reads in
    let h : IsTest t = is_test test t reads in
    let one : s.the_certificate ≡ c = file_once certificate s.the_certificate c s.says says in
    let prices_are = agree prices table s.table priced s.priced in (
      λ f fault.
          subst (λ (d : Certificate). HasNoCyclesFault d.cycles s.the_test) one s.listed f
          ((cycles_fault_same c.cycles s.the_test t same f).1 fault),
      elim s.verdict [
        | inl a ↦
            let p = a.placement in
            let there : IsBest c.version t s.table p =
            best_of_same c.version s.the_test t same s.table p (subst (λ (d : Certificate). IsBest d.version s.the_test s.table p) one a.best) in
            (fenced_lines (cost s.table p) p, a.shown, inl (best t h c.version table s.table p prices_are there))
        | inr other ↦ elim other [
          | inl a ↦
              let v = a.valid in (
                none_lines v.witness,
                a.shown,
                inr (allows t h v.witness v.execution
                    ((of_witness_same s.the_test t same v.witness v.execution).0 v.given) ((refutes_all_same s.the_test t same v.execution).0 v.refutes)),
              )
          | inr a ↦ absurd (not_denied a.ends)
        ]
      ],
    )

pub true_yes : (test prices certificate text : List ℕ) → IsChecked test prices certificate text Success → IsTrueYes test prices certificate text
true_yes test prices certificate text s =
    (((s.the_test, s.reads), (s.table, s.priced)), (s.the_certificate, s.says), true_of test prices certificate text s)

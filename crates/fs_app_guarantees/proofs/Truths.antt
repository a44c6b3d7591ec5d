-- What `solve`, `check` and `test` answer is true of the program and the outcome that the test is.
use Rattle.std.proofs.Common.{◌≡◌, ◌<◌, inl, inr, nat_lt, ◌==◌, ◌&&◌, ◌||◌, true, ℕ, Option, None, Some, List, refl, ap, ap₂, sym, subst, ◌∙◌, ◌++◌}
use Rattle.std.specs.Prelude.{codes}
use Rattle.serde_json.specs.Data.{Members}
use Rattle.fs_kinds.specs.declared.placement.Entry.{Entry}
use Rattle.fs_kinds.specs.Placement.{precedes}
use Rattle.fs_kinds.specs.PriceObject as prices
use Rattle.fs_kinds.specs.PriceTable.{PriceTable, cost}
use Rattle.fs_model.specs.declared.test.Test.{Test}
use Rattle.fs_model.specs.Allows as placed
use Rattle.fs_model.specs.Allows.{IsPlacement, RefutesAll, is_better}
use Rattle.fs_model.specs.Execution.{Execution}
use Rattle.fs_model.specs.OfTests.{program_of, outcome_of}
use Rattle.fs_model.specs.Test.{IsBounded}
use Rattle.fs_model.specs.Witness.{Witness, IsOfWitness}
use Rattle.fs_model_laws.proofs.FencedPrograms.{cheapest_alike, fenced_alike, none_alike, tested_alike}
use Rattle.fs_litmus.proofs.ReadsTest.{is_test}
use Rattle.fs_cert_evidence.specs.Certificate.{Certificate, Version, First, Second, Fourth, IsBest, IsLeastCost}
use Rattle.fs_cert_evidence.specs.CertificateFile.{IsCertificateFile, version_number}
use Rattle.fs_cert_evidence.specs.Texts.{fenced_lines, none_lines}
use Rattle.fs_check_certificate.proofs.OneFile.{file_once}
use Rattle.fs_app_io.specs.declared.status.Status.{Status}
use Rattle.fs_app_io.specs.declared.status.Status.TheVariants.{Success, Denied}
use Rattle.fs_app_io.specs.Status.{code}
use Rattle.fs_app_place_and_order.specs.Place.{ArePricesOf}
use Rattle.fs_app_test.specs.declared.said.Kind.{Kind}
use Rattle.fs_app_test.specs.declared.said.Kind.TheVariants as kind
use Rattle.fs_app_test.specs.SaidVerdicts as said
use Rattle.fs_app_solve_and_check.specs.Solve.{IsSolved}
use Rattle.fs_app_test.specs.Report.{kind_text}
use Rattle.fs_app_solve_and_check.specs.Check.{IsChecked}
use Rattle.fs_app_guarantees.specs.Meanings.{HavePrices, Solves, cheapest, nothing, IsLeast, Accepts, solved, least, Says, allowed, forbidden, vacuous}
use Rattle.fs_app_guarantees.proofs.FullFences.{shows}
use Rattle.fs_app_guarantees.proofs.SamePrices.{Agree, agree, same_placement, same_costs}

-- ---- prices

-- bytes that hold prices hold each table that is read from them
priced : (bytes : List ℕ) (table other : PriceTable) → ArePricesOf bytes other → HavePrices bytes table → ArePricesOf bytes table
priced bytes table other h k =
    let l = h.1.reads in
    let r = k.1 in
    let same : h.0 ≡ k.0 = cc in
    (k.0, subst (λ (ms : Members). prices.ArePrices bytes ms) same h.1, k.2)

module _ (t : Test) (bounded : IsBounded t) (table other : PriceTable) (same : Agree table other) where
  here : (p : List Entry) → IsPlacement t other p → IsPlacement t table p
  here p = (same_placement t table other same bounded p).1

  there : (p : List Entry) → IsPlacement t table p → IsPlacement t other p
  there p = (same_placement t table other same bounded p).0

  costs : (p : List Entry) → IsPlacement t table p → cost table p ≡ cost other p
  costs p is = same_costs t table other same bounded p is.slots

  lines : (p : List Entry) → IsPlacement t table p → fenced_lines (cost other p) p ≡ fenced_lines (cost table p) p
  lines p is = ap (λ n. fenced_lines n p) (sym (costs p is))

  better : (q p : List Entry) → IsPlacement t table q → IsPlacement t table p → is_better table q p ≡ true → is_better other q p ≡ true
  better q p first second is = ap₂ (λ (m n : ℕ). nat_lt m n || (m == n) && precedes q p) (sym (costs q first)) (sym (costs p second)) ∙ is

  cheapest_there : (p : List Entry) → placed.IsCheapest t other p → placed.IsCheapest t table p
  cheapest_there p a = record {
    placement = here p a.placement;
    forbids = a.forbids;
    better = λ q is over. a.better q (there q is) (better q p is (here p a.placement) over);
  }

  least_there : (p : List Entry) → IsLeastCost t other p → IsLeast (program_of t) (outcome_of t) table p
  least_there p a = record {
    placement = here p a.placement;
    rules_out = λ shown. a.forbids ((fenced_alike t p).0 shown);
    cheaper = λ q is less.
        (fenced_alike t q).1
        (a.cheaper q (there q is) (subst (λ n. n < cost other p) (costs q is) (subst (λ n. cost table q < n) (costs p (here p a.placement)) less)));
  }

  fences : (p : List Entry) (text : List ℕ) (status : ℕ) → placed.IsCheapest t other p → text ≡ fenced_lines (cost other p) p → status ≡ 0
      → Solves (program_of t) (outcome_of t) table text status
  fences p text status a shown ends =
      let is = cheapest_there p a in
      cheapest p ((cheapest_alike t table p).0 is) (shown ∙ lines p is.placement) ends

  least_fences : (p : List Entry) (text : List ℕ) (version : ℕ) → IsLeastCost t other p → version ≡ 1 → text ≡ codes "yes\n" ++ fenced_lines (cost other p) p
      → Accepts version (program_of t) (outcome_of t) table text
  least_fences p text version a first shown =
      let is = least_there p a in
      least p first is (shown ∙ ap (λ (below : List ℕ). codes "yes\n" ++ below) (lines p is.placement))

none : (t : Test) (table : PriceTable) (w : Witness) (e : Execution) (text : List ℕ) (status : ℕ) → IsOfWitness t w e → RefutesAll t e
    → text ≡ none_lines w → status ≡ 1 → Solves (program_of t) (outcome_of t) table text status
none t table w e text status given refutes shown ends =
    nothing w ((none_alike t).0 (e, refutes)) (shows t w e given refutes) shown ends

-- ---- `solve`

pub solve : (test prices text : List ℕ) (status : Status) (s : IsSolved test prices text status) (table : PriceTable) → HavePrices prices table
    → Solves (program_of s.the_test) (outcome_of s.the_test) table text (code status)
solve test prices text status s table have =
    let t = s.the_test in
    let same : Agree table s.table = agree prices table s.table (priced prices table s.table s.priced have) s.priced in
    elim s.answer [
      | inl a ↦ fences t (is_test test t s.reads).bounded table s.table same a.placement text (code status) a.cheapest a.shown (ap code a.ends)
      | inr a ↦ none t table a.witness a.execution text (code status) a.given a.refutes a.shown (ap code a.ends)
    ]

-- ---- a yes of `check`

not_denied : Success ≡ Denied → ⊥
not_denied e = cc

best : (version : Version) (t : Test) (bounded : IsBounded t) (table other : PriceTable) → Agree table other → (p : List Entry) (text : List ℕ)
    → IsBest version t other p → text ≡ codes "yes\n" ++ fenced_lines (cost other p) p
    → Accepts (version_number version) (program_of t) (outcome_of t) table text
best First t bounded table other same p text a shown = least_fences t bounded table other same p text 1 a refl shown
best Second t bounded table other same p text a shown =
    solved (fenced_lines (cost other p) p) 0 (fences t bounded table other same p (fenced_lines (cost other p) p) 0 a refl refl) shown
best Fourth t bounded table other same p text a shown =
    solved (fenced_lines (cost other p) p) 0 (fences t bounded table other same p (fenced_lines (cost other p) p) 0 a refl refl) shown

yes_there : (test prices certificate text : List ℕ) (s : IsChecked test prices certificate text Success) (table : PriceTable) → HavePrices prices table
    → Accepts (version_number s.the_certificate.version) (program_of s.the_test) (outcome_of s.the_test) table text
yes_there test prices certificate text s table have =
    let t = s.the_test in
    let version = s.the_certificate.version in
    let bounded = (is_test test t s.reads).bounded in
    let same : Agree table s.table = agree prices table s.table (priced prices table s.table s.priced have) s.priced in
    elim s.verdict [
      | inl a ↦ best version t bounded table s.table same a.placement text a.best a.shown
      | inr other ↦ (elim other [
        | inl a ↦
            let v = a.valid in
            solved (none_lines v.witness) 1 (none t table v.witness v.execution (none_lines v.witness) 1 v.given v.refutes refl refl) a.shown
        | inr a ↦ absurd (not_denied a.ends)
      ])
    ]

pub yes : (test prices certificate text : List ℕ) (s : IsChecked test prices certificate text Success) (c : Certificate) → IsCertificateFile certificate c
    → (table : PriceTable) → HavePrices prices table → Accepts (version_number c.version) (program_of s.the_test) (outcome_of s.the_test) table text
yes test prices certificate text s c says table have =
    let one : s.the_certificate ≡ c = file_once certificate s.the_certificate c s.says says in
    subst (λ (d : Certificate). Accepts (version_number d.version) (program_of s.the_test) (outcome_of s.the_test) table text) one
    (yes_there test prices certificate text s table have)

-- ---- `test`

pub tested : (t : Test) (k : Kind) (why : List ℕ) (w : Option Witness) → said.Says t k why w → Says (program_of t) (outcome_of t) (kind_text k)
tested t kind.Forbidden why None a = forbidden (λ shown. a.forbidden ((tested_alike t).0 shown)) refl
tested t kind.Forbidden why (Some w) a = absurd a
tested t kind.Allowed why (Some w) a = allowed ((tested_alike t).1 (a.execution, a.shows)) refl
tested t kind.Allowed why None a = absurd a
tested t kind.Vacuous why None a = vacuous (λ shown. a.forbidden ((tested_alike t).0 shown)) refl
tested t kind.Vacuous why (Some w) a = absurd a
tested t kind.Faulty why None a = absurd a
tested t kind.Faulty why (Some w) a = absurd a

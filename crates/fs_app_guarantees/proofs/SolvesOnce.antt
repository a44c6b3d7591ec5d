-- `solve` has one answer to the same files.
use Rattle.std.proofs.Common.{◌≡◌, inl, inr, ℕ, nat_lt, ◌==◌, ◌&&◌, ◌||◌, true, List, sym, ap, ap₂, ◌∙◌}
use Rattle.fs_kinds.specs.declared.placement.Entry.{Entry}
use Rattle.fs_kinds.specs.Placement.{precedes}
use Rattle.fs_kinds.specs.PriceTable.{PriceTable, cost}
use Rattle.fs_model.specs.declared.test.Test.{Test}
use Rattle.fs_model.specs.Test.{IsBounded, IsSame}
use Rattle.fs_litmus.proofs.ReadsTest.{is_test}
use Rattle.fs_litmus.proofs.ReadsOnce.{reads_once}
use Rattle.fs_cert_evidence.specs.Texts.{fenced_lines}
use Rattle.fs_model_laws.proofs.Ranked.{one_cheapest}
use Rattle.fs_model_laws.proofs.Filled.{filled-shows}
use Rattle.fs_model.specs.Allows.{IsCheapest, is_better}
use Rattle.fs_app_io.specs.declared.status.Status.{Status}
use Rattle.fs_app_io.specs.declared.status.Status.TheVariants.{Success, Denied}
use Rattle.fs_app_guarantees.specs.Lines.{IsOneAnswer}
use Rattle.fs_app_guarantees.proofs.Meaning.{cheapest_of_same, none_of_same}
use Rattle.fs_app_guarantees.proofs.SamePrices.{Agree, agree, same_placement, same_costs}
use Rattle.fs_app_solve_and_check.specs.Solve.{PrintsCheapest, PrintsNone, IsSolved}

module _ (t : Test) (table other : PriceTable) (same : Agree table other) (h : IsBounded t) where
  -- the cheapest by one table is so by another one with the same prices
  moved : (p : List Entry) → IsCheapest t other p → IsCheapest t table p
  moved p is =
      let placed = same_placement t table other same h in
      let costs = same_costs t table other same h in
      record {
        placement = (placed p).1 is.placement;
        forbids = is.forbids;
        better = λ q over better.
            let there : is_better other q p ≡ true =
            ap₂ (λ (m n : ℕ). nat_lt m n || (m == n) && precedes q p) (sym (costs q over.slots)) (sym (costs p is.placement.slots)) ∙ better in
            is.better q ((placed q).0 over) there;
      }

  both_cheapest : (text lines : List ℕ) (status end : Status) → PrintsCheapest t table text status → PrintsCheapest t other lines end
      → IsOneAnswer text lines status end
  both_cheapest text lines status end a b =
      let p = a.placement in
      let q = b.placement in
      let one : p ≡ q = one_cheapest t table p q a.cheapest (moved q b.cheapest) in
      let costs : cost table p ≡ cost other q = ap (cost table) one ∙ same_costs t table other same h q b.cheapest.placement.slots in
      (a.ends ∙ sym b.ends, λ success. a.shown ∙ (ap₂ fenced_lines costs one ∙ sym b.shown))

-- a placement that rules the outcome out, and an execution that shows it under all
not_both : (t : Test) (prices : PriceTable) (text lines : List ℕ) (status end : Status) → PrintsCheapest t prices text status → PrintsNone t lines end → ⊥
not_both t prices text lines status end a b =
    a.cheapest.forbids (b.execution, filled-shows t b.execution b.refutes a.placement a.cheapest.placement.slots)

both_none : (t : Test) (text lines : List ℕ) (status end : Status) → PrintsNone t text status → PrintsNone t lines end → IsOneAnswer text lines status end
both_none t text lines status end a b =
    (a.ends ∙ sym b.ends, λ success. let e : Success ≡ Denied = sym success ∙ a.ends in absurd (cc))

pub solves_once : (test prices text other : List ℕ) (status end : Status) → IsSolved test prices text status → IsSolved test prices other end
    → IsOneAnswer text other status end
solves_once test prices text other status end s k =
    let t = s.the_test in
    let same : IsSame k.the_test t = reads_once test k.the_test t k.reads s.reads in
    let bounded = (is_test test t s.reads).bounded in
    let prices_are = agree prices s.table k.table s.priced k.priced in
    elim s.answer [
      | inl a ↦ elim k.answer [
        | inl b ↦ both_cheapest t s.table k.table prices_are bounded text other status end a (cheapest_of_same k.the_test t k.table other end same b)
        | inr b ↦ absurd (not_both t s.table text other status end a (none_of_same k.the_test t other end same b))
      ]
      | inr a ↦ elim k.answer [
        | inl b ↦ absurd (not_both t k.table other text end status (cheapest_of_same k.the_test t k.table other end same b) a)
        | inr b ↦ both_none t text other status end a (none_of_same k.the_test t other end same b)
      ]
    ]

-- A placement allows the outcome exactly where some showing candidate has an order that respects its judged relation.
use Rattle.std.proofs.Common.{◌≡◌, ◌↔◌, ℕ, zero, suc, ◌<◌, List, [], ◌∷◌, length, inl, inr, subst, arith}
use Rattle.std.specs.List.{AllZip, slice_index_or}
use Rattle.fs_kinds.specs.declared.placement.Entry.{Entry}
use Rattle.fs_model.specs.declared.test.Test.{Test}
use Rattle.fs_model.specs.Execution.{IsExecution}
use Rattle.fs_model.specs.Allows.{Allows}
use Rattle.fs_cert_evidence.specs.Candidates.{Candidate, IsRaw, IsShowing, runs_of}
use Rattle.fs_cert_evidence.specs.Judged.{is_judged}
use Rattle.fs_cert_evidence.specs.Certificate.{Link}
use Rattle.fs_cert_evidence.specs.Cycles.{IsCycle, HasCycles}
use Rattle.fs_values.specs.ThinAir.{CanBeListed}
use Rattle.fs_verdict_laws.specs.Decide.{IsOrdered, IsAcyclic, HasOrdered, HasAcyclic, candidate_of, ordered_by}
use Rattle.fs_verdict_laws.proofs.Forth.{executed}
use Rattle.fs_verdict_laws.proofs.Back.{showing, ordered}
use Rattle.fs_verdict_laws.proofs.JudgedEdges.{round_excludes, cycle_excludes}
use Rattle.fs_verdict_laws.proofs.Sorting.{ordered_or_round}

pub there_and_back : (t : Test) → CanBeListed t → (p : List Entry) → Allows t p ↔ HasOrdered t p
there_and_back t listed p = (
  (λ (e, shows). (candidate_of t e, e.order, showing t listed p e shows, ordered t p e shows.execution)),
  (λ (c, order, shows, respects). (ordered_by c order, (executed t p c order shows respects).shows)),
)

-- an order of a showing candidate is that of an execution whose candidate it is
pub exactly : (t : Test) (p : List Entry) (c : Candidate) (order : List ℕ) → IsShowing t c
    → IsOrdered t p c order ↔ (IsExecution t p (ordered_by c order) × (candidate_of t (ordered_by c order) ≡ c))
exactly t p c order is = (
  (λ respects. let made = executed t p c order is respects in (made.shows.execution, made.candidate)),
  (λ (execution, same). subst (λ (d : Candidate). IsOrdered t p d order) same (ordered t p (ordered_by c order) execution)),
)

-- acyclic equals ordered
pub acyclic_ordered : (t : Test) (p : List Entry) (c : Candidate) → IsRaw t c → ((order : List ℕ) × IsOrdered t p c order) ↔ IsAcyclic (is_judged (runs_of t c) p c)
acyclic_ordered t p c raw = (
  (λ (order, respects). λ numbers round. round_excludes t p c numbers order round respects),
  (λ acyclic. elim (ordered_or_round t p c raw) [
    | inl order ↦ order
    | inr round ↦ absurd (acyclic round.0 round.1)
  ]),
)

-- so a showing candidate has an execution exactly where its judged relation has no cycle
pub acyclic_executed : (t : Test) (p : List Entry) (c : Candidate) → IsShowing t c
    → ((order : List ℕ) × IsExecution t p (ordered_by c order) × (candidate_of t (ordered_by c order) ≡ c)) ↔ IsAcyclic (is_judged (runs_of t c) p c)
acyclic_executed t p c is = (
  (λ (order, execution, same). (acyclic_ordered t p c is.raw).0 (order, (exactly t p c order is).1 (execution, same))),
  (λ acyclic.
      let found = (acyclic_ordered t p c is.raw).1 acyclic in
      let made = (exactly t p c found.0 is).0 found.1 in
      (found.0, made.0, made.1)),
)

pub by_cycles : (t : Test) → CanBeListed t → (p : List Entry) → Allows t p ↔ HasAcyclic t p
by_cycles t listed p = (
  (λ (e, shows). (
    candidate_of t e,
    showing t listed p e shows,
    λ numbers round. round_excludes t p (candidate_of t e) numbers e.order round (ordered t p e shows.execution),
  )),
  (λ (c, shows, acyclic).
      let order = (acyclic_ordered t p c shows.raw).1 acyclic in
      (ordered_by c order.0, (executed t p c order.0 shows order.1).shows)),
)

zipped : {A B : Type 0} (R : A → B → Type 0) (xs : List A) (ys : List B) (x : A) (k : ℕ) → AllZip R xs ys → k < length xs
    → slice_index_or xs k x ≡ x → (y : B) × R x y
zipped R [] ys x k all low e = absurd (omega (arith, low))
zipped R (v ∷ vs) [] x k all low e = absurd all
zipped R (v ∷ vs) (w ∷ ws) x zero all low e = (w, rw e at all.0)
zipped R (v ∷ vs) (w ∷ ws) x (suc k) all low e = zipped R vs ws x k all.1 (omega (arith, low)) e

-- a cycle for each showing candidate forbids the outcome
pub cycles_forbid_all : (t : Test) → CanBeListed t → (p : List Entry) (cycles : List (List Link)) → HasCycles t p cycles → Allows t p → ⊥
cycles_forbid_all t listed p cycles (cs, listing, each) (e, shows) =
    let there = (listing.exact (candidate_of t e)).1 (showing t listed p e shows) in
    let cycle = zipped (IsCycle t p) cs cycles (candidate_of t e) there.0 each there.1 there.2 in
    cycle_excludes t p (candidate_of t e) cycle.0 e.order cycle.1 (ordered t p e shows.execution)

-- Certificates of coherent reads.
use Rattle.std.proofs.Common.{◌≡◌, ℕ, zero, suc, ◌+◌, ◌-◌, ◌*◌, Option, None, Some, List, [], ◌∷◌, map, inl, inr, refl, sym, ◌∙◌, ap, subst, false, true, arith, lit≤, Box}
use Rattle.std.specs.declared.alloc.Global.{Global}
use Rattle.std.proofs.lemmas.Bool.{false≢true}
use Rattle.fs_kinds.specs.declared.kind.Kind.{Kind}
use Rattle.fs_kinds.specs.declared.placement.Entry.{Entry}
use Rattle.fs_kinds.specs.declared.reason.OperationName.{OperationName as Name}
use Rattle.fs_kinds.specs.declared.reason.Reason.TheVariants as reason
use Rattle.fs_kinds.specs.declared.slot.Slot.{Slot}
use Rattle.fs_model.specs.declared.test.Test.{Test}
use Rattle.fs_model.specs.Slots.{slot_at}
use Rattle.fs_model.specs.Operations.{PreExecution}
use Rattle.fs_model.specs.Witness.{name_of}
use Rattle.fs_cert_evidence.specs.Certificate.{First, Second, Fenced, Link, Costly, Refuted, fence_words}
use Rattle.fs_cert_evidence.specs.Cycles.{IsCycle, HasCycles, around, are_edges}
use Rattle.fs_board_offers.specs.Offers.{Offers, cost, offers_of}
use Rattle.fs_board_offers.specs.Priced.{IsValidFor, IsRefusal}
use Rattle.fs_board_offers.specs.Valid.{IsAnswered}
use Rattle.fs_model_worked_examples.specs.Rows.{prices, named}
use Rattle.fs_model_worked_examples.specs.CoherentReads.{corr, store, loads, stale}
use Rattle.fs_model_worked_examples.specs.CoherentCertificates.{unfenced, right_circle, wrong_rule, wrong_edge, no_operation, certificate, with_tree, leaf, six_leaves}
use Rattle.fs_model_worked_examples.proofs.CoherentListing.{listing}
use Rattle.fs_model_worked_examples.proofs.Named.{Numbers, numbered, same_name, head}

abbrev x : PreExecution
x = record { traces = store ∷ loads ∷ []; words = 0 ∷ [] }

abbrev number : Name → ℕ
number name = name.hart * 2 + name.at - 1

numbers : Numbers x number
numbers zero name e = subst (λ n. 0 ≡ number n) (same_name e) refl
numbers (suc zero) name e = subst (λ n. 1 ≡ number n) (same_name e) refl
numbers (suc (suc zero)) name e = subst (λ n. 2 ≡ number n) (same_name e) refl
numbers (suc (suc (suc zero))) name e = absurd cc
numbers (suc (suc (suc (suc a)))) name e = absurd cc

-- names of a cycle's operations and its causes decide whether it is one
module _ (p q : Box (Unit {0}) Global) where
  abbrev t : Test
  t = corr p q

  abbrev offers : Offers
  offers = offers_of t prices

  cycle : IsCycle t unfenced stale right_circle
  cycle = record { some = lit≤ tt; most = lit≤ tt; operations = 0 ∷ 1 ∷ 2 ∷ []; names = refl; edges = refl }

  cycles : HasCycles t unfenced (right_circle ∷ [])
  cycles = (stale ∷ [], listing p q, (cycle, tt))

  answered : IsAnswered offers (Fenced 0 []) unfenced
  answered = record { placement = record { slots = refl; offered = refl }; answered = refl }

  pub first : IsValidFor t prices (certificate First 0 (right_circle ∷ []) leaf) unfenced
  first = record { answered = answered; cycles = cycles; tree = (refl, tt) }

  pub second : IsValidFor t prices (certificate Second 0 (right_circle ∷ []) leaf) unfenced
  second = record { answered = answered; cycles = cycles; tree = (refl, tt) }

  pub first_split : IsValidFor t prices (certificate First 0 (right_circle ∷ []) (six_leaves 0 leaf)) unfenced
  first_split = record {
    answered = answered;
    cycles = cycles;
    tree = (slot_at 1 1, refl, refl, (refl, (refl, (refl, (refl, (refl, (refl, (refl, tt))))))));
  }

  pub second_split : IsValidFor t prices (certificate Second 0 (right_circle ∷ []) (six_leaves 0 leaf)) unfenced
  second_split = record {
    answered = answered;
    cycles = cycles;
    tree = (slot_at 1 1, refl, refl, (refl, (refl, (refl, (refl, (refl, (refl, (refl, tt))))))));
  }

  pub fewer : IsRefusal t prices (with_tree (six_leaves 0 [])) reason.Tree
  fewer = (
    unfenced,
    answered,
    (cycles, inr (slot_at 1 1, refl, refl, inr (refl, inr (refl, inr (refl, inr (refl, inr (refl, inr (refl, refl)))))))),
  )

  pub more : IsRefusal t prices (with_tree (six_leaves 0 (Costly ∷ leaf))) reason.Tree
  more = (
    unfenced,
    answered,
    (
      cycles,
      inr (slot_at 1 1, refl, refl, inr (refl, inr (refl, inr (refl, inr (refl, inr (refl, inr (refl, inr (refl, refl)))))))),
    ),
  )

  pub no_slot : IsRefusal t prices (with_tree (six_leaves 1 leaf)) reason.Tree
  no_slot = (unfenced, answered, (cycles, inl (refl, refl)))

  pub two_trees : IsRefusal t prices (with_tree (Costly ∷ leaf)) reason.Tree
  two_trees = (unfenced, answered, (cycles, inr (refl, refl)))

  pub no_tree : IsRefusal t prices (with_tree []) reason.Tree
  no_tree = (unfenced, answered, (cycles, refl))

  pub no_witness : IsRefusal t prices (with_tree (Refuted 0 ∷ [])) (reason.Witness 0)
  no_witness = (
    unfenced,
    answered,
    (cycles, inl ((λ refutes. let none = refutes.1.1 in cc), refl)),
  )

  costs_nothing : (slot : Slot) (kind : Option Kind)
      → Fenced 1 [] ≡ Fenced (cost offers (record { slot = slot; kind = kind } ∷ [])) (fence_words (record { slot = slot; kind = kind } ∷ []))
      → ⊥
  costs_nothing slot None e = cc
  costs_nothing slot (Some kind) e = cc

  bad_answer : (r : List Entry) → IsAnswered offers (Fenced 1 []) r → ⊥
  bad_answer [] a = let e = a.placement.slots in cc
  bad_answer (entry ∷ []) a = costs_nothing entry.slot entry.kind a.answered
  bad_answer (entry ∷ other ∷ r) a = let e = a.placement.slots in cc

  pub dear : IsRefusal t prices (certificate First 1 (right_circle ∷ []) leaf) reason.Answer
  dear = bad_answer

  pub none : IsRefusal t prices (certificate First 0 [] leaf) reason.Cycles
  none = (unfenced, answered, (stale ∷ [], listing p q, (λ (e : 0 ≡ 1). omega (arith, e))))

  -- the operations are those that the links name
  numbers_of : (links : List Link) (names : List Name) → map (λ link. Some link.operation) links ≡ map (λ name. Some name) names
      → (c : IsCycle t unfenced stale links) → c.operations ≡ map number names
  numbers_of links names e c = numbered x number numbers c.operations names (c.names ∙ e)

  not_so : (links : List Link) (names : List Name) → map (λ link. Some link.operation) links ≡ map (λ name. Some name) names
      → are_edges x unfenced stale (around (map number names)) (map (λ link. link.cause) links) ≡ false
      → IsCycle t unfenced stale links → ⊥
  not_so links names e broken c =
      let there = subst (λ ns. are_edges x unfenced stale (around ns) (map (λ link. link.cause) links) ≡ true) (numbers_of links names e c) c.edges in
      false≢true (sym broken ∙ there)

  abbrev names : List Name
  names = named 0 1 ∷ named 1 0 ∷ named 1 1 ∷ []

  nowhere : IsCycle t unfenced stale no_operation → ⊥
  nowhere c =
      let same = numbers_of no_operation (named 0 0 ∷ named 1 0 ∷ named 1 1 ∷ []) refl c in
      let e = subst (λ ns. map (name_of x) ns ≡ map (λ link. Some link.operation) no_operation) same c.names in
      let first : named 0 1 ≡ named 0 0 = same_name (head e) in
      let at : 1 ≡ 0 = ap (λ name. name.at) first in
      omega (arith, at)

  refused : (links : List Link) → (IsCycle t unfenced stale links → ⊥) → IsRefusal t prices (certificate First 0 (links ∷ []) leaf) (reason.Cycle 0)
  refused links bad = (
    unfenced,
    answered,
    (
      stale ∷ [],
      listing p q,
      (refl, record { candidate = stale; links = links; the_candidate = refl; the_links = refl; bad = bad; earlier = tt }),
    ),
  )

  pub rule : IsRefusal t prices (certificate First 0 (wrong_rule ∷ []) leaf) (reason.Cycle 0)
  rule = refused wrong_rule (not_so wrong_rule names refl refl)

  pub edge : IsRefusal t prices (certificate First 0 (wrong_edge ∷ []) leaf) (reason.Cycle 0)
  edge = refused wrong_edge (not_so wrong_edge names refl refl)

  pub name : IsRefusal t prices (certificate First 0 (no_operation ∷ []) leaf) (reason.Cycle 0)
  name = refused no_operation nowhere

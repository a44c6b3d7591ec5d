-- A closed node stays closed for its reason, whatever comes after.
use Rattle.std.proofs.Common.{◌≡◌, ℕ, zero, suc, ◌+◌, Bool, true, false, Option, None, Some, List, [], ◌∷◌, ◌++◌, length, inl, inr, refl, sym, ap, subst, ◌∙◌, arith}
use Rattle.std.specs.Prelude.{slice_get, slice_set, if◌then◌else◌}
use Rattle.std.specs.List.{AllZip, range_with_len}
use Rattle.fs_kinds.specs.declared.placement.Entry.{Entry}
use Rattle.fs_kinds.specs.declared.slot.Slot.{Slot}
use Rattle.fs_board_offers.specs.Offers.{Offers, IsPlacement, is_better}
use Rattle.fs_model.specs.declared.test.Test.{Test}
use Rattle.fs_model.specs.Execution.{Execution}
use Rattle.fs_model.specs.Witness.{Witness}
use Rattle.fs_cert_evidence.specs.Shown.{ShowsAs}
use Rattle.fs_board_offers.specs.Parts.{Part, undecided, floor, filled, child_parts}
use Rattle.fs_board_offers.specs.Valid.{Refutes, RefutesBy}
use Rattle.fs_board_offers.specs.Board.{Board, Node, Status, Open, Held, Split, Costly, Witnessed, Bounded, Posted, better_of, opening}
use Rattle.fs_board_offers.specs.Histories.{LogEntry, Lead, IsHistory}
use Rattle.fs_board_offers.proofs.Bounded.{slots_of-filled_with}
use Rattle.fs_board_offers.specs.Trees.{IsNode, IsPart}
use Rattle.fs_board_offers.specs.Closing.{IsClosedFor, IsForbidden}
use Rattle.fs_model_laws.proofs.Places.{at-set, at-append, at-map, at-more, at-end}
use Rattle.fs_board_offers.proofs.Moves.{node_of, Reason, Holds, Cost, One, Many, Best, Move, Stays, Marks, Splits, moves}
use Rattle.fs_board_offers.proofs.Leaves.{opened, AreParts, move-parts, root-parts}
use Rattle.fs_board_offers.proofs.Bettering.{pruned-still, posted-pruned}

pub floor-placement : (offers : Offers) (part : Part) → IsPart offers part → IsPlacement offers (floor part)
floor-placement offers part is = record { slots = slots_of-filled_with None part ∙ is.slots; offered = is.offered }

-- ---- more witnesses

module _ (t : Test) (p : List Entry) where
  refuted-more : (ws more : List Witness) (j : ℕ) → Refutes t ws p j → Refutes t (ws ++ more) p j
  refuted-more ws more j refutes = (refutes.0, (refutes.1.0, at-more ws more j refutes.1.0 refutes.1.1, refutes.1.2))

  each-more : (ws more : List Witness) (js : List ℕ) (es : List Execution) → AllZip (RefutesBy t ws p) js es
      → AllZip (RefutesBy t (ws ++ more) p) js es
  each-more ws more [] [] each = tt
  each-more ws more [] (e ∷ es) each = absurd each
  each-more ws more (j ∷ js) [] each = absurd each
  each-more ws more (j ∷ js) (e ∷ es) each =
      ((each.0.0, at-more ws more j each.0.0 each.0.1, each.0.2), each-more ws more js es each.1)

  -- witnesses that stand in a list from a number on
  each-from : (all : List Witness) (n : ℕ) (ws : List Witness) (es : List Execution)
      → ((i : ℕ) (w : Witness) → slice_get ws i ≡ Some w → slice_get all (n + i) ≡ Some w)
      → AllZip (ShowsAs t p) ws es → AllZip (RefutesBy t all p) (range_with_len n (length ws)) es
  each-from all n [] [] at each = tt
  each-from all n [] (e ∷ es) at each = absurd each
  each-from all n (w ∷ ws) [] at each = absurd each
  each-from all n (w ∷ ws) (e ∷ es) at each = (
    (w, (let same : n + 0 ≡ n = omega arith in sym (ap (slice_get all) same) ∙ at 0 w refl), each.0),
    each-from all (n + 1) ws es
        (λ i v there. let same : n + suc i ≡ n + 1 + i = omega arith in sym (ap (slice_get all) same) ∙ at (suc i) v there) each.1,
  )

-- ---- the reasons

module _ (t : Test) (offers : Offers) where
  more-witnesses : (bound : Option (List Entry)) (ws more : List Witness) (part : Part) (status : Status)
      → IsClosedFor t offers bound ws part status → IsClosedFor t offers bound (ws ++ more) part status
  more-witnesses bound ws more part Open closed = tt
  more-witnesses bound ws more part (Held w) closed = tt
  more-witnesses bound ws more part (Split slot first) closed = tt
  more-witnesses bound ws more part Costly closed = closed
  more-witnesses bound ws more part (Witnessed j) closed = refuted-more t (filled part) ws more j closed
  more-witnesses bound ws more part (Bounded first count) closed =
      (closed.0, each-more t (floor part) ws more (range_with_len first count) closed.0 closed.1, closed.2)
  more-witnesses bound ws more part Posted closed = closed

  better-known : (bound : Option (List Entry)) (p : List Entry) (ws : List Witness) (part : Part) (status : Status)
      → IsClosedFor t offers bound ws part status → IsClosedFor t offers (better_of offers bound p) ws part status
  better-known bound p ws part Open closed = tt
  better-known bound p ws part (Held w) closed = tt
  better-known bound p ws part (Split slot first) closed = tt
  better-known bound p ws part Costly closed = pruned-still offers bound p part [] closed
  better-known bound p ws part (Witnessed j) closed = closed
  better-known bound p ws part (Bounded first count) closed =
      (closed.0, closed.1, pruned-still offers bound p part _ closed.2)
  better-known bound p ws part Posted closed = pruned-still offers bound p part [] closed

  same-known : (bound bound' : Option (List Entry)) (ws ws' : List Witness) (part : Part) (status : Status) → bound' ≡ bound → ws' ≡ ws
      → IsClosedFor t offers bound ws part status → IsClosedFor t offers bound' ws' part status
  same-known bound bound' ws ws' part status first second closed =
      subst (λ (b : Option (List Entry)). IsClosedFor t offers b ws' part status) (sym first)
      (subst (λ (vs : List Witness). IsClosedFor t offers bound vs part status) (sym second) closed)

  -- what was closed stays so
  still-closed : (old new : Board) (part : Part) (status : Status) → Reason t offers old new part status
      → (other : Part) (was : Status) → IsClosedFor t offers old.bound old.witnesses other was
      → IsClosedFor t offers new.bound new.witnesses other was
  still-closed old new part status (Holds worker bound witnesses) other was closed =
      same-known old.bound new.bound old.witnesses new.witnesses other was bound witnesses closed
  still-closed old new part Costly (Cost pruned bound witnesses) other was closed =
      same-known old.bound new.bound old.witnesses new.witnesses other was bound witnesses closed
  still-closed old new part status (One w shown bound witnesses) other was closed =
      same-known old.bound new.bound (old.witnesses ++ w ∷ []) new.witnesses other was bound witnesses
      (more-witnesses old.bound old.witnesses (w ∷ []) other was closed)
  still-closed old new part status (Many ws es shown pruned bound witnesses) other was closed =
      same-known old.bound new.bound (old.witnesses ++ ws) new.witnesses other was bound witnesses
      (more-witnesses old.bound old.witnesses ws other was closed)
  still-closed old new part Posted (Best forbids bound witnesses) other was closed =
      same-known (better_of offers old.bound (floor part)) new.bound old.witnesses new.witnesses other was bound witnesses
      (better-known old.bound (floor part) old.witnesses other was closed)

  -- and what is closed now has its reason
  now-closed : (old new : Board) (part : Part) (status : Status) → Reason t offers old new part status
      → IsClosedFor t offers new.bound new.witnesses part status
  now-closed old new part status (Holds worker bound witnesses) = tt
  now-closed old new part Costly (Cost pruned bound witnesses) =
      same-known old.bound new.bound old.witnesses new.witnesses part Costly bound witnesses pruned
  now-closed old new part status (One w shown bound witnesses) =
      same-known old.bound new.bound (old.witnesses ++ w ∷ []) new.witnesses part (Witnessed (length old.witnesses)) bound witnesses
      (shown.0, (w, at-end old.witnesses (w ∷ []) (length old.witnesses) 0 w (let n = length old.witnesses in omega arith) refl, shown.1))
  now-closed old new part status (Many ws es shown pruned bound witnesses) =
      same-known old.bound new.bound (old.witnesses ++ ws) new.witnesses part (Bounded (length old.witnesses) (length ws)) bound witnesses (
        es,
        each-from t (floor part) (old.witnesses ++ ws) (length old.witnesses) ws es
            (λ i w there. at-end old.witnesses ws (length old.witnesses + i) i w refl there) shown,
        pruned,
      )
  now-closed old new part Posted (Best forbids bound witnesses) =
      same-known (better_of offers old.bound (floor part)) new.bound old.witnesses new.witnesses part Posted bound witnesses
      (posted-pruned offers old.bound part)

  -- ---- the bound

  abbrev pub IsBoundRight : Option (List Entry) → Type 0
  IsBoundRight bound = (p : List Entry) → bound ≡ Some p → IsForbidden t offers p

  by-better : (q p : List Entry) (b : Bool) → IsForbidden t offers q → IsForbidden t offers p → IsBoundRight (if b then Some p else Some q)
  by-better q p true old new = λ r is. let same : p ≡ r = cc in subst (IsForbidden t offers) same new
  by-better q p false old new = λ r is. let same : q ≡ r = cc in subst (IsForbidden t offers) same old

  better-right : (bound : Option (List Entry)) (p : List Entry) → IsBoundRight bound → IsForbidden t offers p
      → IsBoundRight (better_of offers bound p)
  better-right None p old new = λ r is. let same : p ≡ r = cc in subst (IsForbidden t offers) same new
  better-right (Some q) p old new = by-better q p (is_better offers p q) (old q refl) new

  bound-right : (old new : Board) (part : Part) (status : Status) → IsPart offers part → Reason t offers old new part status
      → IsBoundRight old.bound → IsBoundRight new.bound
  bound-right old new part status is (Holds worker bound witnesses) right = subst IsBoundRight (sym bound) right
  bound-right old new part Costly is (Cost pruned bound witnesses) right = subst IsBoundRight (sym bound) right
  bound-right old new part status is (One w shown bound witnesses) right = subst IsBoundRight (sym bound) right
  bound-right old new part status is (Many ws es shown pruned bound witnesses) right = subst IsBoundRight (sym bound) right
  bound-right old new part Posted is (Best forbids bound witnesses) right =
      subst IsBoundRight (sym bound)
      (better-right old.bound (floor part) right (record { placement = floor-placement offers part is; forbids = forbids }))

  -- ---- histories

  pub record IsRight (b : Board) : Type 0 where
    pub parts : AreParts t offers b
    pub closed : (k : ℕ) (node : Node) → IsNode b k node → IsClosedFor t offers b.bound b.witnesses node.part node.status
    pub bound : IsBoundRight b.bound

  marked-closed : (old new : Board) (k : ℕ) (part : Part) (y : Status) → IsRight old → Reason t offers old new part y
      → (j : ℕ) (node : Node) → slice_get (slice_set old.nodes k (node_of part y)) j ≡ Some node
      → IsClosedFor t offers new.bound new.witnesses node.part node.status
  marked-closed old new k part y right reason j node there = elim (at-set old.nodes k (node_of part y) j node there) [
    | inl same ↦ subst (λ (n : Node). IsClosedFor t offers new.bound new.witnesses n.part n.status) (sym same)
        (now-closed old new part y reason)
    | inr before ↦ still-closed old new part y reason node.part node.status (right.closed j node before)
  ]

  split-closed : (old : Board) (k : ℕ) (part : Part) (slot : Slot) → IsRight old
      → (j : ℕ) (node : Node)
      → slice_get (slice_set old.nodes k (node_of part (Split slot (length old.nodes))) ++ opened (child_parts offers slot part)) j ≡ Some node
      → IsClosedFor t offers old.bound old.witnesses node.part node.status
  split-closed old k part slot right j node there =
      let split = node_of part (Split slot (length old.nodes)) in
      elim (at-append (slice_set old.nodes k split) (opened (child_parts offers slot part)) j node there) [
        | inl first ↦ elim (at-set old.nodes k split j node first) [
          | inl same ↦ subst (λ (n : Node). IsClosedFor t offers old.bound old.witnesses n.part n.status) (sym same) tt
          | inr before ↦ right.closed j node before
        ]
        | inr child ↦ (
            let from = at-map (λ p. node_of p Open) (child_parts offers slot part) child.0 node child.1 in
            subst (λ (n : Node). IsClosedFor t offers old.bound old.witnesses n.part n.status) (sym from.2) tt
            )
      ]

  move-right : (old new : Board) → IsRight old → Move t offers old new → IsRight new
  move-right old new right (Stays same) = subst IsRight (sym same) right
  move-right old new right (Marks k part x y at unsplit still nodes limit reason) = record {
    parts = move-parts t offers old new right.parts (Marks k part x y at unsplit still nodes limit reason);
    closed = λ j node there. marked-closed old new k part y right reason j node (ap (λ ns. slice_get ns j) (sym nodes) ∙ there);
    bound = bound-right old new part y (right.parts k (node_of part x) at) reason right.bound;
  }
  move-right old new right (Splits k part x slot at unsplit free room is) = record {
    parts = move-parts t offers old new right.parts (Splits k part x slot at unsplit free room is);
    closed = λ j node there.
        subst (λ (b : Board). IsClosedFor t offers b.bound b.witnesses node.part node.status) (sym is)
        (split-closed old k part slot right j node (ap (λ b. slice_get b.nodes j) (sym is) ∙ there));
    bound = subst (λ (b : Board). IsBoundRight b.bound) (sym is) right.bound;
  }

  root-closed : (limit : ℕ) (k : ℕ) (node : Node) → IsNode (opening offers limit) k node → IsClosedFor t offers None [] node.part node.status
  root-closed limit zero node at =
      let same : node_of (undecided offers) Open ≡ node = cc in
      subst (λ (n : Node). IsClosedFor t offers None [] n.part n.status) same tt
  root-closed limit (suc k) node at = absurd (cc)

  root-right : (limit : ℕ) → IsRight (opening offers limit)
  root-right limit = record { parts = root-parts t offers limit; closed = root-closed limit; bound = λ p is. absurd (cc) }

  lead-right : (old : Board) (log : List LogEntry) (new : Board) → IsRight old → Lead t offers old log new → IsRight new
  lead-right old [] new right same = subst IsRight (sym same) right
  lead-right old (entry ∷ log) new right lead =
      lead-right lead.0 log new (move-right old lead.0 right (moves t offers old entry.worker entry.event entry.reply lead.0 lead.1)) lead.2

  pub history-right : (limit : ℕ) (log : List LogEntry) (board : Board) → IsHistory t offers limit log board → IsRight board
  history-right limit log board history = lead-right (opening offers limit) log board (root-right limit) history

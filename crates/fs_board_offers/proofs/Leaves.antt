-- Each placement lies under exactly one node that isn't split, whatever the history.
use Rattle.std.proofs.Common.{◌≡◌, ℕ, zero, suc, ◌+◌, true, false, ◌&&◌, not, Some, List, [], ◌∷◌, ◌++◌, map, length, refl, sym, ap, subst, ◌∙◌, inl, inr, arith}
use Rattle.std.specs.Prelude.{slice_get, slice_set}
use Rattle.std.specs.List.{count_by, sum_by}
use Rattle.std.proofs.lemmas.List.Sums.{sum_by-append, sum_by-cons}
use Rattle.fs_kinds.specs.declared.placement.Entry.{Entry}
use Rattle.fs_kinds.specs.declared.slot.Slot.{Slot}
use Rattle.fs_board_offers.specs.Offers.{Offers, IsPlacement, slots}
use Rattle.fs_model.specs.declared.test.Test.{Test}
use Rattle.fs_board_offers.specs.Parts.{Part, undecided, is_under, is_undecided, child_parts}
use Rattle.fs_board_offers.specs.Board.{Board, Node, Status, Open, Split, opening}
use Rattle.fs_board_offers.specs.Histories.{LogEntry, Lead, IsHistory}
use Rattle.fs_board_offers.specs.Trees.{is_split, IsNode, IsPart, is_leaf_over, HasOneLeaf}
use Rattle.fs_model_laws.proofs.Places.{at-set, at-append, at-map, sum-set, count_one, count-map, once-counted}
use Rattle.fs_board_offers.proofs.PartsOfTests.{part-child, part-root, under-root}
use Rattle.fs_board_offers.proofs.Children.{one-child}
use Rattle.fs_board_offers.proofs.Moves.{node_of, Move, Stays, Marks, Splits, moves}
use Rattle.fs_kinds.specs.Slot.{is_rising}

abbrev pub opened : List Part → List Node
opened = map (λ part. node_of part Open)

module _ (t : Test) (offers : Offers) where
  -- ---- the parts

  abbrev pub AreParts : Board → Type 0
  AreParts b = (k : ℕ) (node : Node) → IsNode b k node → IsPart offers node.part

  marked-parts : (nodes : List Node) (k : ℕ) (part : Part) (x y : Status) → slice_get nodes k ≡ Some (node_of part x)
      → ((j : ℕ) (node : Node) → slice_get nodes j ≡ Some node → IsPart offers node.part)
      → (j : ℕ) (node : Node) → slice_get (slice_set nodes k (node_of part y)) j ≡ Some node → IsPart offers node.part
  marked-parts nodes k part x y at each j node there = elim (at-set nodes k (node_of part y) j node there) [
    | inl same ↦ subst (λ (n : Node). IsPart offers n.part) (sym same) (each k (node_of part x) at)
    | inr old ↦ each j node old
  ]

  pub move-parts : (old new : Board) → AreParts old → Move t offers old new → AreParts new
  move-parts old new each (Stays same) = subst AreParts (sym same) each
  move-parts old new each (Marks k part x y at unsplit still nodes limit reason) = λ j node there.
      marked-parts old.nodes k part x y at each j node (ap (λ ns. slice_get ns j) (sym nodes) ∙ there)
  move-parts old new each (Splits k part x slot at unsplit free room is) = λ j node there.
      elim (at-append (slice_set old.nodes k (node_of part (Split slot (length old.nodes)))) (opened (child_parts offers slot part)) j node
      (ap (λ b. slice_get b.nodes j) (sym is) ∙ there)) [
        | inl first ↦ marked-parts old.nodes k part x (Split slot (length old.nodes)) at each j node first
        | inr child ↦ (
            let from = at-map (λ p. node_of p Open) (child_parts offers slot part) child.0 node child.1 in
            subst (λ (n : Node). IsPart offers n.part) (sym from.2) (part-child offers slot part from.0 child.0 (each k (node_of part x) at) from.1)
            )
      ]

  pub root-parts : (limit : ℕ) → AreParts (opening offers limit)
  root-parts limit = λ k node at. only k node at
    where
      only : (k : ℕ) (node : Node) → IsNode (opening offers limit) k node → IsPart offers node.part
      only zero node at = let same : node_of (undecided offers) Open ≡ node = cc in subst (λ (n : Node). IsPart offers n.part) same (part-root offers)
      only (suc k) node at = absurd (cc)

  -- ---- sums over the nodes

  -- Such a number of a node stays the same as long as the node isn't split, and is then handed on to its children: so
  -- the sum over the nodes stays.
  pub record IsHandedOn (f : Node → ℕ) : Type 0 where
    pub marked : (part : Part) (x y : Status) → is_split x ≡ false → is_split y ≡ false → f (node_of part x) ≡ f (node_of part y)
    pub split : (part : Part) (x : Status) (slot : Slot) (first : ℕ) → is_split x ≡ false → IsPart offers part
        → is_undecided slot part ≡ true
        → f (node_of part (Split slot first)) + sum_by f (opened (child_parts offers slot part)) ≡ f (node_of part x)

  move-sum : (f : Node → ℕ) → IsHandedOn f → (old new : Board) → AreParts old → Move t offers old new
      → sum_by f new.nodes ≡ sum_by f old.nodes
  move-sum f handed old new each (Stays same) = ap (λ b. sum_by f b.nodes) same
  move-sum f handed old new each (Marks k part x y at unsplit still nodes limit reason) =
      let after = ap (sum_by f) nodes in
      let set = sum-set f old.nodes k (node_of part x) (node_of part y) at in
      let same = handed.marked part x y unsplit still in
      omega (arith, after, set, same)
  move-sum f handed old new each (Splits k part x slot at unsplit free room is) =
      let kids = opened (child_parts offers slot part) in
      let split = node_of part (Split slot (length old.nodes)) in
      let after : sum_by f new.nodes ≡ sum_by f (slice_set old.nodes k split ++ kids) = ap (λ b. sum_by f b.nodes) is in
      let both = sum_by-append f (slice_set old.nodes k split) kids in
      let set = sum-set f old.nodes k (node_of part x) split at in
      let same = handed.split part x slot (length old.nodes) unsplit (each k (node_of part x) at) free in
      omega (arith, after, both, set, same)

  -- what a history keeps
  pub record IsKept (f : Node → ℕ) (old new : Board) : Type 0 where
    pub parts : AreParts new
    pub sum : sum_by f new.nodes ≡ sum_by f old.nodes

  pub lead-kept : (f : Node → ℕ) → IsHandedOn f → (old : Board) (log : List LogEntry) (new : Board) → AreParts old
      → Lead t offers old log new → IsKept f old new
  lead-kept f handed old [] new each same = record { parts = subst AreParts (sym same) each; sum = ap (λ b. sum_by f b.nodes) same }
  lead-kept f handed old (entry ∷ log) new each lead =
      let move = moves t offers old entry.worker entry.event entry.reply lead.0 lead.1 in
      let rest = lead-kept f handed lead.0 log new (move-parts old lead.0 each move) lead.2 in
      record { parts = rest.parts; sum = rest.sum ∙ move-sum f handed old lead.0 each move }

  pub history-kept : (f : Node → ℕ) → IsHandedOn f → (limit : ℕ) (log : List LogEntry) (board : Board)
      → IsHistory t offers limit log board → IsKept f (opening offers limit) board
  history-kept f handed limit log board history = lead-kept f handed (opening offers limit) log board (root-parts limit) history

  pub history-parts : (limit : ℕ) (log : List LogEntry) (board : Board) → IsHistory t offers limit log board → AreParts board
  history-parts limit log board history =
      (history-kept (λ node. 0) (record { marked = λ part x y unsplit still. refl; split = λ part x slot first unsplit is free. none (child_parts offers slot part) })
      limit log board history).parts
    where
      none : (parts : List Part) → 0 + sum_by (λ node. 0) (opened parts) ≡ 0
      none [] = refl
      none (part ∷ parts) = let first = sum_by-cons (λ (node : Node). 0) (node_of part Open) (opened parts) in let rest = none parts in omega (arith, first, rest)

  -- ---- leaves

  leaves-handed : (p : List Entry) → is_rising (slots offers) ≡ true → IsPlacement offers p → IsHandedOn (λ node. count_one (is_leaf_over p node))
  leaves-handed p rising placement = record {
    marked = λ part x y unsplit still. ap (λ b. count_one (not b && is_under part p)) (unsplit ∙ sym still);
    split = λ part x slot first unsplit is free.
        let kids : count_by (is_leaf_over p) (opened (child_parts offers slot part)) ≡ count_one (is_under part p) =
        count-map (is_leaf_over p) (λ child. node_of child Open) (child_parts offers slot part) ∙ one-child offers slot part p rising is placement free in
        let here : count_one (is_leaf_over p (node_of part x)) ≡ count_one (is_under part p) = ap (λ b. count_one (not b && is_under part p)) unsplit in
        omega (arith, kids, here);
  }

  pub history-leaf : (limit : ℕ) (log : List LogEntry) (board : Board) → is_rising (slots offers) ≡ true
      → IsHistory t offers limit log board → (p : List Entry) → IsPlacement offers p → HasOneLeaf board p
  history-leaf limit log board rising history p placement =
      let kept = history-kept (λ node. count_one (is_leaf_over p node)) (leaves-handed p rising placement) limit log board history in
      let root : count_by (is_leaf_over p) (opening offers limit).nodes ≡ 1 = ap (λ b. 0 + count_one b) (under-root offers p placement) in
      let once = once-counted (is_leaf_over p) board.nodes (kept.sum ∙ root) in
      record { number = once.number; node = once.item; at = once.at; leaf = once.passes; only = once.only }

-- The steps that close a node by witnesses, or refuse to.
use Rattle.std.proofs.Common.{◌≡◌, ℕ, true, false, Some, List, [], ◌∷◌, map, length, refl, sym, ap, ◌∙◌, subst}
use Rattle.std.specs.Prelude.{slice_get}
use Rattle.std.specs.declared.sync.Arc.{Arc}
use Rattle.std.specs.Arc.{arc_value}
use Rattle.std.proofs.lemmas.Bool.{false≢true}
use Rattle.fs_kinds.specs.declared.kind.Kind.TheVariants.{RwRw}
use Rattle.fs_kinds.specs.Slot.{is_rising}
use Rattle.fs_model.specs.Execution.{Execution}
use Rattle.fs_model.specs.Witness.{Witness}
use Rattle.fs_board_offers.specs.Offers.{slots}
use Rattle.fs_board_offers.specs.Parts.{Part, slots_in_part}
use Rattle.fs_board_offers.specs.Board.{Node, Status, Witnessed, Bounded, Event, CutWitness, CutBound, Closed, NotCovered, Cheaper, is_held_by, part_at}
use Rattle.fs_board_offers.specs.Histories.{with_witnesses}
use Rattle.fs_cert_evidence.specs.Evidence.{Shown, witness_in, IsWitnessAt}
use Rattle.fs_board_offers.proofs.Leaves.{history-parts}
use Rattle.fs_board.specs.Growth.{AreWitnesses}
use Rattle.fs_board.specs.View.{Search, IsReplay}
use Rattle.fs_board_offers.specs.Breaks.{is_kept}
use Rattle.fs_board.specs.inner.Breaks.{widths_in, is_bounded}
use Rattle.fs_board.proofs.Children.{node_with, length_map}
use Rattle.fs_board.proofs.Covered.{shows_kept, kept_shown, each_kept, all_kept, bounds}
use Rattle.fs_board.proofs.Replays.{StepsFrom}

abbrev pub Holds : Search → (worker node : ℕ) → Part → Type 0
Holds s w k part = part_at (is_held_by w) s.board k ≡ Some part

-- a node may be closed so, by these witnesses
abbrev pub MayClose : Search → (worker node : ℕ) → Event → Status → List Witness → Type 0
MayClose s w k e z ws = (n : Node) × (slice_get s.board.nodes k ≡ Some n) × StepsFrom s w e Closed (with_witnesses z k n.part ws s.board)

module _ (s : Search) (w k : ℕ) (part : Part) (was : IsReplay s) (held : Holds s w k part) where
  node : (n : Node) × (slice_get s.board.nodes k ≡ Some n) × (n.part ≡ part)
  node = node_with (is_held_by w) s.board k part held

  pub its_slots : slots_in_part part ≡ slots s.question.offers
  its_slots = subst (λ p. slots_in_part p ≡ slots s.question.offers) node.2
      (history-parts s.question.test s.question.offers s.board.limit s.log s.board was.history k node.0 node.1).slots

  pub rises : is_rising (slots_in_part part) ≡ true
  rises = ap is_rising its_slots ∙ was.offers.rising

  may_close : (e : Event) (z : Status) (ws : List Witness) → StepsFrom s w e Closed (with_witnesses z k part ws s.board) → MayClose s w k e z ws
  may_close e z ws step = (node.0, node.1, subst (λ p. StepsFrom s w e Closed (with_witnesses z k p ws s.board)) (sym node.2) step)

  -- ---- one witness

  pub uncovered : (x : Shown) → (e : Execution) × IsWitnessAt s.question.test (slots s.question.offers) x e → is_kept (Some RwRw) part x.widths ≡ false
      → StepsFrom s w (CutWitness k x.witness) NotCovered s.board
  uncovered x is kept =
      (part, held, (λ shown. absurd (false≢true (sym kept ∙ kept_shown s.question.test s.question.offers part rises its_slots (Some RwRw) x is.0 is.1 shown))), refl)

  pub may_witness : (x : Shown) → (e : Execution) × IsWitnessAt s.question.test (slots s.question.offers) x e → is_kept (Some RwRw) part x.widths ≡ true
      → (z : Status) (ws : List Witness) → z ≡ Witnessed (length s.board.witnesses) → ws ≡ x.witness ∷ [] → MayClose s w k (CutWitness k x.witness) z ws
  may_witness x is kept z ws status same =
      subst (λ y. MayClose s w k (CutWitness k x.witness) y ws) (sym status)
      (subst (λ vs. MayClose s w k (CutWitness k x.witness) (Witnessed (length s.board.witnesses)) vs) (sym same)
      (may_close (CutWitness k x.witness) (Witnessed (length s.board.witnesses)) (x.witness ∷ [])
      (part, held, (is.0, shows_kept s.question.test s.question.offers part rises its_slots (Some RwRw) x is.0 is.1 kept), refl)))

  -- ---- a list of them

  module _ {A : Type 0} (ws : List (Arc Shown A)) (are : AreWitnesses s.question.test (slots s.question.offers) (map arc_value ws)) where
    pub all_uncovered : each_kept s.question.test s.question.offers part rises its_slots ws ≡ false → StepsFrom s w (CutBound k (map witness_in ws)) NotCovered s.board
    all_uncovered kept = (part, held, (λ shown. absurd (false≢true (sym kept ∙ all_kept s.question.test s.question.offers part rises its_slots ws are shown))), refl)

    pub all_cheaper : each_kept s.question.test s.question.offers part rises its_slots ws ≡ true → is_bounded s.question.offers s.board.bound part (map widths_in ws) ≡ false
        → StepsFrom s w (CutBound k (map witness_in ws)) Cheaper s.board
    all_cheaper kept cheap = (part, held, bounds s.question.test s.question.offers part rises its_slots s.board.bound false ws are kept cheap, refl)

    pub may_bound : each_kept s.question.test s.question.offers part rises its_slots ws ≡ true → is_bounded s.question.offers s.board.bound part (map widths_in ws) ≡ true
        → (z : Status) (vs : List Witness) → z ≡ Bounded (length s.board.witnesses) (length ws) → vs ≡ map witness_in ws
        → MayClose s w k (CutBound k (map witness_in ws)) z vs
    may_bound kept dear z vs status same =
        let z' : Status = Bounded (length s.board.witnesses) (length (map witness_in ws)) in
        let count : z ≡ z' = status ∙ ap (Bounded (length s.board.witnesses)) (sym (length_map witness_in ws)) in
        subst (λ y. MayClose s w k (CutBound k (map witness_in ws)) y vs) (sym count)
        (subst (λ us. MayClose s w k (CutBound k (map witness_in ws)) z' us) (sym same)
        (may_close (CutBound k (map witness_in ws)) z' (map witness_in ws)
        (part, held, bounds s.question.test s.question.offers part rises its_slots s.board.bound true ws are kept dear, refl)))

-- What witnesses show of a part, by their widths.
use Rattle.std.proofs.Common.{◌≡◌, suc, Bool, true, ◌&&◌, Option, None, unwrap_or, List, [], ◌∷◌, map, refl, sym, ap, ap₂, ◌∙◌, subst}
use Rattle.std.specs.Prelude.{All}
use Rattle.std.specs.List.{list_all, AllZip}
use Rattle.std.specs.declared.sync.Arc.{Arc}
use Rattle.std.specs.Arc.{arc_value}
use Rattle.std.proofs.lemmas.Bool.{and_parts, and_from, false≢true}
use Rattle.std.proofs.lemmas.List.Elements.{All-head, All-tail}
use Rattle.fs_kinds.specs.declared.kind.Kind.{Kind}
use Rattle.fs_kinds.specs.declared.placement.Entry.{Entry}
use Rattle.fs_kinds.specs.Kind.{is_subset}
use Rattle.fs_kinds.specs.Placement.{pairs_kept}
use Rattle.fs_board_offers.specs.Offers.{Offers, slots}
use Rattle.fs_model.specs.declared.test.Test.{Test}
use Rattle.fs_model.specs.Execution.{Execution, IsExecution}
use Rattle.fs_model.specs.Allows.{Shows}
use Rattle.fs_board_offers.specs.Parts.{Part, floor, filled_with, slots_in_part}
use Rattle.fs_board_offers.specs.Pruning.{is_pruned}
use Rattle.fs_cert_evidence.specs.Shown.{ShowsAs, IsShownBy}
use Rattle.fs_cert_evidence.specs.Widths.{Width, width, is_within_width}
use Rattle.fs_board_offers.proofs.Bounded.{rising-filled}
use Rattle.fs_model_laws.proofs.ExactWidths.{exact}
use Rattle.fs_model_laws.proofs.Weakening.{shows-weaker}
use Rattle.fs_cert_evidence.specs.Evidence.{Shown, witness_in, widths_of, IsWitnessAt}
use Rattle.fs_board.specs.Growth.{AreWitnesses}
use Rattle.fs_board_offers.specs.Breaks.{is_kept}
use Rattle.fs_board.specs.inner.Breaks.{widths_in, is_bounded}
use Rattle.fs_board.proofs.Pruned.{same_pruned}
use Rattle.fs_kinds.specs.Slot.{is_rising}

kept_within : (w : Width) (kind : Option Kind) (part : Part)
    → is_kept kind part (widths_of w (slots_in_part part)) ≡ list_all (λ entry. is_subset (pairs_kept entry.kind) (w entry.slot)) (filled_with kind part)
kept_within w kind [] = refl
kept_within w kind (d ∷ part) = ap (λ b. is_subset (pairs_kept (unwrap_or d.decided kind)) (w d.slot) && b) (kept_within w kind part)

module _ (t : Test) (offers : Offers) (part : Part) (rises : is_rising (slots_in_part part) ≡ true)
    (same : slots_in_part part ≡ slots offers) where
  its_widths : (w : Shown) (e : Execution) → IsWitnessAt t (slots offers) w e → w.widths ≡ widths_of (width t e) (slots_in_part part)
  its_widths w e is = is.widths ∙ ap (widths_of (width t e)) (sym same)

  within : (kind : Option Kind) (w : Shown) (e : Execution) → IsWitnessAt t (slots offers) w e → is_kept kind part w.widths ≡ is_within_width t e (filled_with kind part)
  within kind w e is = ap (is_kept kind part) (its_widths w e is) ∙ kept_within (width t e) kind part

  -- what is within the widths is shown
  pub shows_kept : (kind : Option Kind) (w : Shown) (e : Execution) → IsWitnessAt t (slots offers) w e → is_kept kind part w.widths ≡ true
      → ShowsAs t (filled_with kind part) w.witness e
  shows_kept kind w e is kept = (
    is.shows.0,
    record {
      execution = (exact t e is.shows.1.execution (filled_with kind part) (rising-filled kind part rises)).0 (sym (within kind w e is) ∙ kept);
      outcome = is.shows.1.outcome;
    },
  )

  -- and what is shown is within them
  pub kept_shown : (kind : Option Kind) (w : Shown) (e : Execution) → IsWitnessAt t (slots offers) w e → IsShownBy t (filled_with kind part) w.witness
      → is_kept kind part w.widths ≡ true
  kept_shown kind w e is (other, shown) =
      let p = filled_with kind part in
      let bare : Shows t [] other = shows-weaker t [] p other (λ s pair kept. absurd (false≢true kept)) shown.1 in
      let one : other ≡ e = is.only other (shown.0, bare) in
      let full : IsExecution t p e = subst (λ x. IsExecution t p x) one shown.1.execution in
      within kind w e is ∙ (exact t e is.shows.1.execution p (rising-filled kind part rises)).1 full

  -- ---- lists of witnesses

  abbrev pub each_kept : {A : Type 0} → List (Arc Shown A) → Bool
  each_kept ws = list_all (λ w. is_kept None part (widths_in w)) ws

  pub all_kept : {A : Type 0} (ws : List (Arc Shown A)) → AreWitnesses t (slots offers) (map arc_value ws) → All (IsShownBy t (floor part)) (map witness_in ws)
      → each_kept ws ≡ true
  all_kept [] are all = refl
  all_kept (w ∷ ws) are all =
      let first = are 0 (arc_value w) refl in
      and_from _ _ (kept_shown None (arc_value w) first.0 first.1 (All-head (IsShownBy t (floor part)) (witness_in w) (map witness_in ws) all))
      (all_kept ws (λ k x at. are (suc k) x at) (All-tail (IsShownBy t (floor part)) (witness_in w) (map witness_in ws) all))

  -- executions of the witnesses, with their widths
  pub record ShowsAll {A : Type 0} (ws : List (Arc Shown A)) : Type 0 where
    pub executions : List Execution
    pub shown : AllZip (ShowsAs t (floor part)) (map witness_in ws) executions
    pub widths : map widths_in ws ≡ map (λ w. widths_of w (slots_in_part part)) (map (width t) executions)

  pub all_shown : {A : Type 0} (ws : List (Arc Shown A)) → AreWitnesses t (slots offers) (map arc_value ws) → each_kept ws ≡ true → ShowsAll ws
  all_shown [] are kept = record { executions = []; shown = tt; widths = refl }
  all_shown (w ∷ ws) are kept =
      let first = are 0 (arc_value w) refl in
      let parts = and_parts (is_kept None part (widths_in w)) _ kept in
      let rest = all_shown ws (λ k x at. are (suc k) x at) parts.1 in
      record {
        executions = first.0 ∷ rest.executions;
        shown = (shows_kept None (arc_value w) first.0 first.1 parts.0, rest.shown);
        widths = ap₂ (λ x xs. x ∷ xs) (its_widths (arc_value w) first.0 first.1) rest.widths;
      }

  -- and whether they bound the part
  pub bounds : {A : Type 0} (bound : Option (List Entry)) (b : Bool) (ws : List (Arc Shown A)) → AreWitnesses t (slots offers) (map arc_value ws) → each_kept ws ≡ true
      → is_bounded offers bound part (map widths_in ws) ≡ b
      → (es : List Execution) × AllZip (ShowsAs t (floor part)) (map witness_in ws) es × (is_pruned offers bound part (map (width t) es) ≡ b)
  bounds bound b ws are kept is =
      let all = all_shown ws are kept in
      (all.executions, all.shown, sym (same_pruned offers bound part (map (width t) all.executions)) ∙ (ap (is_bounded offers bound part) (sym all.widths) ∙ is))

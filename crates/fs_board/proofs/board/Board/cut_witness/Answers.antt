use Rattle.std.proofs.Common.{◌≡◌, true, false, [], ◌∷◌, Some, map, sym, ◌∙◌, ap, ap₂, subst}
use Rattle.fs_kinds.specs.declared.kind.Kind.TheVariants.{RwRw}
use Rattle.fs_model.specs.Execution.{Execution}
use Rattle.fs_board_offers.specs.Parts.{Part}
use Rattle.fs_board_offers.specs.Offers.{slots}
use Rattle.fs_board_offers.specs.Board.{CutWitness, NotCovered, Witnessed}
use Rattle.fs_cert_evidence.specs.Evidence.{Shown, witness_in, IsWitnessAt}
use Rattle.fs_board.specs.Growth.{board_of}
use Rattle.fs_board.specs.View.{Search}
use Rattle.fs_board_offers.specs.Breaks.{is_kept}
use Rattle.fs_board.proofs.Backed.{plain_witnesses}
use Rattle.fs_board.proofs.Cuts.{Holds, MayClose, uncovered, may_witness}
use Rattle.fs_board.proofs.Replays.{StepsFrom}
use Rattle.fs_board.proofs.board.Board.cut_witness.Goals as goal

pub refuse-requires-then-not-is_kept-clause-step : goal.refuse-requires-then-not-is_kept-clause-step
refuse-requires-then-not-is_kept-clause-step c =
    let s : Search = record { question = c.self.inside.question.value; board = board_of c.self.inside.tree; log = c.self.inside.log.items } in
    let part : Part = c.in-Some.part.now.value in
    let held : Holds s c.args.worker c.args.node part = sym c.in-Some.ensures in
    let decisions : c.as_slice.result.now ≡ part = c.as_slice.ensures.value ∙ c.deref.ensures in
    let x : Shown = c.args.witness.value in
    let widths : c.deref-3.result.now ≡ x.widths = c.deref-3.ensures ∙ ap (λ (y : Shown). y.widths) (c.behind-witness.view_is ∙ c.deref-2.ensures) in
    let kept : is_kept (Some RwRw) part x.widths ≡ false =
    ap₂ (is_kept (Some RwRw)) (sym decisions) (sym widths) ∙ (sym c.is_kept.ensures ∙ c.if-not-is_kept.true) in
    let is : (e : Execution) × IsWitnessAt s.question.test (slots s.question.offers) x e = subst (λ (y : Search). (e : Execution) × IsWitnessAt y.question.test (slots y.question.offers) x e) (sym c.self.view_is) c.requires in
    subst (λ (y : Search). StepsFrom y c.args.worker (CutWitness c.args.node x.witness) NotCovered y.board) c.self.view_is
    (uncovered s c.args.worker c.args.node part c.self.invariant.replay held x is kept)

pub cover-requires-clause-may : goal.cover-requires-clause-may
cover-requires-clause-may c =
    let s : Search = record { question = c.self.inside.question.value; board = board_of c.self.inside.tree; log = c.self.inside.log.items } in
    let part : Part = c.in-Some.part.now.value in
    let held : Holds s c.args.worker c.args.node part = sym c.in-Some.ensures in
    let decisions : c.as_slice.result.now ≡ part = c.as_slice.ensures.value ∙ c.deref.ensures in
    let x : Shown = c.args.witness.value in
    let widths : c.deref-3.result.now ≡ x.widths = c.deref-3.ensures ∙ ap (λ (y : Shown). y.widths) (c.behind-witness.view_is ∙ c.deref-2.ensures) in
    let kept : is_kept (Some RwRw) part x.widths ≡ true =
    ap₂ (is_kept (Some RwRw)) (sym decisions) (sym widths) ∙ (sym c.is_kept.ensures ∙ c.if-not-is_kept.false) in
    let is : (e : Execution) × IsWitnessAt s.question.test (slots s.question.offers) x e = subst (λ (y : Search). (e : Execution) × IsWitnessAt y.question.test (slots y.question.offers) x e) (sym c.self.view_is) c.requires in
    let one : map witness_in c.in_ok-one.one.items ≡ x.witness ∷ [] = sym (plain_witnesses c.in_ok-one.one.items) ∙ ap (map (λ (y : Shown). y.witness)) c.in_ok-one.ensures in
    subst (λ (y : Search). MayClose y c.args.worker c.args.node (CutWitness c.args.node x.witness) (Witnessed c.witness_count.result) (map witness_in c.in_ok-one.one.items)) c.self.view_is
    (may_witness s c.args.worker c.args.node part c.self.invariant.replay held x is kept (Witnessed c.witness_count.result) (map witness_in c.in_ok-one.one.items) (ap Witnessed c.witness_count.ensures) one)

use Rattle.std.proofs.Common.{◌≡◌, true, false, None, map, sym, ◌∙◌, ap, ap₂, subst, length}
use Rattle.std.specs.Arc.{arc_value}
use Rattle.std.specs.List.{list_all}
use Rattle.fs_board_offers.specs.Parts.{Part}
use Rattle.fs_board_offers.specs.Offers.{slots}
use Rattle.fs_board_offers.specs.Board.{CutBound, NotCovered, Cheaper, Bounded}
use Rattle.fs_cert_evidence.specs.Evidence.{Shown, witness_in}
use Rattle.fs_board.specs.Growth.{AreWitnesses, board_of}
use Rattle.fs_board.specs.View.{Search}
use Rattle.fs_board_offers.specs.Breaks.{is_kept}
use Rattle.fs_board.specs.inner.Breaks.{is_bounded, widths_in}
use Rattle.fs_board.proofs.Backed.{plain_witnesses}
use Rattle.fs_board.proofs.Cuts.{Holds, MayClose, all_uncovered, all_cheaper, may_bound}
use Rattle.fs_board.proofs.Replays.{StepsFrom}
use Rattle.fs_board.proofs.board.Board.bound_by.Goals as goal

pub refuse-requires-then-not-are_kept-clause-step : goal.refuse-requires-then-not-are_kept-clause-step
refuse-requires-then-not-are_kept-clause-step c =
    let s : Search = record { question = c.self.inside.question.value; board = board_of c.self.inside.tree; log = c.self.inside.log.items } in
    let part : Part = c.in-Some.part.now.value in
    let held : Holds s c.args.worker c.args.node part = sym c.in-Some.ensures in
    let decisions : c.as_slice.result.now ≡ part = c.as_slice.ensures.value ∙ c.deref.ensures in
    let ws = c.args.witnesses in
    let listed : c.as_slice-2.result.now ≡ ws = c.as_slice-2.ensures in
    let are : AreWitnesses s.question.test (slots s.question.offers) (map arc_value ws) = subst (λ (y : Search). AreWitnesses y.question.test (slots y.question.offers) (map arc_value ws)) (sym c.self.view_is) c.requires in
    let kept : list_all (λ w. is_kept None part (widths_in w)) ws ≡ false =
    ap₂ (λ p us. list_all (λ w. is_kept None p (widths_in w)) us) (sym decisions) (sym listed) ∙ (sym c.are_kept.ensures ∙ c.if-not-are_kept.true) in
    subst (λ (y : Search). StepsFrom y c.args.worker (CutBound c.args.node (map witness_in ws)) NotCovered y.board) c.self.view_is
    (all_uncovered s c.args.worker c.args.node part c.self.invariant.replay held ws are kept)

pub refuse-requires-then-not-is_bounded-clause-step : goal.refuse-requires-then-not-is_bounded-clause-step
refuse-requires-then-not-is_bounded-clause-step c =
    let s : Search = record { question = c.self.inside.question.value; board = board_of c.self.inside.tree; log = c.self.inside.log.items } in
    let part : Part = c.in-Some.part.now.value in
    let held : Holds s c.args.worker c.args.node part = sym c.in-Some.ensures in
    let decisions : c.as_slice.result.now ≡ part = c.as_slice.ensures.value ∙ c.deref.ensures in
    let ws = c.args.witnesses in
    let listed : c.as_slice-2.result.now ≡ ws = c.as_slice-2.ensures in
    let are : AreWitnesses s.question.test (slots s.question.offers) (map arc_value ws) = subst (λ (y : Search). AreWitnesses y.question.test (slots y.question.offers) (map arc_value ws)) (sym c.self.view_is) c.requires in
    let kept : list_all (λ w. is_kept None part (widths_in w)) ws ≡ true =
    ap₂ (λ p us. list_all (λ w. is_kept None p (widths_in w)) us) (sym decisions) (sym listed) ∙ (sym c.are_kept.ensures ∙ c.if-not-are_kept.false) in
    let same : c.as_slice-3.result.now ≡ part = c.as_slice-3.ensures.value ∙ c.deref-2.ensures in
    let heard : c.as_slice-4.result.now ≡ ws = c.as_slice-4.ensures in
    let cheap : is_bounded s.question.offers s.board.bound part (map widths_in ws) ≡ false =
    ap₂ (λ p us. is_bounded s.question.offers s.board.bound p (map widths_in us)) (sym same) (sym heard)
    ∙ (ap (λ (y : Search). is_bounded y.question.offers y.board.bound c.as_slice-3.result.now (map widths_in c.as_slice-4.result.now)) c.self.view_is
    ∙ (sym c.is_bounded.ensures ∙ c.if-not-is_bounded.true)) in
    subst (λ (y : Search). StepsFrom y c.args.worker (CutBound c.args.node (map witness_in ws)) Cheaper y.board) c.self.view_is
    (all_cheaper s c.args.worker c.args.node part c.self.invariant.replay held ws are kept cheap)

pub cover-requires-clause-may : goal.cover-requires-clause-may
cover-requires-clause-may c =
    let s : Search = record { question = c.self.inside.question.value; board = board_of c.self.inside.tree; log = c.self.inside.log.items } in
    let part : Part = c.in-Some.part.now.value in
    let held : Holds s c.args.worker c.args.node part = sym c.in-Some.ensures in
    let decisions : c.as_slice.result.now ≡ part = c.as_slice.ensures.value ∙ c.deref.ensures in
    let ws = c.args.witnesses in
    let listed : c.as_slice-2.result.now ≡ ws = c.as_slice-2.ensures in
    let are : AreWitnesses s.question.test (slots s.question.offers) (map arc_value ws) = subst (λ (y : Search). AreWitnesses y.question.test (slots y.question.offers) (map arc_value ws)) (sym c.self.view_is) c.requires in
    let kept : list_all (λ w. is_kept None part (widths_in w)) ws ≡ true =
    ap₂ (λ p us. list_all (λ w. is_kept None p (widths_in w)) us) (sym decisions) (sym listed) ∙ (sym c.are_kept.ensures ∙ c.if-not-are_kept.false) in
    let same : c.as_slice-3.result.now ≡ part = c.as_slice-3.ensures.value ∙ c.deref-2.ensures in
    let heard : c.as_slice-4.result.now ≡ ws = c.as_slice-4.ensures in
    let dear : is_bounded s.question.offers s.board.bound part (map widths_in ws) ≡ true =
    ap₂ (λ p us. is_bounded s.question.offers s.board.bound p (map widths_in us)) (sym same) (sym heard)
    ∙ (ap (λ (y : Search). is_bounded y.question.offers y.board.bound c.as_slice-3.result.now (map widths_in c.as_slice-4.result.now)) c.self.view_is
    ∙ (sym c.is_bounded.ensures ∙ c.if-not-is_bounded.false)) in
    let vs = map witness_in c.in_ok-shared.shared.items in
    let copied : map arc_value c.in_ok-shared.shared.items ≡ map arc_value ws = c.in_ok-shared.ensures ∙ ap (map arc_value) c.as_slice-5.ensures in
    let shared : vs ≡ map witness_in ws =
    sym (plain_witnesses c.in_ok-shared.shared.items) ∙ (ap (map (λ (y : Shown). y.witness)) copied ∙ plain_witnesses ws) in
    let count : c.len.result ≡ length ws = c.len.ensures in
    subst (λ (y : Search). MayClose y c.args.worker c.args.node (CutBound c.args.node (map witness_in ws)) (Bounded c.witness_count.result c.len.result) vs) c.self.view_is
    (may_bound s c.args.worker c.args.node part c.self.invariant.replay held ws are kept dear (Bounded c.witness_count.result c.len.result) vs (ap₂ Bounded c.witness_count.ensures count) shared)

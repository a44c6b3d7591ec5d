use Rattle.std.proofs.Common.{◌≡◌, ◌++◌, ◌∷◌, [], Some, map, refl, sym, ◌∙◌, ap, subst}
use Rattle.std.specs.Prelude.{slice_get}
use Rattle.std.proofs.lemmas.Option.{slice_get_within}
use Rattle.std.specs.Arc.{arc_value}
use Rattle.fs_board_offers.specs.Offers.{slots}
use Rattle.fs_board_offers.specs.Board.{Board, Node, Status, Closed, with_status}
use Rattle.fs_board_offers.specs.Histories.{with_witnesses}
use Rattle.fs_cert_evidence.specs.Evidence.{witness_in}
use Rattle.fs_board.specs.Growth.{Tree, AreWitnesses, board_of, marked, with_more}
use Rattle.fs_board.specs.View.{Search, IsReplay, Answers, entry_of, event_of, status_of}
use Rattle.fs_board.proofs.Backed.{backed_more, more_witnesses}
use Rattle.fs_board.proofs.Children.{one_free}
use Rattle.fs_board.proofs.Replays.{StepsFrom, with_log, replays, answered, room_marked}
use Rattle.fs_board.proofs.board.Board.cover.Goals as goal

pub invariant_of-self-2 : goal.invariant_of-self-2
invariant_of-self-2 c =
    let tree : Tree = c.self.inside.tree in
    let s : Search = record { question = c.self.inside.question.value; board = board_of tree; log = c.self.inside.log.items } in
    let was = c.self.invariant.replay in
    let e = event_of c.args.event in
    let n : Node = c.requires.may.0 in
    let z : Status = status_of c.args.status in
    let ws = c.args.witnesses.items in
    let new : Board = with_witnesses z c.args.node n.part (map witness_in ws) s.board in
    let step : StepsFrom s c.args.worker e Closed new =
    subst (λ (x : Search). StepsFrom x c.args.worker e Closed (with_witnesses z c.args.node n.part (map witness_in ws) x.board)) (sym c.self.view_is) c.requires.may.2 in
    let there : slice_get s.board.nodes c.args.node ≡ Some n = subst (λ (x : Search). slice_get x.board.nodes c.args.node ≡ Some n) (sym c.self.view_is) c.requires.may.1 in
    let log : c.push_within.new.list.items ≡ s.log ++ entry_of c.args.worker e Closed ∷ [] =
    c.push_within.ensures ∙ (ap (λ l. l ++ c.new.result ∷ []) c.in_ok-reserve.ensures.items ∙ ap (λ x. s.log ++ x ∷ []) c.new.ensures) in
    let now : Tree = with_more (map arc_value ws) (marked z c.args.node n.part tree) in
    let closed : c.cover.new.self ≡ now = c.in_ok-cover.ensures.ok n there in
    let made : board_of now ≡ new =
    ap (λ l. let x : Board = record (with_status z c.args.node n.part s.board) { witnesses = l } in x) (more_witnesses tree.witnesses ws) in
    let widths : AreWitnesses s.question.test (slots s.question.offers) (map arc_value ws) = subst (λ (x : Search). AreWitnesses x.question.test (slots x.question.offers) (map arc_value ws)) (sym c.self.view_is) c.requires.widths in
    rw closed (record {
      replay = subst (λ (b : Board). IsReplay (with_log s b c.push_within.new.list.items)) (sym made) (replays s new c.push_within.new.list.items c.args.worker e Closed was step refl (room_marked s z c.args.node n.part was) log);
      backed = backed_more s.question.test (slots s.question.offers) tree.bound tree.witnesses (map arc_value ws) widths c.self.invariant.backed;
    })

pub returns-clause-step : goal.returns-clause-step
returns-clause-step c =
    let tree : Tree = c.self.inside.tree in
    let s : Search = record { question = c.self.inside.question.value; board = board_of tree; log = c.self.inside.log.items } in
    let was = c.self.invariant.replay in
    let e = event_of c.args.event in
    let n : Node = c.requires.may.0 in
    let z : Status = status_of c.args.status in
    let ws = c.args.witnesses.items in
    let new : Board = with_witnesses z c.args.node n.part (map witness_in ws) s.board in
    let step : StepsFrom s c.args.worker e Closed new =
    subst (λ (x : Search). StepsFrom x c.args.worker e Closed (with_witnesses z c.args.node n.part (map witness_in ws) x.board)) (sym c.self.view_is) c.requires.may.2 in
    let there : slice_get s.board.nodes c.args.node ≡ Some n = subst (λ (x : Search). slice_get x.board.nodes c.args.node ≡ Some n) (sym c.self.view_is) c.requires.may.1 in
    let log : c.push_within.new.list.items ≡ s.log ++ entry_of c.args.worker e Closed ∷ [] =
    c.push_within.ensures ∙ (ap (λ l. l ++ c.new.result ∷ []) c.in_ok-reserve.ensures.items ∙ ap (λ x. s.log ++ x ∷ []) c.new.ensures) in
    let now : Tree = with_more (map arc_value ws) (marked z c.args.node n.part tree) in
    let closed : c.cover.new.self ≡ now = c.in_ok-cover.ensures.ok n there in
    let made : board_of now ≡ new =
    ap (λ l. let x : Board = record (with_status z c.args.node n.part s.board) { witnesses = l } in x) (more_witnesses tree.witnesses ws) in
    rw closed (subst (λ (b : Board). Answers c.args.self.now (with_log s b c.push_within.new.list.items) c.args.worker e Closed) (sym made)
    (answered c.args.self.now s new c.push_within.new.list.items c.args.worker e Closed c.self.view_is step log))

pub push_within-requires : goal.push_within-requires
push_within-requires c = one_free _ _ c.in_ok-reserve.ensures.ok

pub cover-requires-clause-there : goal.cover-requires-clause-there
cover-requires-clause-there c =
    let s : Search = record { question = c.self.inside.question.value; board = board_of c.self.inside.tree; log = c.self.inside.log.items } in
    let n : Node = c.requires.may.0 in
    slice_get_within s.board.nodes c.args.node n
    (subst (λ (x : Search). slice_get x.board.nodes c.args.node ≡ Some n) (sym c.self.view_is) c.requires.may.1)

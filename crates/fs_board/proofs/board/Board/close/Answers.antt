use Rattle.std.proofs.Common.{◌≡◌, ◌++◌, ◌∷◌, [], Some, refl, sym, ◌∙◌, ap, subst}
use Rattle.std.specs.Prelude.{slice_get}
use Rattle.std.proofs.lemmas.Option.{slice_get_within}
use Rattle.fs_board_offers.specs.Board.{Board, Node, Status, Closed, with_status}
use Rattle.fs_board.specs.Growth.{Tree, board_of, marked}
use Rattle.fs_board.specs.View.{Search, entry_of, event_of, status_of}
use Rattle.fs_board.proofs.Children.{one_free}
use Rattle.fs_board.proofs.Replays.{StepsFrom, replays, answered, room_marked}
use Rattle.fs_board.proofs.board.Board.close.Goals as goal

pub invariant_of-self-2 : goal.invariant_of-self-2
invariant_of-self-2 c =
    let s : Search = record { question = c.self.inside.question.value; board = board_of c.self.inside.tree; log = c.self.inside.log.items } in
    let was = c.self.invariant.replay in
    let e = event_of c.args.event in
    let n : Node = c.requires.may.0 in
    let z : Status = status_of c.args.status in
    let new : Board = with_status z c.args.node n.part s.board in
    let step : StepsFrom s c.args.worker e Closed new =
    subst (λ (x : Search). StepsFrom x c.args.worker e Closed (with_status z c.args.node n.part x.board)) (sym c.self.view_is) c.requires.may.2 in
    let there : slice_get s.board.nodes c.args.node ≡ Some n = subst (λ (x : Search). slice_get x.board.nodes c.args.node ≡ Some n) (sym c.self.view_is) c.requires.may.1 in
    let log : c.push_within.new.list.items ≡ s.log ++ entry_of c.args.worker e Closed ∷ [] =
    c.push_within.ensures ∙ (ap (λ l. l ++ c.new.result ∷ []) c.in_ok-reserve.ensures.items ∙ ap (λ x. s.log ++ x ∷ []) c.new.ensures) in
    let now : Tree = marked z c.args.node n.part c.self.inside.tree in
    let closed : c.mark.new.self ≡ now = c.mark.ensures n there in
    rw closed (record { replay = replays s new c.push_within.new.list.items c.args.worker e Closed was step refl (room_marked s z c.args.node n.part was) log; backed = c.self.invariant.backed })

pub returns-clause-step : goal.returns-clause-step
returns-clause-step c =
    let s : Search = record { question = c.self.inside.question.value; board = board_of c.self.inside.tree; log = c.self.inside.log.items } in
    let was = c.self.invariant.replay in
    let e = event_of c.args.event in
    let n : Node = c.requires.may.0 in
    let z : Status = status_of c.args.status in
    let new : Board = with_status z c.args.node n.part s.board in
    let step : StepsFrom s c.args.worker e Closed new =
    subst (λ (x : Search). StepsFrom x c.args.worker e Closed (with_status z c.args.node n.part x.board)) (sym c.self.view_is) c.requires.may.2 in
    let there : slice_get s.board.nodes c.args.node ≡ Some n = subst (λ (x : Search). slice_get x.board.nodes c.args.node ≡ Some n) (sym c.self.view_is) c.requires.may.1 in
    let log : c.push_within.new.list.items ≡ s.log ++ entry_of c.args.worker e Closed ∷ [] =
    c.push_within.ensures ∙ (ap (λ l. l ++ c.new.result ∷ []) c.in_ok-reserve.ensures.items ∙ ap (λ x. s.log ++ x ∷ []) c.new.ensures) in
    let now : Tree = marked z c.args.node n.part c.self.inside.tree in
    let closed : c.mark.new.self ≡ now = c.mark.ensures n there in
    rw closed (answered c.args.self.now s new c.push_within.new.list.items c.args.worker e Closed c.self.view_is step log)

pub push_within-requires : goal.push_within-requires
push_within-requires c = one_free _ _ c.in_ok-reserve.ensures.ok

pub mark-requires-clause-there : goal.mark-requires-clause-there
mark-requires-clause-there c =
    let s : Search = record { question = c.self.inside.question.value; board = board_of c.self.inside.tree; log = c.self.inside.log.items } in
    let n : Node = c.requires.may.0 in
    slice_get_within s.board.nodes c.args.node n
    (subst (λ (x : Search). slice_get x.board.nodes c.args.node ≡ Some n) (sym c.self.view_is) c.requires.may.1)

use Rattle.std.proofs.Common.{◌≡◌, ◌++◌, ◌∷◌, [], Some, refl, sym, ◌∙◌, ap, subst}
use Rattle.std.specs.Prelude.{slice_get}
use Rattle.std.proofs.lemmas.Option.{slice_get_within}
use Rattle.fs_board_offers.specs.Parts.{Part}
use Rattle.fs_board_offers.specs.Board.{Board, Node, Held, Given, with_status}
use Rattle.fs_board.specs.Growth.{Tree, board_of, marked}
use Rattle.fs_board.specs.View.{Search, entry_of, event_of}
use Rattle.fs_board.proofs.Children.{one_free}
use Rattle.fs_board.proofs.Replays.{StepsFrom, replays, answered, room_marked}
use Rattle.fs_board.proofs.board.Board.hand_out.Goals as goal

pub invariant_of-self-2 : goal.invariant_of-self-2
invariant_of-self-2 c =
    let s : Search = record { question = c.self.inside.question.value; board = board_of c.self.inside.tree; log = c.self.inside.log.items } in
    let was = c.self.invariant.replay in
    let e = event_of c.args.event in
    let part : Part = c.args.part.value in
    let r = Given c.args.node part in
    let new : Board = with_status (Held c.args.worker) c.args.node part s.board in
    let step : StepsFrom s c.args.worker e r new =
    subst (λ (x : Search). StepsFrom x c.args.worker e r (with_status (Held c.args.worker) c.args.node part x.board)) (sym c.self.view_is) c.requires.may in
    let there : slice_get s.board.nodes c.args.node ≡ Some c.requires.there.0 = subst (λ (x : Search). slice_get x.board.nodes c.args.node ≡ Some c.requires.there.0) (sym c.self.view_is) c.requires.there.1 in
    let log : c.push_within.new.list.items ≡ s.log ++ entry_of c.args.worker e r ∷ [] =
    c.push_within.ensures ∙ (ap (λ l. l ++ c.new.result ∷ []) c.in_ok-reserve.ensures.items ∙ ap (λ x. s.log ++ x ∷ []) (c.new.ensures ∙ ap (λ p. entry_of c.args.worker e (Given c.args.node p)) c.in_ok-copy.ensures)) in
    let now : Tree = marked (Held c.args.worker) c.args.node part c.self.inside.tree in
    let held : c.mark.new.self ≡ now = c.mark.ensures c.requires.there.0 there ∙ ap (λ p. marked (Held c.args.worker) c.args.node p c.self.inside.tree) c.requires.there.2 in
    rw held (record { replay = replays s new c.push_within.new.list.items c.args.worker e r was step refl (room_marked s (Held c.args.worker) c.args.node part was) log; backed = c.self.invariant.backed })

pub returns-clause-step : goal.returns-clause-step
returns-clause-step c =
    let s : Search = record { question = c.self.inside.question.value; board = board_of c.self.inside.tree; log = c.self.inside.log.items } in
    let was = c.self.invariant.replay in
    let e = event_of c.args.event in
    let part : Part = c.args.part.value in
    let r = Given c.args.node part in
    let new : Board = with_status (Held c.args.worker) c.args.node part s.board in
    let step : StepsFrom s c.args.worker e r new =
    subst (λ (x : Search). StepsFrom x c.args.worker e r (with_status (Held c.args.worker) c.args.node part x.board)) (sym c.self.view_is) c.requires.may in
    let there : slice_get s.board.nodes c.args.node ≡ Some c.requires.there.0 = subst (λ (x : Search). slice_get x.board.nodes c.args.node ≡ Some c.requires.there.0) (sym c.self.view_is) c.requires.there.1 in
    let log : c.push_within.new.list.items ≡ s.log ++ entry_of c.args.worker e r ∷ [] =
    c.push_within.ensures ∙ (ap (λ l. l ++ c.new.result ∷ []) c.in_ok-reserve.ensures.items ∙ ap (λ x. s.log ++ x ∷ []) (c.new.ensures ∙ ap (λ p. entry_of c.args.worker e (Given c.args.node p)) c.in_ok-copy.ensures)) in
    let now : Tree = marked (Held c.args.worker) c.args.node part c.self.inside.tree in
    let held : c.mark.new.self ≡ now = c.mark.ensures c.requires.there.0 there ∙ ap (λ p. marked (Held c.args.worker) c.args.node p c.self.inside.tree) c.requires.there.2 in
    rw held (answered c.args.self.now s new c.push_within.new.list.items c.args.worker e r c.self.view_is step log)

pub push_within-requires : goal.push_within-requires
push_within-requires c = one_free _ _ c.in_ok-reserve.ensures.ok

pub mark-requires-clause-there : goal.mark-requires-clause-there
mark-requires-clause-there c =
    let s : Search = record { question = c.self.inside.question.value; board = board_of c.self.inside.tree; log = c.self.inside.log.items } in
    let n : Node = c.requires.there.0 in
    slice_get_within s.board.nodes c.args.node n
    (subst (λ (x : Search). slice_get x.board.nodes c.args.node ≡ Some n) (sym c.self.view_is) c.requires.there.1)

use Rattle.std.proofs.Common.{◌≡◌, ◌++◌, ◌∷◌, [], refl, sym, ◌∙◌, ap, subst}
use Rattle.fs_board.specs.Growth.{board_of}
use Rattle.fs_board.specs.View.{Search, entry_of, event_of, reply_of}
use Rattle.fs_board.proofs.Replays.{StepsFrom, replays, answered}
use Rattle.fs_board.proofs.board.Board.refuse.Goals as goal

pub invariant_of-self-2 : goal.invariant_of-self-2
invariant_of-self-2 c =
    let s : Search = record { question = c.self.inside.question.value; board = board_of c.self.inside.tree; log = c.self.inside.log.items } in
    let was = c.self.invariant.replay in
    let e = event_of c.args.event in
    let r = reply_of c.args.reply in
    let step : StepsFrom s c.args.worker e r s.board = subst (λ (x : Search). StepsFrom x c.args.worker e r x.board) (sym c.self.view_is) c.requires.step in
    let log : c.push.new.self.items ≡ s.log ++ entry_of c.args.worker e r ∷ [] =
    c.in_ok-push.ensures.items ∙ ap (λ x. s.log ++ x ∷ []) (c.new.ensures ∙ ap (entry_of c.args.worker e) c.requires.copy) in
    record { replay = replays s s.board c.push.new.self.items c.args.worker e r was step refl was.room log; backed = c.self.invariant.backed }

pub returns-clause-step : goal.returns-clause-step
returns-clause-step c =
    let s : Search = record { question = c.self.inside.question.value; board = board_of c.self.inside.tree; log = c.self.inside.log.items } in
    let was = c.self.invariant.replay in
    let e = event_of c.args.event in
    let r = reply_of c.args.reply in
    let step : StepsFrom s c.args.worker e r s.board = subst (λ (x : Search). StepsFrom x c.args.worker e r x.board) (sym c.self.view_is) c.requires.step in
    let log : c.push.new.self.items ≡ s.log ++ entry_of c.args.worker e r ∷ [] =
    c.in_ok-push.ensures.items ∙ ap (λ x. s.log ++ x ∷ []) (c.new.ensures ∙ ap (entry_of c.args.worker e) c.requires.copy) in
    answered c.args.self.now s s.board c.push.new.self.items c.args.worker e r c.self.view_is step log

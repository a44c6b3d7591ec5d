use Rattle.std.proofs.Common.{◌≡◌, ◌++◌, ◌∷◌, [], Some, sym, ◌∙◌, ap, subst, refl}
use Rattle.std.specs.Prelude.{if◌then◌else◌}
use Rattle.std.proofs.lemmas.Option.{slice_get_within}
use Rattle.fs_model.specs.Allows.{Allows}
use Rattle.fs_board_offers.specs.Parts.{Part, floor}
use Rattle.fs_board_offers.specs.Offers.{slots}
use Rattle.fs_board_offers.specs.Board.{Board, Posted, Post, Closed, is_held_by, part_at, better_of, with_status}
use Rattle.fs_cert_evidence.specs.Evidence.{Refuted, ShowsForbidden}
use Rattle.fs_board_offers.specs.Bests.{is_best}
use Rattle.fs_board.specs.Growth.{Tree, board_of, marked, with_bound}
use Rattle.fs_board.specs.View.{Search, IsReplay, Answers, entry_of}
use Rattle.fs_board.proofs.Backed.{best_kept, backed_bound}
use Rattle.fs_board.proofs.Bests.{best_is_bound}
use Rattle.fs_board.proofs.Children.{node_with, one_free}
use Rattle.fs_board.proofs.Replays.{StepsFrom, with_log, replays, answered, room_marked}
use Rattle.fs_board.proofs.board.Board.post.Goals as goal

pub invariant_of-self-2 : goal.invariant_of-self-2
invariant_of-self-2 c =
    let s : Search = record { question = c.self.inside.question.value; board = board_of c.self.inside.tree; log = c.self.inside.log.items } in
    let was = c.self.invariant.replay in
    let offers = s.question.offers in
    let part : Part = c.in-Some.part.now.value in
    let p = c.args.forbidden.value.placement in
    let held : part_at (is_held_by c.args.worker) s.board c.args.node ≡ Some part = sym c.in-Some.ensures in
    let n = node_with (is_held_by c.args.worker) s.board c.args.node part held in
    let new : Board = record (with_status Posted c.args.node part s.board) { bound = better_of offers s.board.bound p } in
    let least : c.in_ok-floor.floor.items ≡ floor part = c.in_ok-floor.ensures ∙ ap floor c.deref.ensures in
    let entries : c.behind-forbidden.inside.placement ≡ p = ap (λ (x : Refuted). x.placement) (c.behind-forbidden.view_is ∙ c.deref-2.ensures) in
    let floored : p ≡ floor part = sym entries ∙ (sym c.as_slice.ensures.entries ∙ (c.is_same.ensures.yes c.if-not-is_same.false ∙ (c.deref-3.ensures.value ∙ least))) in
    let forbids : Allows s.question.test p → ⊥ = subst (λ (x : Search). Allows x.question.test p → ⊥) (sym c.self.view_is) c.requires.forbids in
    let step : StepsFrom s c.args.worker (Post c.args.node p) Closed new = (part, held, floored, forbids, refl) in
    let log : c.push_within.new.list.items ≡ s.log ++ entry_of c.args.worker (Post c.args.node p) Closed ∷ [] =
    c.push_within.ensures ∙ (ap (λ l. l ++ c.new.result ∷ []) c.in_ok-reserve.ensures.items ∙ ap (λ x. s.log ++ x ∷ []) c.new.ensures) in
    let best : c.is_best-better.result ≡ is_best offers s.board.bound p =
    c.is_best-better.ensures ∙ (ap (λ (x : Search). is_best x.question.offers x.board.bound c.deref-4.result.now) (sym c.self.view_is) ∙ ap (is_best offers s.board.bound) (c.deref-4.ensures.value ∙ (least ∙ sym floored))) in
    let tree : Tree = c.self.inside.tree in
    let f : Refuted = c.args.forbidden.value in
    let better = c.is_best-better.result in
    let now : Tree = with_bound (if better then Some f else tree.bound) (marked Posted c.args.node part tree) in
    let posted : c.post.new.self ≡ now = c.post.ensures n.0 n.1
    ∙ (ap (λ g. with_bound (if better then Some g else tree.bound) (marked Posted c.args.node n.0.part tree)) c.in_ok-kept.ensures ∙ ap (λ q. with_bound (if better then Some f else tree.bound) (marked Posted c.args.node q tree)) n.2) in
    let bound : (board_of now).bound ≡ better_of offers s.board.bound p =
    best_kept better f tree.bound ∙ (ap (λ b. if b then Some p else s.board.bound) best ∙ best_is_bound offers s.board.bound p) in
    let made : board_of now ≡ new = ap (λ b. let x : Board = record (with_status Posted c.args.node part s.board) { bound = b } in x) bound in
    let cycles : ShowsForbidden s.question.test f = subst (λ (x : Search). ShowsForbidden x.question.test f) (sym c.self.view_is) c.requires.cycles in
    rw posted (record {
      replay = subst (λ (b : Board). IsReplay (with_log s b c.push_within.new.list.items)) (sym made) (replays s new c.push_within.new.list.items c.args.worker (Post c.args.node p) Closed was step refl (room_marked s Posted c.args.node part was) log);
      backed = backed_bound s.question.test (slots s.question.offers) f tree.bound tree.witnesses better cycles c.self.invariant.backed;
    })

pub returns-clause-step : goal.returns-clause-step
returns-clause-step c =
    let s : Search = record { question = c.self.inside.question.value; board = board_of c.self.inside.tree; log = c.self.inside.log.items } in
    let was = c.self.invariant.replay in
    let offers = s.question.offers in
    let part : Part = c.in-Some.part.now.value in
    let p = c.args.forbidden.value.placement in
    let held : part_at (is_held_by c.args.worker) s.board c.args.node ≡ Some part = sym c.in-Some.ensures in
    let n = node_with (is_held_by c.args.worker) s.board c.args.node part held in
    let new : Board = record (with_status Posted c.args.node part s.board) { bound = better_of offers s.board.bound p } in
    let least : c.in_ok-floor.floor.items ≡ floor part = c.in_ok-floor.ensures ∙ ap floor c.deref.ensures in
    let entries : c.behind-forbidden.inside.placement ≡ p = ap (λ (x : Refuted). x.placement) (c.behind-forbidden.view_is ∙ c.deref-2.ensures) in
    let floored : p ≡ floor part = sym entries ∙ (sym c.as_slice.ensures.entries ∙ (c.is_same.ensures.yes c.if-not-is_same.false ∙ (c.deref-3.ensures.value ∙ least))) in
    let forbids : Allows s.question.test p → ⊥ = subst (λ (x : Search). Allows x.question.test p → ⊥) (sym c.self.view_is) c.requires.forbids in
    let step : StepsFrom s c.args.worker (Post c.args.node p) Closed new = (part, held, floored, forbids, refl) in
    let log : c.push_within.new.list.items ≡ s.log ++ entry_of c.args.worker (Post c.args.node p) Closed ∷ [] =
    c.push_within.ensures ∙ (ap (λ l. l ++ c.new.result ∷ []) c.in_ok-reserve.ensures.items ∙ ap (λ x. s.log ++ x ∷ []) c.new.ensures) in
    let best : c.is_best-better.result ≡ is_best offers s.board.bound p =
    c.is_best-better.ensures ∙ (ap (λ (x : Search). is_best x.question.offers x.board.bound c.deref-4.result.now) (sym c.self.view_is) ∙ ap (is_best offers s.board.bound) (c.deref-4.ensures.value ∙ (least ∙ sym floored))) in
    let tree : Tree = c.self.inside.tree in
    let f : Refuted = c.args.forbidden.value in
    let better = c.is_best-better.result in
    let now : Tree = with_bound (if better then Some f else tree.bound) (marked Posted c.args.node part tree) in
    let posted : c.post.new.self ≡ now = c.post.ensures n.0 n.1
    ∙ (ap (λ g. with_bound (if better then Some g else tree.bound) (marked Posted c.args.node n.0.part tree)) c.in_ok-kept.ensures ∙ ap (λ q. with_bound (if better then Some f else tree.bound) (marked Posted c.args.node q tree)) n.2) in
    let bound : (board_of now).bound ≡ better_of offers s.board.bound p =
    best_kept better f tree.bound ∙ (ap (λ b. if b then Some p else s.board.bound) best ∙ best_is_bound offers s.board.bound p) in
    let made : board_of now ≡ new = ap (λ b. let x : Board = record (with_status Posted c.args.node part s.board) { bound = b } in x) bound in
    rw posted (subst (λ (b : Board). Answers c.args.self.now (with_log s b c.push_within.new.list.items) c.args.worker (Post c.args.node p) Closed) (sym made)
    (answered c.args.self.now s new c.push_within.new.list.items c.args.worker (Post c.args.node p) Closed c.self.view_is step log))

pub push_within-requires : goal.push_within-requires
push_within-requires c = one_free _ _ c.in_ok-reserve.ensures.ok

pub post-requires : goal.post-requires
post-requires c =
    let s : Search = record { question = c.self.inside.question.value; board = board_of c.self.inside.tree; log = c.self.inside.log.items } in
    let part : Part = c.in-Some.part.now.value in
    let n = node_with (is_held_by c.args.worker) s.board c.args.node part (sym c.in-Some.ensures) in
    slice_get_within s.board.nodes c.args.node n.0 n.1

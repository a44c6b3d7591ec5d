use Rattle.std.proofs.Common.{◌≡◌, ◌+◌, ◌≤◌, ◌++◌, ◌∷◌, [], length, map, List, Some, true, false, sym, ◌∙◌, ap, subst, refl}
use Rattle.std.specs.Prelude.{slice_set, All}
use Rattle.std.proofs.lemmas.Option.{slice_get_within}
use Rattle.fs_board_offers.specs.Parts.{Part, is_undecided, decide, child_parts}
use Rattle.fs_board_offers.specs.Board.{Board, Node, Status, Open, Split, Event, Reply, SplitAt, Children, Full, is_held_by, part_at, is_full, with_open, with_status}
use Rattle.fs_board_offers.specs.Offers.{Offers, options, offer_at}
use Rattle.fs_board.specs.Growth.{Tree, open_node, board_of, marked, grown}
use Rattle.fs_board.specs.View.{Search, entry_of}
use Rattle.fs_board.proofs.Children.{node_with, length_map, not_less, all_open, room_for, room_grown, one_free, limit_fits, sum_fits, is_more}
use Rattle.fs_board.proofs.Counts.{length_set}
use Rattle.fs_board.proofs.Replays.{StepsFrom, replays, answered}
use Rattle.fs_board.proofs.board.Board.split.Goals as goal

pub split-requires-clause-opened : goal.split-requires-clause-opened
split-requires-clause-opened c =
    let part = c.deref-2.result.now in
    let offers = c.offers.result.now in
    subst (All (λ (n : Node). n.status ≡ Open)) (sym c.in_ok-children.ensures) (all_open (child_parts offers c.args.slot part))

pub invariant_of-self-2 : goal.invariant_of-self-2
invariant_of-self-2 c =
    let s : Search = record { question = c.self.inside.question.value; board = board_of c.self.inside.tree; log = c.self.inside.log.items } in
    let was = c.self.invariant.replay in
    let offers = s.question.offers in
    let part : Part = c.in-Some.part.now.value in
    let held : part_at (is_held_by c.args.worker) s.board c.args.node ≡ Some part = sym c.in-Some.ensures in
    let n = node_with (is_held_by c.args.worker) s.board c.args.node part held in
    let d1 : c.deref.result.now ≡ part = c.deref.ensures in
    let d2 : c.offers.result.now ≡ offers = c.offers.ensures ∙ ap (λ (x : Search). x.question.offers) (sym c.self.view_is) in
    let d3 : c.deref-2.result.now ≡ part = c.deref-2.ensures in
    let kids : List Node = map open_node (child_parts offers c.args.slot part) in
    let born : c.in_ok-children.children.items ≡ kids =
    c.in_ok-children.ensures ∙ (ap (λ (q : Part). map open_node (map (decide c.args.slot q) (options (offer_at c.offers.result.now c.args.slot)))) d3 ∙ ap (λ (q : Offers). map open_node (child_parts q c.args.slot part)) d2) in
    let free : is_undecided c.args.slot part ≡ true = ap (is_undecided c.args.slot) (sym d1) ∙ (sym c.is_undecided.ensures ∙ c.if-not-is_undecided.false) in
    let first : c.len-first.result ≡ length s.board.nodes = c.len-first.ensures.len in
    let many : length kids ≡ length (options (offer_at offers c.args.slot)) = length_map open_node (child_parts offers c.args.slot part) ∙ length_map (decide c.args.slot part) (options (offer_at offers c.args.slot)) in
    let count : c.len-count.result ≡ length (options (offer_at offers c.args.slot)) = c.len-count.ensures ∙ (c.in_ok-children.children.ok.0 ∙ (ap length born ∙ many)) in
    let limit : c.limit.result ≡ s.board.limit = c.limit.ensures in
    let room_left = room_for c.len-first.result c.len-count.result c.limit.result (length s.board.nodes) (length (options (offer_at offers c.args.slot))) s.board.limit first count limit c.if-limit-first.false in
    let full : is_full offers c.args.slot s.board ≡ false = not_less (s.board.limit + 1) (length s.board.nodes + length (options (offer_at offers c.args.slot))) room_left in
    let z : Status = Split c.args.slot (length s.board.nodes) in
    let new : Board = with_open (child_parts offers c.args.slot part) (with_status z c.args.node part s.board) in
    let e : Event = SplitAt c.args.node c.args.slot in
    let r : Reply = Children c.len-first.result c.len-count.result in
    let step : StepsFrom s c.args.worker e r new = (part, held, free, full, first, count, refl) in
    let log : c.push_within.new.list.items ≡ s.log ++ entry_of c.args.worker e r ∷ [] =
    c.push_within.ensures ∙ (ap (λ l. l ++ c.new.result ∷ []) c.in_ok-reserve.ensures.items ∙ ap (λ x. s.log ++ x ∷ []) c.new.ensures) in
    let now : Tree = grown (marked z c.args.node part c.self.inside.tree) kids in
    let split : c.split.new.self ≡ now = c.in_ok-split.ensures.ok n.0 n.1
    ∙ (ap (λ p. grown (marked z c.args.node p c.self.inside.tree) c.in_ok-children.children.items) n.2 ∙ ap (grown (marked z c.args.node part c.self.inside.tree)) born) in
    let same = length_set s.board.nodes c.args.node (record { part = part; status = z }) in
    let room : length new.nodes ≤ s.board.limit + 1 =
    room_grown (slice_set s.board.nodes c.args.node (record { part = part; status = z })) s.board.nodes kids (length (options (offer_at offers c.args.slot))) (s.board.limit + 1) same many room_left in
    rw split (record { replay = replays s new c.push_within.new.list.items c.args.worker e r was step refl room log; backed = c.self.invariant.backed })

pub returns-clause-step : goal.returns-clause-step
returns-clause-step c =
    let s : Search = record { question = c.self.inside.question.value; board = board_of c.self.inside.tree; log = c.self.inside.log.items } in
    let was = c.self.invariant.replay in
    let offers = s.question.offers in
    let part : Part = c.in-Some.part.now.value in
    let held : part_at (is_held_by c.args.worker) s.board c.args.node ≡ Some part = sym c.in-Some.ensures in
    let n = node_with (is_held_by c.args.worker) s.board c.args.node part held in
    let d1 : c.deref.result.now ≡ part = c.deref.ensures in
    let d2 : c.offers.result.now ≡ offers = c.offers.ensures ∙ ap (λ (x : Search). x.question.offers) (sym c.self.view_is) in
    let d3 : c.deref-2.result.now ≡ part = c.deref-2.ensures in
    let kids : List Node = map open_node (child_parts offers c.args.slot part) in
    let born : c.in_ok-children.children.items ≡ kids =
    c.in_ok-children.ensures ∙ (ap (λ (q : Part). map open_node (map (decide c.args.slot q) (options (offer_at c.offers.result.now c.args.slot)))) d3 ∙ ap (λ (q : Offers). map open_node (child_parts q c.args.slot part)) d2) in
    let free : is_undecided c.args.slot part ≡ true = ap (is_undecided c.args.slot) (sym d1) ∙ (sym c.is_undecided.ensures ∙ c.if-not-is_undecided.false) in
    let first : c.len-first.result ≡ length s.board.nodes = c.len-first.ensures.len in
    let many : length kids ≡ length (options (offer_at offers c.args.slot)) = length_map open_node (child_parts offers c.args.slot part) ∙ length_map (decide c.args.slot part) (options (offer_at offers c.args.slot)) in
    let count : c.len-count.result ≡ length (options (offer_at offers c.args.slot)) = c.len-count.ensures ∙ (c.in_ok-children.children.ok.0 ∙ (ap length born ∙ many)) in
    let limit : c.limit.result ≡ s.board.limit = c.limit.ensures in
    let room_left = room_for c.len-first.result c.len-count.result c.limit.result (length s.board.nodes) (length (options (offer_at offers c.args.slot))) s.board.limit first count limit c.if-limit-first.false in
    let full : is_full offers c.args.slot s.board ≡ false = not_less (s.board.limit + 1) (length s.board.nodes + length (options (offer_at offers c.args.slot))) room_left in
    let z : Status = Split c.args.slot (length s.board.nodes) in
    let new : Board = with_open (child_parts offers c.args.slot part) (with_status z c.args.node part s.board) in
    let e : Event = SplitAt c.args.node c.args.slot in
    let r : Reply = Children c.len-first.result c.len-count.result in
    let step : StepsFrom s c.args.worker e r new = (part, held, free, full, first, count, refl) in
    let log : c.push_within.new.list.items ≡ s.log ++ entry_of c.args.worker e r ∷ [] =
    c.push_within.ensures ∙ (ap (λ l. l ++ c.new.result ∷ []) c.in_ok-reserve.ensures.items ∙ ap (λ x. s.log ++ x ∷ []) c.new.ensures) in
    let now : Tree = grown (marked z c.args.node part c.self.inside.tree) kids in
    let split : c.split.new.self ≡ now = c.in_ok-split.ensures.ok n.0 n.1
    ∙ (ap (λ p. grown (marked z c.args.node p c.self.inside.tree) c.in_ok-children.children.items) n.2 ∙ ap (grown (marked z c.args.node part c.self.inside.tree)) born) in
    rw split (answered c.args.self.now s new c.push_within.new.list.items c.args.worker e r c.self.view_is step log)

pub push_within-requires : goal.push_within-requires
push_within-requires c = one_free _ _ c.in_ok-reserve.ensures.ok

pub split-requires-clause-there : goal.split-requires-clause-there
split-requires-clause-there c =
    let s : Search = record { question = c.self.inside.question.value; board = board_of c.self.inside.tree; log = c.self.inside.log.items } in
    let part : Part = c.in-Some.part.now.value in
    let n = node_with (is_held_by c.args.worker) s.board c.args.node part (sym c.in-Some.ensures) in
    slice_get_within s.board.nodes c.args.node n.0 n.1

pub overflow_add-limit : goal.overflow_add-limit
overflow_add-limit c = limit_fits c.limit.result c.self.inside.tree.limit c.limit.ensures c.self.invariant.replay.limit

pub overflow_add-first : goal.overflow_add-first
overflow_add-first c =
    let children = c.in_ok-children.children in
    sum_fits c.len-first.result c.len-count.result children.len children.cap c.len-first.ensures.small c.len-count.ensures children.ok.1 children.small

pub refuse-requires-then-limit-first-clause-step : goal.refuse-requires-then-limit-first-clause-step
refuse-requires-then-limit-first-clause-step c =
    let s : Search = record { question = c.self.inside.question.value; board = board_of c.self.inside.tree; log = c.self.inside.log.items } in
    let offers = s.question.offers in
    let part : Part = c.in-Some.part.now.value in
    let held : part_at (is_held_by c.args.worker) s.board c.args.node ≡ Some part = sym c.in-Some.ensures in
    let d1 : c.deref.result.now ≡ part = c.deref.ensures in
    let d2 : c.offers.result.now ≡ offers = c.offers.ensures ∙ ap (λ (x : Search). x.question.offers) (sym c.self.view_is) in
    let d3 : c.deref-2.result.now ≡ part = c.deref-2.ensures in
    let kids : List Node = map open_node (child_parts offers c.args.slot part) in
    let born : c.in_ok-children.children.items ≡ kids =
    c.in_ok-children.ensures ∙ (ap (λ (q : Part). map open_node (map (decide c.args.slot q) (options (offer_at c.offers.result.now c.args.slot)))) d3 ∙ ap (λ (q : Offers). map open_node (child_parts q c.args.slot part)) d2) in
    let free : is_undecided c.args.slot part ≡ true = ap (is_undecided c.args.slot) (sym d1) ∙ (sym c.is_undecided.ensures ∙ c.if-not-is_undecided.false) in
    let many : length kids ≡ length (options (offer_at offers c.args.slot)) = length_map open_node (child_parts offers c.args.slot part) ∙ length_map (decide c.args.slot part) (options (offer_at offers c.args.slot)) in
    let count : c.len-count.result ≡ length (options (offer_at offers c.args.slot)) = c.len-count.ensures ∙ (c.in_ok-children.children.ok.0 ∙ (ap length born ∙ many)) in
    let full : is_full offers c.args.slot s.board ≡ true =
    is_more c.len-first.result c.len-count.result c.limit.result (length s.board.nodes) (length (options (offer_at offers c.args.slot))) s.board.limit c.len-first.ensures.len count c.limit.ensures c.if-limit-first.true in
    let step : StepsFrom s c.args.worker (SplitAt c.args.node c.args.slot) Full s.board = (part, held, free, full, refl) in
    subst (λ (x : Search). StepsFrom x c.args.worker (SplitAt c.args.node c.args.slot) Full x.board) c.self.view_is step

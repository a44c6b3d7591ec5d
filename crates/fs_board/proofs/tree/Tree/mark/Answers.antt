use Rattle.std.proofs.Common.{◌≡◌, ◌<◌, List, length, Some, slice_get, slice_set, sym, ◌∙◌, ap, arith, subst, refl}
use Rattle.std.proofs.lemmas.Option.{slice_get_read, same_Some}
use Rattle.fs_board_offers.specs.Board.{Node, is_open, is_held}
use Rattle.std.specs.Arc.{arc_value}
use Rattle.std.specs.Prelude.{option_map, map}
use Rattle.fs_board.specs.Growth.{Tree, marked}
use Rattle.fs_board.specs.View.{status_of}
use Rattle.fs_board.proofs.Counts.{marks, one}
use Rattle.fs_board.proofs.tree.Tree.mark.Goals as goal

pub overflow_sub-self : goal.overflow_sub-self
overflow_sub-self c =
    let ns = c.self.inside.nodes.items in
    let n = c.index_mut-place.result.now in
    let m = c.mark.new.self in
    let there : c.args.node < length ns = subst (λ s. c.args.node < length s.nodes) (sym c.self.view_is) c.requires.there in
    let at = slice_get_read ns (length ns) c.args.node n refl there c.index_mut-place.ensures.value in
    let status : m.status ≡ status_of c.args.status = ap (λ x. x.status) c.mark.ensures in
    let was : status_of c.status-was.result ≡ n.status = c.status-was.ensures in
    let f = marks ns c.self.inside.next c.self.inside.free c.self.inside.held c.args.node n m c.bit-opened.result c.bit-taken.result c.bit-given.result c.self.invariant at (ap is_open status ∙ c.requires.closed)
    (c.bit-opened.ensures.value ∙ ap one (c.is_open.ensures ∙ ap is_open was)) (c.bit-taken.ensures.value ∙ ap one (c.is_held.ensures ∙ ap is_held (sym status))) (c.bit-given.ensures.value ∙ ap one (c.is_held-2.ensures ∙ ap is_held was)) in
    f.free_down

pub overflow_add-self : goal.overflow_add-self
overflow_add-self c =
    let ns = c.self.inside.nodes.items in
    let n = c.index_mut-place.result.now in
    let m = c.mark.new.self in
    let there : c.args.node < length ns = subst (λ s. c.args.node < length s.nodes) (sym c.self.view_is) c.requires.there in
    let at = slice_get_read ns (length ns) c.args.node n refl there c.index_mut-place.ensures.value in
    let status : m.status ≡ status_of c.args.status = ap (λ x. x.status) c.mark.ensures in
    let was : status_of c.status-was.result ≡ n.status = c.status-was.ensures in
    let f = marks ns c.self.inside.next c.self.inside.free c.self.inside.held c.args.node n m c.bit-opened.result c.bit-taken.result c.bit-given.result c.self.invariant at (ap is_open status ∙ c.requires.closed)
    (c.bit-opened.ensures.value ∙ ap one (c.is_open.ensures ∙ ap is_open was)) (c.bit-taken.ensures.value ∙ ap one (c.is_held.ensures ∙ ap is_held (sym status))) (c.bit-given.ensures.value ∙ ap one (c.is_held-2.ensures ∙ ap is_held was)) in
    let up = f.held_up in let cap = c.self.inside.nodes.small in let ok = c.self.inside.nodes.ok in let few = c.bit-taken.ensures.small in omega arith

pub overflow_sub-self-2 : goal.overflow_sub-self-2
overflow_sub-self-2 c =
    let ns = c.self.inside.nodes.items in
    let n = c.index_mut-place.result.now in
    let m = c.mark.new.self in
    let there : c.args.node < length ns = subst (λ s. c.args.node < length s.nodes) (sym c.self.view_is) c.requires.there in
    let at = slice_get_read ns (length ns) c.args.node n refl there c.index_mut-place.ensures.value in
    let status : m.status ≡ status_of c.args.status = ap (λ x. x.status) c.mark.ensures in
    let was : status_of c.status-was.result ≡ n.status = c.status-was.ensures in
    let f = marks ns c.self.inside.next c.self.inside.free c.self.inside.held c.args.node n m c.bit-opened.result c.bit-taken.result c.bit-given.result c.self.invariant at (ap is_open status ∙ c.requires.closed)
    (c.bit-opened.ensures.value ∙ ap one (c.is_open.ensures ∙ ap is_open was)) (c.bit-taken.ensures.value ∙ ap one (c.is_held.ensures ∙ ap is_held (sym status))) (c.bit-given.ensures.value ∙ ap one (c.is_held-2.ensures ∙ ap is_held was)) in
    f.held_down

pub invariant_of-self : goal.invariant_of-self
invariant_of-self c =
    let ns = c.self.inside.nodes.items in
    let n = c.index_mut-place.result.now in
    let m = c.mark.new.self in
    let there : c.args.node < length ns = subst (λ s. c.args.node < length s.nodes) (sym c.self.view_is) c.requires.there in
    let at = slice_get_read ns (length ns) c.args.node n refl there c.index_mut-place.ensures.value in
    let status : m.status ≡ status_of c.args.status = ap (λ x. x.status) c.mark.ensures in
    let was : status_of c.status-was.result ≡ n.status = c.status-was.ensures in
    let f = marks ns c.self.inside.next c.self.inside.free c.self.inside.held c.args.node n m c.bit-opened.result c.bit-taken.result c.bit-given.result c.self.invariant at (ap is_open status ∙ c.requires.closed)
    (c.bit-opened.ensures.value ∙ ap one (c.is_open.ensures ∙ ap is_open was)) (c.bit-taken.ensures.value ∙ ap one (c.is_held.ensures ∙ ap is_held (sym status))) (c.bit-given.ensures.value ∙ ap one (c.is_held-2.ensures ∙ ap is_held was)) in
    f.counted

pub returns : goal.returns
returns c was' i =
    let ns = c.self.inside.nodes.items in
    let n = c.index_mut-place.result.now in
    let there : c.args.node < length ns = subst (λ s. c.args.node < length s.nodes) (sym c.self.view_is) c.requires.there in
    let at = slice_get_read ns (length ns) c.args.node n refl there c.index_mut-place.ensures.value in
    let i' : slice_get ns c.args.node ≡ Some was' = subst (λ (s : Tree). slice_get s.nodes c.args.node ≡ Some was') (sym c.self.view_is) i in
    let e : n ≡ was' = same_Some n was' (sym at ∙ i') in
    let m : c.mark.new.self ≡ record { part = was'.part; status = status_of c.args.status } = c.mark.ensures ∙ ap (λ (x : Node). let y : Node = record { part = x.part; status = status_of c.args.status } in y) e in
    let tree : List Node → Tree = λ nodes. record { nodes = nodes; bound = option_map arc_value c.self.inside.bound; witnesses = map arc_value c.self.inside.witnesses.items; limit = c.self.inside.limit } in
    subst (λ (s : Tree). tree (slice_set ns c.args.node c.mark.new.self) ≡ marked (status_of c.args.status) c.args.node was'.part s) c.self.view_is
    (ap (λ x. tree (slice_set ns c.args.node x)) m)

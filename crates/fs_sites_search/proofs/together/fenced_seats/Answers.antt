use Rattle.std.proofs.Common.{All, List, length, rules, sym, subst}
use Rattle.std.proofs.lemmas.Iterator.Adapters.{YieldsList-from_vec}
use Rattle.std.proofs.lemmas.Iterator.Consumers.{YieldsList-turn}
use Rattle.std.proofs.lemmas.List.Elements.{All-push}
use Rattle.fs_sites_search.specs.Seats.{Asked, IsAskedIn, IsOfTest}
use Rattle.fs_sites_search.proofs.Asked.{asked-in}
use Rattle.fs_sites_search.proofs.together.fenced_seats.Goals as goal

pub loop-seat-preserved : goal.loop-seat-preserved
loop-seat-preserved c =
    let parts = c.args.parts.now in
    let P = IsAskedIn parts c.args.placement.now in
    let seat = c.in-Some.seat in
    let new = c.in_ok-fenced.field-0 in
    let turn = YieldsList-turn (YieldsList-from_vec {s = c.into_iter-seat-iterator.result} c.args.seats.items (search rules) (search rules))
    c.loop-seat.yielded c.loop-seat.seat-iterator c.loop-seat.yielded_by c.next.result c.next.new.self seat c.in-Some.is c.next.ensures.steps in
    let of = subst (IsOfTest parts) (sym turn.1) (c.requires.seats (length c.loop-seat.yielded) seat turn.0) in
    let test = c.in_ok-fenced.ensures.test in
    let asked = asked-in parts c.args.placement.now seat new c.number.result c.index-parts-number.result of c.number.ensures
    c.index-parts-number.is test.0 test.1 c.in_ok-fenced.ensures.fences in
    subst (All P) (sym {A = List Asked} c.in_ok-push.ensures.items) (All-push P c.loop-seat.asked.items new c.loop-seat.invariant asked)

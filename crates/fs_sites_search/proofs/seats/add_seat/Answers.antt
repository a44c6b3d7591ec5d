use Rattle.std.proofs.Common.{All, List, sym, subst}
use Rattle.std.proofs.lemmas.List.Elements.{All-push}
use Rattle.fs_sites_search.specs.Seats.{Asked, IsOfTest}
use Rattle.fs_sites_search.proofs.Asked.{of-test}
use Rattle.fs_sites_search.proofs.seats.add_seat.Goals as goal

pub returns-clause-ok : goal.returns-clause-ok
returns-clause-ok c =
    let P = IsOfTest c.args.parts.now in
    let seat = c.in_ok-new.field-0 in
    let of = of-test c.args.parts.now c.args.number c.index-parts-number.result seat c.requires.low c.index-parts-number.is
    c.in_ok-new.ensures.number c.in_ok-new.ensures.test in
    subst (All P) (sym {A = List Asked} c.in_ok-push.ensures.items) (All-push P c.args.seats.now.items seat c.requires.seats of)

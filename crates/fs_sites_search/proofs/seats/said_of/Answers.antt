use Rattle.std.proofs.Common.{subst}
use Rattle.std.proofs.lemmas.Option.{get_or_from_slice_get}
use Rattle.fs_sites_search.specs.Seats.{Asked, IsSaid}
use Rattle.fs_sites_search.proofs.Asked.{said-ok, said-err}
use Rattle.fs_sites_search.proofs.seats.said_of.Goals as goal

pub returns-in-Some-clause-ok : goal.returns-in-Some-clause-ok
returns-in-Some-clause-ok c =
    let is = c.in-Some.ensures in
    let seat = c.index-seats-place.result in
    let same = get_or_from_slice_get c.args.seats.now c.in-Some.place is.seat seat is.at in
    said-ok c.args.seats.now c.args.number c.in-Some.place is c.take.result
    (subst (λ (a : Asked). IsSaid a.test a.fences c.take.result) same c.take.ensures.said)

pub returns-in-Some-clause-err : goal.returns-in-Some-clause-err
returns-in-Some-clause-err c =
    let is = c.in-Some.ensures in
    let seat = c.index-seats-place.result in
    let same = get_or_from_slice_get c.args.seats.now c.in-Some.place is.seat seat is.at in
    said-err c.args.seats.now c.args.number c.in-Some.place is c.take.result
    (subst (λ (a : Asked). IsSaid a.test a.fences c.take.result) same c.take.ensures.said)

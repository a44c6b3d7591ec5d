use Rattle.std.proofs.Common.{All, sym, subst}
use Rattle.fs_sites_search.proofs.Faults.{handed}
use Rattle.fs_sites_search.specs.Seats.{IsAskedIn}
use Rattle.fs_sites_search.proofs.Asked.{all-shown-in, fails-in, forbid-in}
use Rattle.fs_sites_search.proofs.together.allowing.Goals as goal

pub returns-in_err-found-clause-err : goal.returns-in_err-found-clause-err
returns-in_err-found-clause-err g c =
    let parts = c.args.parts.now in
    let p = c.args.placement.now in
    let seats = c.as_mut_slice.result.now in
    let are = subst (All (IsAskedIn parts p)) (sym c.as_mut_slice.ensures.value) c.in_ok-asked.ensures.ok in
    handed c.from_residual-in_err-found.result _ _ c.from_residual-in_err-found.ensures.1
    (λ other. fails-in parts p seats are c.in_err-found.field-0.0 (c.in_err-found.ensures.err other))

pub returns-clause-shown : goal.returns-clause-shown
returns-clause-shown g c =
    let parts = c.args.parts.now in
    let p = c.args.placement.now in
    let seats = c.as_mut_slice.result.now in
    let are = subst (All (IsAskedIn parts p)) (sym c.as_mut_slice.ensures.value) c.in_ok-asked.ensures.ok in
    all-shown-in parts p seats are c.in_ok-found.found.items c.in_ok-found.ensures.shown

pub returns-clause-none : goal.returns-clause-none
returns-clause-none g c none =
    let parts = c.args.parts.now in
    let p = c.args.placement.now in
    let seats = c.as_mut_slice.result.now in
    let are = subst (All (IsAskedIn parts p)) (sym c.as_mut_slice.ensures.value) c.in_ok-asked.ensures.ok in
    forbid-in parts p seats are (c.in_ok-found.ensures.none none)

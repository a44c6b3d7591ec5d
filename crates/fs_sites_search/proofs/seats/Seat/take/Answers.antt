use Rattle.std.proofs.Common.{Option, Result, sym, subst}
use Rattle.std.specs.Arc.{arc_value}
use Rattle.fs_kinds.specs.declared.fault.Fault.{Fault}
use Rattle.fs_cert_evidence.specs.Evidence.{Shown}
use Rattle.fs_sites_search.specs.Seats.{Asked, IsSaid}
use Rattle.fs_sites_search.proofs.seats.Seat.take.Goals as goal

pub returns-clause-said : goal.returns-clause-said
returns-clause-said c =
    subst (λ (a : Asked). IsSaid a.test a.fences c.replace.result) c.self.view_is
    (subst (λ (r : Result (Option Shown) Fault). IsSaid (arc_value c.self.inside.test) c.self.inside.fences r) (sym c.replace.ensures.value) c.self.invariant.3)

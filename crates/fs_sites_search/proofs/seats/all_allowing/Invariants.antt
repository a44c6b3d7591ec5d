use Rattle.std.proofs.Common.{◌≡◌, ◌≢◌, All, [], None, IfSome}
use Rattle.fs_kinds.specs.declared.fault.Fault.TheVariants.{Memory}
use Rattle.fs_sites_search.specs.Seats.{FailsAt, ForbidBelow, ShowsAt}
use Rattle.fs_sites_search.proofs.seats.all_allowing.Given as goal

abbrev pub invariant-loop-number : goal.invariant-loop-number
invariant-loop-number l = record {
  same : l.seats ≡ l.initial.seats;
  shown : All (λ shown. ShowsAt l.initial.seats shown.0 shown.1) l.found.items;
  fails : IfSome l.failed (λ f. f ≢ Memory → FailsAt l.initial.seats f);
  none : l.found.items ≡ [] → l.failed ≡ None → ForbidBelow l.initial.seats l.number;
}

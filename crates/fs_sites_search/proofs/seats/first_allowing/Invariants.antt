use Rattle.std.proofs.Common.{◌≡◌}
use Rattle.fs_sites_search.specs.Seats.{ForbidBelow}
use Rattle.fs_sites_search.proofs.seats.first_allowing.Given as goal

abbrev pub invariant-loop-number : goal.invariant-loop-number
invariant-loop-number l = record {
  same : l.seats ≡ l.initial.seats;
  forbid : ForbidBelow l.initial.seats l.number;
}

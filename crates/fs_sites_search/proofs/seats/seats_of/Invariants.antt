use Rattle.std.proofs.Common.{All}
use Rattle.fs_sites_search.specs.Seats.{IsOfTest}
use Rattle.fs_sites_search.proofs.seats.seats_of.Given as goal

abbrev pub invariant-loop-worker : goal.invariant-loop-worker
invariant-loop-worker l = All (IsOfTest l.parts) l.seats.items

abbrev pub invariant-loop-number : goal.invariant-loop-number
invariant-loop-number l = All (IsOfTest l.parts) l.seats.items

use Rattle.std.proofs.Common.{All}
use Rattle.fs_sites_search.specs.Seats.{IsAskedIn}
use Rattle.fs_sites_search.proofs.together.fenced_seats.Given as goal

abbrev pub invariant-loop-seat : goal.invariant-loop-seat
invariant-loop-seat l = All (IsAskedIn l.parts l.placement) l.asked.items

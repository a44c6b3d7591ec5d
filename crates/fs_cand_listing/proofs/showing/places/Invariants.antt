use Rattle.std.proofs.Common.{◌≡◌}
use Rattle.fs_cand_listing.specs.inner.Places.{places_below}
use Rattle.fs_cand_listing.proofs.showing.places.Given as goal

-- the numbers so far
abbrev pub invariant-loop-number : goal.invariant-loop-number
invariant-loop-number l = l.kept.items ≡ places_below l.test l.lists l.number

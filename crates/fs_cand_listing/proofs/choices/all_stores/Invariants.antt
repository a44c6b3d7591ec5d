use Rattle.std.proofs.Common.{◌≡◌, map}
use Rattle.std.specs.List.{range_with_len}
use Rattle.fs_cand_listing.specs.inner.Listed.{own_among}
use Rattle.fs_cand_listing.proofs.choices.all_stores.Given as goal

abbrev pub invariant-loop-location : goal.invariant-loop-location
invariant-loop-location l = l.lists.items ≡ map (own_among l.operations l.count) (range_with_len 0 l.location)

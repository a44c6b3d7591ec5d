use Rattle.std.proofs.Common.{◌≡◌, map}
use Rattle.std.specs.List.{range_with_len}
use Rattle.fs_cand_listing.specs.inner.Listed.{sources_among}
use Rattle.fs_cand_listing.proofs.choices.all_sources.Given as goal

abbrev pub invariant-loop-a : goal.invariant-loop-a
invariant-loop-a l = l.lists.items ≡ map (sources_among l.operations l.count) (range_with_len 0 l.a)

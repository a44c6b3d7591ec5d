use Rattle.std.proofs.Common.{◌≡◌, ◌≤◌, ◌+◌}
use Rattle.std.specs.List.{range_with_len}
use Rattle.fs_cert_evidence.specs.CandidateFaults.{most_candidates}
use Rattle.fs_cand_listing.specs.Ways.{product_by}
use Rattle.fs_cand_listing.specs.inner.Listed.{capped, number_of_sources}
use Rattle.fs_cand_listing.proofs.counting.count_sources_among.Given as goal

abbrev pub invariant-loop-a : goal.invariant-loop-a
invariant-loop-a l = (l.count ≡ capped (product_by (number_of_sources l.operations) (range_with_len 0 l.a))) × (l.count ≤ most_candidates + 1)

use Rattle.std.proofs.Common.{◌≡◌, ◌≤◌, ◌+◌}
use Rattle.std.specs.List.{range_with_len}
use Rattle.fs_cert_evidence.specs.CandidateFaults.{most_candidates}
use Rattle.fs_cand_listing.specs.Ways.{product_by}
use Rattle.fs_cand_listing.specs.inner.Listed.{capped, orders_among}
use Rattle.fs_cand_listing.proofs.counting.count_orders_among.Given as goal

abbrev pub invariant-loop-location : goal.invariant-loop-location
invariant-loop-location l = (l.orders ≡ capped (product_by (orders_among l.operations l.count) (range_with_len 0 l.location))) × (l.orders ≤ most_candidates + 1)

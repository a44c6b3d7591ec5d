use Rattle.std.proofs.Common.{◌≡◌, ◌≤◌, ◌+◌}
use Rattle.fs_cert_evidence.specs.CandidateFaults.{most_candidates}
use Rattle.fs_cand_listing.specs.Ways.{factorial}
use Rattle.fs_cand_listing.specs.inner.Listed.{capped}
use Rattle.fs_cand_listing.proofs.counting.count_orders.Given as goal

abbrev pub invariant-loop-k : goal.invariant-loop-k
invariant-loop-k l = (l.count ≡ capped (factorial l.k)) × (l.count ≤ most_candidates + 1)

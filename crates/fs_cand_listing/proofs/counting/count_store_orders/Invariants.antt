use Rattle.std.proofs.Common.{◌≡◌, ◌≤◌, ◌+◌, take}
use Rattle.fs_cert_evidence.specs.CandidateFaults.{most_candidates}
use Rattle.fs_cand_listing.specs.Ways.{product_by}
use Rattle.fs_cand_listing.specs.inner.Listed.{capped}
use Rattle.fs_cand_listing.specs.inner.Listed.{number_of_orders}
use Rattle.fs_cand_listing.proofs.counting.count_store_orders.Given as goal

abbrev pub invariant-loop-list : goal.invariant-loop-list
invariant-loop-list l = (l.count ≡ capped (product_by number_of_orders (take l.list-index l.stores))) × (l.count ≤ most_candidates + 1)

use Rattle.std.proofs.Common.{◌≡◌, ◌≤◌}
use Rattle.fs_cert_evidence.specs.CandidateFaults.{most_candidates}
use Rattle.fs_cand_listing.proofs.Totals.{sum_to}
use Rattle.fs_cand_listing.proofs.total.check_few.Given as goal

-- the raw candidates with the runs so far
abbrev pub invariant-loop-number : goal.invariant-loop-number
invariant-loop-number l = (l.total ≡ sum_to l.test l.lists l.number) × (l.total ≤ most_candidates)

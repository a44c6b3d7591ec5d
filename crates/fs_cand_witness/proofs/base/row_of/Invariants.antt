use Rattle.std.proofs.Common.{◌≡◌, ℕ, ◌&&◌, []}
use Rattle.std.specs.Prelude.{nat_lt}
use Rattle.fs_cert_evidence.specs.Judged.{is_judged}
use Rattle.fs_cand.specs.Candidates.{candidate_of}
use Rattle.fs_ppo.specs.Rules.{OfRuns}
use Rattle.fs_cand_witness.specs.Edges.{has_bit}
use Rattle.fs_cand_witness.proofs.base.row_of.Given as goal

-- the edges to the numbers so far
abbrev pub invariant-loop-b : goal.invariant-loop-b
invariant-loop-b l = OfRuns l.candidate (λ x. (y : ℕ) → has_bit l.row y ≡ (nat_lt y l.b && is_judged x [] (candidate_of l.candidate) l.a y))

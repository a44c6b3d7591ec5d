use Rattle.std.proofs.Common.{◌≡◌, ℕ, ◌&&◌, []}
use Rattle.std.specs.Prelude.{nat_lt}
use Rattle.fs_cert_evidence.specs.Judged.{is_judged}
use Rattle.fs_cand.specs.Candidates.{candidate_of}
use Rattle.fs_ppo.specs.Rules.{OfRuns}
use Rattle.fs_cand_witness.specs.Edges.{has_edge}
use Rattle.fs_cand_witness.proofs.base.base_rows.Given as goal

-- the edges from the numbers so far
abbrev pub invariant-loop-a : goal.invariant-loop-a
invariant-loop-a l =
    OfRuns l.candidate (λ x. (y z : ℕ) → has_edge l.rows y z ≡ (nat_lt y l.a && (nat_lt z l.n && is_judged x [] (candidate_of l.candidate) y z)))

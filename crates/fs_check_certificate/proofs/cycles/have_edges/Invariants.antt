use Rattle.std.proofs.Common.{◌≡◌, true, take}
use Rattle.std.specs.List.{list_all}
use Rattle.fs_cert_evidence.specs.Judged.{is_edge}
use Rattle.fs_cand.specs.Candidates.{candidate_of}
use Rattle.fs_ppo.specs.Rules.{OfRuns}
use Rattle.fs_check_certificate.proofs.Looked.{steps_along}
use Rattle.fs_check_certificate.proofs.cycles.have_edges.Given as goal

-- there is an edge for each link so far
abbrev pub invariant-loop-place : goal.invariant-loop-place
invariant-loop-place l =
    OfRuns l.candidate (λ x. list_all (λ step. is_edge x l.placement (candidate_of l.candidate) step.0.0 step.0.1 step.1) (take l.place (steps_along l.numbers l.links)) ≡ true)

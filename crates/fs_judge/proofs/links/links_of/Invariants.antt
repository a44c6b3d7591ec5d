use Rattle.std.proofs.Common.{◌≡◌, ℕ, Some, length}
use Rattle.std.specs.Prelude.{slice_get, slice_index}
use Rattle.fs_model.specs.declared.test.Test.{Test}
use Rattle.fs_model.specs.Execution.{initial_words}
use Rattle.fs_cert_evidence.specs.Candidates.{IsRaw, runs_of}
use Rattle.fs_cert_evidence.specs.Certificate.{Link}
use Rattle.fs_cert_evidence.specs.Judged.{is_judged}
use Rattle.fs_cand.specs.Candidates.{candidate_of, IsMade}
use Rattle.fs_cand_witness.specs.Edges.{has_edge}
use Rattle.fs_judge.specs.inner.Links.{IsLink, followers}
use Rattle.fs_judge.proofs.links.links_of.Given as goal

-- a link for each place so far
abbrev pub invariant-loop-place : goal.invariant-loop-place
invariant-loop-place l = record {
  long : length l.links.items ≡ l.place;
  each : (t : Test) → IsMade (initial_words t) l.candidate → IsRaw t (candidate_of l.candidate)
      → ((a b : ℕ) → has_edge l.rows a b ≡ is_judged (runs_of t (candidate_of l.candidate)) l.placement (candidate_of l.candidate) a b)
      → (k : ℕ) (link : Link) → slice_get l.links.items k ≡ Some link
      → IsLink (runs_of t (candidate_of l.candidate)) l.placement (candidate_of l.candidate) (slice_index l.cycle k) (slice_index (followers l.cycle) k) link;
}

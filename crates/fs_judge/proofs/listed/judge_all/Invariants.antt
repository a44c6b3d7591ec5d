use Rattle.std.proofs.Common.{◌≡◌, ℕ, Some, List, length}
use Rattle.std.specs.Prelude.{slice_get}
use Rattle.fs_cert_evidence.specs.Candidates.{Candidate}
use Rattle.fs_cert_evidence.specs.Certificate.{Link}
use Rattle.fs_cert_evidence.specs.Cycles.{IsCycle}
use Rattle.fs_judge.proofs.listed.judge_all.Given as goal

-- a cycle for each candidate so far
abbrev pub invariant-loop-number : goal.invariant-loop-number
invariant-loop-number l = record {
  long : length l.cycles.items ≡ l.number;
  each : (k : ℕ) (links : List Link) → slice_get l.cycles.items k ≡ Some links
      → (c : Candidate) → slice_get l.showing.candidates k ≡ Some c → IsCycle l.test l.placement c links;
}

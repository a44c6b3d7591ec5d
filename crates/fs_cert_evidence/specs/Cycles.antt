-- Cycles of the judged relation: one for each showing candidate shows that a placement forbids the outcome.
use Rattle.std.specs.Prelude.{◌≡◌, ℕ, ◌≤◌, Bool, true, Some, List, ◌++◌, map, length, take, drop}
use Rattle.std.specs.List.{AllZip, list_all, zip}
use Rattle.fs_kinds.specs.declared.placement.Entry.{Entry}
use Rattle.fs_model.specs.declared.test.Test.{Test}
use Rattle.fs_model.specs.Operations.{PreExecution}
use Rattle.fs_model.specs.Witness.{name_of}
use Rattle.fs_cert_evidence.specs.Candidates.{Candidate, runs_of}
use Rattle.fs_cert_evidence.specs.Listings.{IsListing}
use Rattle.fs_cert_evidence.specs.Judged.{Cause, is_edge}
use Rattle.fs_cert_evidence.specs.Certificate.{Link}

abbrev pub most_links : ℕ
most_links = 64

-- each operation with the next one, and the last with the first
abbrev pub around : List ℕ → List (ℕ × ℕ)
around operations = zip operations (drop 1 operations ++ take 1 operations)

-- each two are an edge of the judged relation, for the cause beside them
abbrev pub are_edges : PreExecution → List Entry → Candidate → List (ℕ × ℕ) → List Cause → Bool
are_edges x p c pairs causes = list_all (λ edge. is_edge x p c edge.0.0 edge.0.1 edge.1) (zip pairs causes)

-- a cycle of the candidate's judged relation under the placement
pub record IsCycle (t : Test) (p : List Entry) (c : Candidate) (links : List Link) : Type 0 where
  pub some : 1 ≤ length links
  pub most : length links ≤ most_links
  pub operations : List ℕ
  pub names : map (name_of (runs_of t c)) operations ≡ map (λ link. Some link.operation) links
  pub edges : are_edges (runs_of t c) p c (around operations) (map (λ link. link.cause) links) ≡ true

-- one cycle for each showing candidate, in their order
abbrev pub HasCycles : Test → List Entry → List (List Link) → Type 0
HasCycles t p cycles = (cs : List Candidate) × IsListing t cs × AllZip (IsCycle t p) cs cycles

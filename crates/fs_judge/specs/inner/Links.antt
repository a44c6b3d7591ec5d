-- Steps of a cycle.
use Rattle.std.specs.Prelude.{◌≡◌, ℕ, true, Some, List, take, drop, ◌++◌}
use Rattle.fs_kinds.specs.declared.placement.Entry.{Entry}
use Rattle.fs_model.specs.Operations.{PreExecution}
use Rattle.fs_model.specs.Witness.{name_of}
use Rattle.fs_cert_evidence.specs.Candidates.{Candidate}
use Rattle.fs_cert_evidence.specs.Certificate.{Link}
use Rattle.fs_cert_evidence.specs.Judged.{is_edge}

-- the name of a, and a cause for which a must come before b
pub record IsLink (x : PreExecution) (p : List Entry) (c : Candidate) (a b : ℕ) (link : Link) : Type 0 where
  pub name : name_of x a ≡ Some link.operation
  pub edge : is_edge x p c a b link.cause ≡ true

-- for each number of a cycle the next one, and the first for the last
abbrev pub followers : List ℕ → List ℕ
followers numbers = drop 1 numbers ++ take 1 numbers

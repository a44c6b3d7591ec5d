-- What is kept of candidates, and what it says.
use Rattle.std.specs.Prelude.{◌≡◌, ℕ, ◌≤◌, List, [], All, length}
use Rattle.std.specs.List.{list_any}
use Rattle.fs_kinds.specs.declared.placement.Entry.{Entry}
use Rattle.fs_model.specs.declared.test.Test.{Test}
use Rattle.fs_model.specs.Test.{IsStart}
use Rattle.fs_model.specs.Execution.{initial_words}
use Rattle.fs_model.specs.Operations.{operations}
use Rattle.fs_cert_evidence.specs.Candidates.{Candidate, IsShowing, runs_of}
use Rattle.fs_cert_evidence.specs.Judged.{is_judged}
use Rattle.fs_cand.specs.Candidates.{candidate_of, IsMade}
use Rattle.fs_values.specs.ThinAir.{CanBeListed}
use Rattle.fs_cand_witness.specs.Edges.{has_edge}
use Rattle.fs_cand_witness.specs.Fencing.{orders_at, is_fenced}
use Rattle.fs_judge.specs.declared.base.Base.{Base}
use Rattle.fs_judge.specs.declared.known.Known.{Known}

-- its rows are the candidate's judged relation without placed fences, and its sides give the edges of each placement's
-- fences
pub record IsBase (t : Test) (c : Candidate) (base : Base) : Type 0 where
  pub rows : (a b : ℕ) → has_edge base.rows a b ≡ is_judged (runs_of t c) [] c a b
  pub sides : (p : List Entry) (a b : ℕ) → list_any (orders_at p a b) base.sides ≡ is_fenced (runs_of t c) p a b
  pub long : base.len ≡ length (operations (runs_of t c))
  pub few : base.len ≤ 64

-- the candidate shows the outcome, and this is its base
pub record IsKnown (t : Test) (known : Known) : Type 0 where
  pub made : IsMade (initial_words t) known.candidate
  pub operations : length known.candidate.operations ≤ 64
  pub harts : length known.candidate.traces ≤ 8
  pub showing : IsShowing t (candidate_of known.candidate)
  pub base : IsBase t (candidate_of known.candidate) known.base

-- refutations are over the runs of the test, which can be listed
pub record IsReady (t : Test) (basis : Test) : Type 0 where
  pub same : basis ≡ t
  pub listable : CanBeListed t
  pub starts : All IsStart t.starts

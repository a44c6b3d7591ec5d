-- The candidates of a test that show its outcome, listed.
use Rattle.std.specs.Prelude.{List}
use Rattle.fs_model.specs.declared.test.Test.{Test}
use Rattle.fs_cert_evidence.specs.Candidates.{Candidate}

-- a test and candidates of it
pub record Listed : Type 0 where
  pub test : Test
  pub candidates : List Candidate

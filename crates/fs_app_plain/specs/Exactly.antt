-- Which texts of tests are the same with accesses of 64 bits: those of which the law `wide_executions_are_extended` of
-- fs_app_plain speaks.
use Rattle.std.specs.Prelude.{ℕ, List}
use Rattle.fs_model.specs.declared.test.Test.{Test}
use Rattle.fs_litmus.specs.Reads.{Reads}
use Rattle.fs_values.specs.ThinAir.{MeetsNoFault}
use Rattle.fs_app_plain.specs.Wide.{IsExactTest}

-- The runs of each test that the text reads as can be listed, and none of their steps passes 32 bits. There is at most
-- one such test, but for where the parts of its condition lie in memory.
pub record IsExactText (text : List ℕ) : Type 0 where
  pub each : (t : Test) → Reads text t → MeetsNoFault t × IsExactTest t

-- Coherent reads: one hart stores 1, and the other loads the same location twice. Shown would be 1 and then 0.
use Rattle.std.specs.Prelude.{ℕ, None, Some, List, [], ◌∷◌, pos, codes}
use Rattle.std.proofs.Common.{Box}
use Rattle.std.specs.declared.alloc.Global.{Global}
use Rattle.fs_instr.specs.Names.{plain}
use Rattle.fs_instr.specs.declared.names.ImmOp.TheVariants.{Ori}
use Rattle.fs_instr.specs.declared.instr.Instr.TheVariants.{Immediate, Lw, Sw}
use Rattle.fs_model.specs.declared.outcome.Outcome.TheVariants as outcome
use Rattle.fs_model.specs.declared.test.Test.{Test}
use Rattle.fs_model.specs.declared.test.Quantifier.TheVariants.{Exists}
use Rattle.fs_model.specs.declared.step.Step.{Step}
use Rattle.fs_cert_evidence.specs.Candidates.{Candidate}
use Rattle.fs_model.specs.Preserved.{Rule2}
use Rattle.fs_cert_evidence.specs.Judged.{Preserved, ReadsFrom, FromReads}
use Rattle.fs_cert_evidence.specs.Certificate.{Link}
use Rattle.fs_model_worked_examples.specs.Rows.{named}

-- x6 at first is x's address, and the other registers are 0
abbrev pub registers : List ℕ
registers =
    0 ∷ 0 ∷ 0 ∷ 0 ∷ 0 ∷ 0 ∷ 4096 ∷ 0 ∷ 0 ∷ 0 ∷ 0 ∷ 0 ∷ 0 ∷ 0 ∷ 0 ∷ 0
    ∷ 0 ∷ 0 ∷ 0 ∷ 0 ∷ 0 ∷ 0 ∷ 0 ∷ 0 ∷ 0 ∷ 0 ∷ 0 ∷ 0 ∷ 0 ∷ 0 ∷ 0 ∷ 0 ∷ []

-- ori x5,x0,1 / sw x5,0(x6) and lw x5,0(x6) / lw x7,0(x6); the condition is `1:x5=1 /\ 1:x7=0`
abbrev pub corr : Box (Unit {0}) Global → Box (Unit {0}) Global → Test
corr p q = record {
  name = codes "CoRR";
  codes = (Immediate Ori 5 0 (pos 1) ∷ Sw plain 5 6 (pos 0) ∷ []) ∷ (Lw plain 5 6 (pos 0) ∷ Lw plain 7 6 (pos 0) ∷ []) ∷ [];
  starts = registers ∷ registers ∷ [];
  locations = record { name = codes "x"; word = 0 } ∷ [];
  quantifier = Exists;
  condition = outcome.Both' p (outcome.RegisterIs 1 5 1) q (outcome.RegisterIs 1 7 0);
}

abbrev pub store : List Step
store =
    record { at = 0; instr = Immediate Ori 5 0 (pos 1); address = None; loaded = None; stored = None }
    ∷ record { at = 1; instr = Sw plain 5 6 (pos 0); address = Some 4096; loaded = None; stored = Some 1 }
    ∷ []

abbrev pub loads : List Step
loads =
    record { at = 0; instr = Lw plain 5 6 (pos 0); address = Some 4096; loaded = Some 1; stored = None }
    ∷ record { at = 1; instr = Lw plain 7 6 (pos 0); address = Some 4096; loaded = Some 0; stored = None }
    ∷ []

-- The store is operation 0, the loads are 1 and 2, and the initial store is 3. The first load returns the store's word
-- and the second one the initial word.
abbrev pub stale : Candidate
stale = record {
  traces = store ∷ loads ∷ [];
  source = None ∷ Some 0 ∷ Some 3 ∷ None ∷ [];
  store_order = (3 ∷ 0 ∷ []) ∷ [];
}

-- the store before the first load, that load before the second, and the second before the store
abbrev pub circle : List Link
circle =
    record { operation = named 0 1; cause = ReadsFrom }
    ∷ record { operation = named 1 0; cause = Preserved Rule2 }
    ∷ record { operation = named 1 1; cause = FromReads }
    ∷ []

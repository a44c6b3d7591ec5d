-- A hart that waits for a flag to be lowered, one that lowers it, and an execution in which the first goes back once.
use Rattle.std.specs.Prelude.{ℕ, None, Some, List, [], ◌∷◌, pos, codes}
use Rattle.fs_instr.specs.Names.{plain}
use Rattle.fs_instr.specs.declared.names.BranchOp.TheVariants.{Bne}
use Rattle.fs_instr.specs.declared.instr.Instr.TheVariants.{Lw, Sw, Branch}
use Rattle.fs_model.specs.declared.outcome.Outcome.TheVariants as outcome
use Rattle.fs_model.specs.declared.test.Test.{Test}
use Rattle.fs_model.specs.declared.test.Quantifier.TheVariants.{Exists}
use Rattle.fs_model.specs.declared.step.Step.{Step}
use Rattle.fs_model.specs.Execution.{Execution}
use Rattle.fs_app_plain.specs.Waiting.{waits_for_a_flag}

-- x6 has the flag's address, x8 that of another location
abbrev pub registers : List ℕ
registers =
    0 ∷ 0 ∷ 0 ∷ 0 ∷ 0 ∷ 0 ∷ 4096 ∷ 0 ∷ 4112 ∷ 0 ∷ 0 ∷ 0 ∷ 0 ∷ 0 ∷ 0 ∷ 0
    ∷ 0 ∷ 0 ∷ 0 ∷ 0 ∷ 0 ∷ 0 ∷ 0 ∷ 0 ∷ 0 ∷ 0 ∷ 0 ∷ 0 ∷ 0 ∷ 0 ∷ 0 ∷ 0 ∷ []

-- the flag is up at first; hart 1 is sw x0,0(x6)
abbrev pub waiting : Test
waiting = record {
  name = codes "waiting";
  codes = waits_for_a_flag ∷ (Sw plain 0 6 (pos 0) ∷ []) ∷ [];
  starts = registers ∷ registers ∷ [];
  locations = record { name = codes "flag"; word = 1 } ∷ record { name = codes "x"; word = 0 } ∷ [];
  quantifier = Exists;
  condition = outcome.RegisterIs 0 7 0;
}

abbrev pub waiter : List Step
waiter =
    record { at = 0; instr = Lw plain 5 6 (pos 0); address = Some 4096; loaded = Some 1; stored = None }
    ∷ record { at = 1; instr = Branch Bne 5 0 0; address = None; loaded = None; stored = None }
    ∷ record { at = 0; instr = Lw plain 5 6 (pos 0); address = Some 4096; loaded = Some 0; stored = None }
    ∷ record { at = 1; instr = Branch Bne 5 0 0; address = None; loaded = None; stored = None }
    ∷ record { at = 2; instr = Lw plain 7 8 (pos 0); address = Some 4112; loaded = Some 0; stored = None }
    ∷ []

abbrev pub lowerer : List Step
lowerer = record { at = 0; instr = Sw plain 0 6 (pos 0); address = Some 4096; loaded = None; stored = Some 0 } ∷ []

-- the store comes between the two loads of the flag
abbrev pub waited_once : Execution
waited_once = record { traces = waiter ∷ lowerer ∷ []; order = 0 ∷ 3 ∷ 1 ∷ 2 ∷ [] }

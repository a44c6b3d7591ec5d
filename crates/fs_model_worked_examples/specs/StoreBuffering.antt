-- Store buffering: two harts, each of which stores 1 to its own location and then loads the other's.
use Rattle.std.specs.Prelude.{ℕ, Option, None, Some, List, [], ◌∷◌, pos, codes}
use Rattle.std.proofs.Common.{Box}
use Rattle.std.specs.declared.alloc.Global.{Global}
use Rattle.fs_kinds.specs.declared.kind.Kind.{Kind}
use Rattle.fs_kinds.specs.declared.placement.Entry.{Entry}
use Rattle.fs_instr.specs.Names.{plain}
use Rattle.fs_instr.specs.declared.names.ImmOp.TheVariants.{Ori}
use Rattle.fs_instr.specs.declared.instr.Instr.{Instr}
use Rattle.fs_instr.specs.declared.instr.Instr.TheVariants.{Immediate, Lw, Sw}
use Rattle.fs_model.specs.declared.outcome.Outcome.TheVariants as outcome
use Rattle.fs_model.specs.declared.test.Test.{Test}
use Rattle.fs_model.specs.declared.test.Quantifier.TheVariants.{Exists}
use Rattle.fs_model.specs.declared.step.Step.{Step}
use Rattle.fs_model.specs.Execution.{Execution}

-- ori x5,x0,1 / sw x5,0(x6) / lw x7,0(x8)
abbrev pub code : List Instr
code = Immediate Ori 5 0 (pos 1) ∷ Sw plain 5 6 (pos 0) ∷ Lw plain 7 8 (pos 0) ∷ []

-- x6 and x8 at first, and the other registers at 0
abbrev pub registers : ℕ → ℕ → List ℕ
registers own other =
    0 ∷ 0 ∷ 0 ∷ 0 ∷ 0 ∷ 0 ∷ own ∷ 0 ∷ other ∷ 0 ∷ 0 ∷ 0 ∷ 0 ∷ 0 ∷ 0 ∷ 0
    ∷ 0 ∷ 0 ∷ 0 ∷ 0 ∷ 0 ∷ 0 ∷ 0 ∷ 0 ∷ 0 ∷ 0 ∷ 0 ∷ 0 ∷ 0 ∷ 0 ∷ 0 ∷ 0 ∷ []

-- both loads return 0; the condition is `0:x7=0 /\ 1:x7=0`, wherever its parts lie in memory
abbrev pub sb : Box (Unit {0}) Global → Box (Unit {0}) Global → Test
sb p q = record {
  name = codes "SB";
  codes = code ∷ code ∷ [];
  starts = registers 4096 4112 ∷ registers 4112 4096 ∷ [];
  locations = record { name = codes "x"; word = 0 } ∷ record { name = codes "y"; word = 0 } ∷ [];
  quantifier = Exists;
  condition = outcome.Both' p (outcome.RegisterIs 0 7 0) q (outcome.RegisterIs 1 7 0);
}

abbrev pub steps : ℕ → ℕ → List Step
steps own other =
    record { at = 0; instr = Immediate Ori 5 0 (pos 1); address = None; loaded = None; stored = None }
    ∷ record { at = 1; instr = Sw plain 5 6 (pos 0); address = Some own; loaded = None; stored = Some 1 }
    ∷ record { at = 2; instr = Lw plain 7 8 (pos 0); address = Some other; loaded = Some 0; stored = None }
    ∷ []

-- the loads come before the stores in the order
abbrev pub buffered : Execution
buffered = record { traces = steps 4096 4112 ∷ steps 4112 4096 ∷ []; order = 1 ∷ 3 ∷ 0 ∷ 2 ∷ [] }

-- a fence, or none, before the load of each hart
abbrev pub fences : Option Kind → Option Kind → List Entry
fences first second =
    record { slot = record { hart = 0; at = 2 }; kind = first } ∷ record { slot = record { hart = 1; at = 2 }; kind = second } ∷ []

-- Two harts that each add 1 to a location.
use Rattle.std.specs.Prelude.{List, [], ◌∷◌, false, pos, codes}
use Rattle.fs_instr.specs.declared.names.Ann.{Ann}
use Rattle.fs_instr.specs.declared.names.AmoOp.TheVariants.{Add}
use Rattle.fs_instr.specs.declared.names.ImmOp.TheVariants.{Ori}
use Rattle.fs_instr.specs.declared.instr.Instr.{Instr}
use Rattle.fs_instr.specs.declared.instr.Instr.TheVariants.{Immediate, Amo}
use Rattle.fs_model.specs.declared.outcome.Outcome.TheVariants as outcome
use Rattle.fs_model.specs.declared.test.Test.{Test}
use Rattle.fs_model.specs.declared.test.Quantifier.TheVariants.{Exists}
use Rattle.fs_model_worked_examples.specs.CoherentReads.{registers}

abbrev pub relaxed : Ann
relaxed = record { acquire = false; release = false }

-- ori x5,x0,1 / amoadd.w x7,x5,(x6)
abbrev pub adding : List Instr
adding = Immediate Ori 5 0 (pos 1) ∷ Amo Add relaxed 7 5 6 ∷ []

-- the condition is `x=1`
abbrev pub two_adds : Test
two_adds = record {
  name = codes "ADD2";
  codes = adding ∷ adding ∷ [];
  starts = registers ∷ registers ∷ [];
  locations = record { name = codes "x"; word = 0 } ∷ [];
  quantifier = Exists;
  condition = outcome.LocationIs 0 1;
}

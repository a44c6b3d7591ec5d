-- Message passing: hart 0 stores 1 to x and then to y, and hart 1 loads y and then x. Shown would be 1 and then 0; or 1
-- twice, which is allowed with any fences.
use Rattle.std.specs.Prelude.{ℕ, Option, None, Some, List, [], ◌∷◌, pos, codes}
use Rattle.std.proofs.Common.{Box}
use Rattle.std.specs.declared.alloc.Global.{Global}
use Rattle.fs_kinds.specs.declared.kind.Kind.{Kind}
use Rattle.fs_kinds.specs.declared.placement.Entry.{Entry}
use Rattle.fs_instr.specs.Names.{plain}
use Rattle.fs_instr.specs.declared.names.ImmOp.TheVariants.{Ori}
use Rattle.fs_instr.specs.declared.instr.Instr.TheVariants.{Immediate, Lw, Sw}
use Rattle.fs_model.specs.declared.outcome.Outcome.TheVariants as outcome
use Rattle.fs_model.specs.declared.test.Test.{Test}
use Rattle.fs_model.specs.declared.test.Quantifier.TheVariants.{Exists}
use Rattle.fs_model.specs.Slots.{slot_at}
use Rattle.fs_model.specs.declared.step.Choice.TheVariants.{Word}
use Rattle.fs_model.specs.declared.step.Step.{Step}
use Rattle.fs_model.specs.Execution.{Execution}
use Rattle.fs_model.specs.Witness.{Witness}
use Rattle.fs_cert_evidence.specs.Candidates.{Candidate}
use Rattle.fs_board_offers.specs.Offers.{Offers, offers_for}
use Rattle.fs_board_offers.specs.Parts.{Part}
use Rattle.fs_model_worked_examples.specs.StoreBuffering.{registers}
use Rattle.fs_model_worked_examples.specs.Rows.{named, prices}

-- ori x5,x0,1 / sw x5,0(x6) / ori x7,x0,1 / sw x7,0(x8) and lw x5,0(x6) / lw x7,0(x8); the condition is `1:x5=1 /\
-- 1:x7=word`
abbrev pub passing : (word : ℕ) → Box (Unit {0}) Global → Box (Unit {0}) Global → Test
passing word p q = record {
  name = codes "MP";
  codes =
      (Immediate Ori 5 0 (pos 1) ∷ Sw plain 5 6 (pos 0) ∷ Immediate Ori 7 0 (pos 1) ∷ Sw plain 7 8 (pos 0) ∷ [])
      ∷ (Lw plain 5 6 (pos 0) ∷ Lw plain 7 8 (pos 0) ∷ [])
      ∷ [];
  starts = registers 4096 4112 ∷ registers 4112 4096 ∷ [];
  locations = record { name = codes "x"; word = 0 } ∷ record { name = codes "y"; word = 0 } ∷ [];
  quantifier = Exists;
  condition = outcome.Both' p (outcome.RegisterIs 1 5 1) q (outcome.RegisterIs 1 7 word);
}

-- the load of x returns 0, though that of y returns 1; or both return 1
abbrev pub mp : Box (Unit {0}) Global → Box (Unit {0}) Global → Test
mp = passing 0

abbrev pub mp11 : Box (Unit {0}) Global → Box (Unit {0}) Global → Test
mp11 = passing 1

abbrev pub two_stores : List Step
two_stores =
    record { at = 0; instr = Immediate Ori 5 0 (pos 1); address = None; loaded = None; stored = None }
    ∷ record { at = 1; instr = Sw plain 5 6 (pos 0); address = Some 4096; loaded = None; stored = Some 1 }
    ∷ record { at = 2; instr = Immediate Ori 7 0 (pos 1); address = None; loaded = None; stored = None }
    ∷ record { at = 3; instr = Sw plain 7 8 (pos 0); address = Some 4112; loaded = None; stored = Some 1 }
    ∷ []

-- the loads return these words
abbrev pub two_loads : ℕ → ℕ → List Step
two_loads flag word =
    record { at = 0; instr = Lw plain 5 6 (pos 0); address = Some 4112; loaded = Some flag; stored = None }
    ∷ record { at = 1; instr = Lw plain 7 8 (pos 0); address = Some 4096; loaded = Some word; stored = None }
    ∷ []

-- the stores are operations 0 and 1, and the loads 2 and 3; all of them in program order, hart 0 first
abbrev pub passed : Execution
passed = record { traces = two_stores ∷ two_loads 1 1 ∷ []; order = 0 ∷ 1 ∷ 2 ∷ 3 ∷ [] }

-- the same as a witness
abbrev pub passes : Witness
passes = record {
  choices = [] ∷ (Word 1 ∷ Word 1 ∷ []) ∷ [];
  order = named 0 1 ∷ named 0 3 ∷ named 1 0 ∷ named 1 1 ∷ [];
}

-- what the prices offer between the two stores and between the two loads
abbrev pub passing_offers : Offers
passing_offers = offers_for prices (slot_at 0 3 ∷ slot_at 1 1 ∷ [])

-- a fence, or none, there
abbrev pub passing_fences : Option Kind → Option Kind → List Entry
passing_fences first second = record { slot = slot_at 0 3; kind = first } ∷ record { slot = slot_at 1 1; kind = second } ∷ []

-- what is decided
abbrev pub passing_part : (first second : Option (Option Kind)) → Part
passing_part first second = record { slot = slot_at 0 3; decided = first } ∷ record { slot = slot_at 1 1; decided = second } ∷ []

-- The load of y returns the store to y, and that of x the initial word. The initial stores are 4 and 5, and come first.
abbrev pub overtaken : Candidate
overtaken = record {
  traces = two_stores ∷ two_loads 1 0 ∷ [];
  source = None ∷ None ∷ Some 1 ∷ Some 4 ∷ None ∷ None ∷ [];
  store_order = (4 ∷ 0 ∷ []) ∷ (5 ∷ 1 ∷ []) ∷ [];
}

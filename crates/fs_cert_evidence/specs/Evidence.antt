-- What shows that a placement allows the outcome, and what shows that it forbids it, as contracts see them.
use Rattle.std.specs.Prelude.{◌≡◌, Bool, List, [], map}
use Rattle.std.specs.declared.sync.Arc.{Arc}
use Rattle.fs_kinds.specs.declared.placement.Entry.{Entry}
use Rattle.fs_kinds.specs.declared.slot.Slot.{Slot}
use Rattle.fs_kinds.specs.Kind.{Pair, ReadRead, ReadWrite, WriteRead, WriteWrite}
use Rattle.fs_model.specs.declared.test.Test.{Test}
use Rattle.fs_model.specs.Slots.{slots}
use Rattle.fs_model.specs.Execution.{Execution}
use Rattle.fs_model.specs.Preserved.{Rule1, Rule2, Rule3, Rule4, Rule5, Rule6, Rule7, Rule8, Rule9, Rule10, Rule11, Rule12, Rule13}
use Rattle.fs_model.specs.Witness.{Witness}
use Rattle.fs_cert_evidence.specs.CandidateFaults.{HasNoCyclesFault}
use Rattle.fs_cert_evidence.specs.Certificate.{Cycles}
use Rattle.fs_cert_evidence.specs.Judged.{Cause, Preserved, ReadsFrom, Coherence, FromReads}
use Rattle.fs_cert_evidence.specs.Shown.{ShowsAs}
use Rattle.fs_cert_evidence.specs.Valid.{Forbid}
use Rattle.fs_cert_evidence.specs.Widths.{Width, width}
use Rattle.fs_cert_evidence.specs.declared.evidence.Pairs.{Pairs}
use Rattle.fs_cert_evidence.specs.declared.evidence.Cause.{Cause as CodeCause}
use Rattle.fs_cert_evidence.specs.declared.evidence.Cause.TheVariants as cause

-- a witness, with a set of pairs for each slot of the test, in slot order
pub record Shown : Type 0 where
  pub witness : Witness
  pub widths : List Pairs

-- a placement, with a cycle for each showing candidate, or with a refutation
pub record Refuted : Type 0 where
  pub placement : List Entry
  pub cycles : Cycles

-- the set of pairs, as a test of pairs
abbrev pub keeps : Pairs → Pair → Bool
keeps pairs ReadRead = pairs.read_read
keeps pairs ReadWrite = pairs.read_write
keeps pairs WriteRead = pairs.write_read
keeps pairs WriteWrite = pairs.write_write

-- the pairs that a width keeps at a slot
abbrev pub pairs_at : Width → Slot → Pairs
pairs_at w slot = record {
  read_read = w slot ReadRead;
  read_write = w slot ReadWrite;
  write_read = w slot WriteRead;
  write_write = w slot WriteWrite;
}

abbrev pub widths_of : Width → List Slot → List Pairs
widths_of w = map (pairs_at w)

-- The witness gives this execution and no other, which shows the outcome without placed fences, and the widths are its
-- widths.
pub record IsWitnessFor (t : Test) (shown : Shown) (e : Execution) : Type 0 where
  pub shows : ShowsAs t [] shown.witness e
  pub only : (other : Execution) → ShowsAs t [] shown.witness other → other ≡ e
  pub widths : shown.widths ≡ widths_of (width t e) (slots t)

-- The same with the widths at any slots, as those of a placement; at the slots of the test it is IsWitnessFor.
pub record IsWitnessAt (t : Test) (ss : List Slot) (shown : Shown) (e : Execution) : Type 0 where
  pub shows : ShowsAs t [] shown.witness e
  pub only : (other : Execution) → ShowsAs t [] shown.witness other → other ≡ e
  pub widths : shown.widths ≡ widths_of (width t e) ss

-- what comes with the placement shows that it forbids the outcome, and no fault is in the way of judging that
pub record ShowsForbidden (t : Test) (f : Refuted) : Type 0 where
  pub forbid : Forbid t f.placement f.cycles
  pub judged : HasNoCyclesFault f.cycles t

-- what is behind an `Arc`
module _ {A : Type 0} where
  abbrev pub witness_in : Arc Shown A → Witness
  witness_in w = w.value.witness

  abbrev pub placement_in : Arc Refuted A → List Entry
  placement_in f = f.value.placement

abbrev pub cause_of : CodeCause → Cause
cause_of cause.Rule1 = Preserved Rule1
cause_of cause.Rule2 = Preserved Rule2
cause_of cause.Rule3 = Preserved Rule3
cause_of cause.Rule4 = Preserved Rule4
cause_of cause.Rule5 = Preserved Rule5
cause_of cause.Rule6 = Preserved Rule6
cause_of cause.Rule7 = Preserved Rule7
cause_of cause.Rule8 = Preserved Rule8
cause_of cause.Rule9 = Preserved Rule9
cause_of cause.Rule10 = Preserved Rule10
cause_of cause.Rule11 = Preserved Rule11
cause_of cause.Rule12 = Preserved Rule12
cause_of cause.Rule13 = Preserved Rule13
cause_of cause.ReadsFrom = ReadsFrom
cause_of cause.Coherence = Coherence
cause_of cause.FromReads = FromReads

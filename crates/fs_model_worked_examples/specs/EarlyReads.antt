-- Store buffering with nothing decided yet, and two executions of it that show the outcome: in each one hart reads
-- early.
use Rattle.std.specs.Prelude.{◌≡◌, true, ◌||◌, not, None, [], ◌∷◌}
use Rattle.fs_kinds.specs.declared.slot.Slot.{Slot}
use Rattle.fs_kinds.specs.Kind.{Pair, tso_pairs}
use Rattle.fs_kinds.specs.Slot.{is_same_slot}
use Rattle.fs_model.specs.declared.test.Test.{Test}
use Rattle.fs_model.specs.Slots.{slot_at}
use Rattle.fs_model.specs.Execution.{Execution}
use Rattle.fs_cert_evidence.specs.Widths.{Width, width}
use Rattle.fs_board_offers.specs.Parts.{Part}
use Rattle.fs_model_worked_examples.specs.StoreBuffering.{buffered}
use Rattle.fs_model_worked_examples.specs.Rows.{part}

-- before the load of each hart
abbrev pub first_slot : Slot
first_slot = slot_at 0 2

abbrev pub second_slot : Slot
second_slot = slot_at 1 2

-- neither is decided
abbrev pub root : Part
root = part None None

-- at this slot all pairs are kept but a write before a read, and at each other slot all
abbrev pub reads_early : Slot → Width
reads_early slot s pair = not (is_same_slot slot s) || tso_pairs pair

abbrev pub keeps_all : Width
keeps_all s pair = true

-- hart 0, or hart 1, loads before it stores
abbrev pub first_early : Execution
first_early = record { traces = buffered.traces; order = 1 ∷ 2 ∷ 3 ∷ 0 ∷ [] }

abbrev pub second_early : Execution
second_early = record { traces = buffered.traces; order = 3 ∷ 0 ∷ 1 ∷ 2 ∷ [] }

-- the execution keeps these pairs at the two slots
pub record KeepsAt (t : Test) (e : Execution) (w : Width) : Type 0 where
  pub first : (pair : Pair) → width t e first_slot pair ≡ w first_slot pair
  pub second : (pair : Pair) → width t e second_slot pair ≡ w second_slot pair

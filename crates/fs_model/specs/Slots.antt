-- The slots of a test: where a fence may be put.
use Rattle.std.specs.Prelude.{List}
use Rattle.fs_kinds.specs.declared.slot.Slot.{Slot}
use Rattle.fs_model.specs.declared.test.Test.{Test}
pub use Rattle.fs_model.specs.Answers.{is_memory_at, is_slot, slot_at, slots_in}
use Rattle.fs_model.specs.Answers as answers
use Rattle.fs_model.specs.OfTests.{program_of}

abbrev pub slots : Test → List Slot
slots t = answers.slots (program_of t)

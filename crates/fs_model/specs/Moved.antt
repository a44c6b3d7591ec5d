-- Where the instructions, the labels and the slots of a test stand once it is fenced.
use Rattle.std.specs.Prelude.{◌≡◌, ℕ, ◌+◌, ◌<◌, List, ◌++◌, length, filter, map, Some, None, slice_get, if◌then◌else◌, codes}
use Rattle.std.specs.List.{range_with_len}
use Rattle.fs_instr.specs.Instructions.{target_of, targeted}
use Rattle.fs_instr.specs.Writing.{instr_text}
use Rattle.fs_instr.specs.declared.instr.Instr.{Instr}
use Rattle.fs_kinds.specs.Kind.{word}
use Rattle.fs_kinds.specs.declared.kind.Kind.{Kind}
use Rattle.fs_kinds.specs.declared.kind.Kind.TheVariants.{Tso}
use Rattle.fs_kinds.specs.declared.placement.Entry.{Entry}
use Rattle.fs_kinds.specs.declared.slot.Slot.{Slot}
use Rattle.fs_kinds.specs.Placement.{kind_at}
use Rattle.fs_model.specs.Slots.{slot_at, slots}
use Rattle.fs_model.specs.Fenced.{is_filled, position}
use Rattle.fs_model.specs.declared.test.Test.{Test}

-- the number of instruction `at` of the hart in the fenced code: each fence before it or before an earlier instruction
-- moves it by one
abbrev pub place : List Entry → (hart at : ℕ) → ℕ
place p hart at = at + length (filter (is_filled p hart) (range_with_len 0 (at + 1)))

-- the instruction as it stands in the fenced code: a branch goes to the position of its label, and nothing else changes
pub record IsMoved (p : List Entry) (hart : ℕ) (i out : Instr) : Type 0 where
  pub branch : (target : ℕ) → target_of i ≡ Some target → out ≡ targeted (position p hart target) i
  pub other : target_of i ≡ None → out ≡ i

-- how the FENCE of a kind is written
abbrev pub fence_line : Kind → List ℕ
fence_line Tso = codes "fence.tso"
fence_line kind = codes "fence " ++ word kind

-- The fenced code of a hart has each instruction at its place; at the position of a filled slot it has the fence, right
-- before the slot's instruction; and it has nothing else.
pub record IsFencedCode (p : List Entry) (hart : ℕ) (code out : List Instr) : Type 0 where
  pub instructions : (at : ℕ) (i : Instr) → slice_get code at ≡ Some i → (j : Instr) × (slice_get out (place p hart at) ≡ Some j) × IsMoved p hart i j
  pub fences : (at : ℕ) (kind : Kind) → at < length code → kind_at (slot_at hart at) p ≡ Some kind → (f : Instr) × (slice_get out (position p hart at) ≡ Some f) × (instr_text f ≡ fence_line kind)
  pub steps : (at : ℕ) → place p hart at ≡ position p hart at + (if is_filled p hart at then 1 else 0)
  pub whole : length out ≡ position p hart (length code)

-- the slot of the same instruction in the fenced test
abbrev pub moved_slot : List Entry → Slot → Slot
moved_slot p s = slot_at s.hart (place p s.hart s.at)

-- The fenced test: the test with the fenced code of each hart. Its slots are those of the test, moved with their
-- instructions.
pub record IsMovedTest (t : Test) (p : List Entry) (u : Test) : Type 0 where
  pub harts : length u.codes ≡ length t.codes
  pub codes : (hart : ℕ) (code : List Instr) → slice_get t.codes hart ≡ Some code → (out : List Instr) × (slice_get u.codes hart ≡ Some out) × IsFencedCode p hart code out
  pub others : u ≡ record t { codes = u.codes }
  pub slots : slots u ≡ map (moved_slot p) (slots t)

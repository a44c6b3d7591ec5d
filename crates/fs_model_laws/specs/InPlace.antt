-- A test whose FENCEs order no memory, and the FENCEs as a placement, each in its own place.
use Rattle.std.specs.Prelude.{◌≡◌, ◌&&◌, ℕ, Bool, true, false, is_some, Option, None, Some, option_and_then, List, [], map, filter, length, slice_get, if◌then◌else◌}
use Rattle.std.specs.List.{enumerate_from, flat_map, range_with_len, slice_index_or}
use Rattle.fs_instr.specs.declared.instr.Instr.{Instr}
use Rattle.fs_instr.specs.declared.instr.Instr.TheVariants.{Fence, FenceTso}
use Rattle.fs_instr.specs.declared.letters.Letters.{Letters}
use Rattle.fs_kinds.specs.declared.kind.Kind.{Kind}
use Rattle.fs_kinds.specs.declared.kind.Kind.TheVariants.{RR, RW, RRw, WR, WW, WRw, RwR, RwW, RwRw, Tso}
use Rattle.fs_kinds.specs.declared.placement.Entry.{Entry}
use Rattle.fs_kinds.specs.declared.slot.Slot.{Slot}
use Rattle.fs_kinds.specs.Placement.{kind_at}
use Rattle.fs_model.specs.declared.test.Test.{Test}
use Rattle.fs_model.specs.Fenced.{fence_of}
use Rattle.fs_model.specs.Slots.{slot_at}
use Rattle.fs_model_laws.specs.Strength.{KeepsNoMore}

-- ---- what a FENCE orders of memory

-- the kind with these reads and writes before it, and these behind it
abbrev pub kind_of_sides : Bool → Bool → Bool → Bool → Option Kind
kind_of_sides true false true false = Some RR
kind_of_sides true false false true = Some RW
kind_of_sides true false true true = Some RRw
kind_of_sides false true true false = Some WR
kind_of_sides false true false true = Some WW
kind_of_sides false true true true = Some WRw
kind_of_sides true true true false = Some RwR
kind_of_sides true true false true = Some RwW
kind_of_sides true true true true = Some RwRw
kind_of_sides _ _ _ _ = None

-- the kind of a FENCE by its letters r and w; none where it orders no memory, or is no FENCE
abbrev pub memory_kind : Instr → Option Kind
memory_kind (Fence before after) = kind_of_sides before.reads before.writes after.reads after.writes
memory_kind FenceTso = Some Tso
memory_kind _ = None

-- a FENCE that orders memory
abbrev pub is_fence : Instr → Bool
is_fence i = is_some (memory_kind i)

-- ---- the test in which FENCEs order no memory

abbrev pub devices : Letters
devices = record { input = true; output = true; reads = false; writes = false }

-- in place of each FENCE that orders memory stands `fence io,io`, so all instructions keep their numbers
abbrev pub emptied_instr : Instr → Instr
emptied_instr i = if is_fence i then Fence devices devices else i

abbrev pub emptied_code : List Instr → List Instr
emptied_code code = map emptied_instr code

abbrev pub emptied : Test → Test
emptied t = record t { codes = map emptied_code t.codes }

-- ---- the places of the FENCEs that order memory, wherever they stand

-- the kind of the FENCE there
abbrev pub kind_there : List Instr → ℕ → Option Kind
kind_there code at = option_and_then memory_kind (slice_get code at)

abbrev pub is_place : List Instr → ℕ → Bool
is_place code at = is_some (kind_there code at)

abbrev pub places_in : (hart : ℕ) → List Instr → List Slot
places_in hart code = map (slot_at hart) (filter (is_place code) (range_with_len 0 (length code)))

-- by hart, then by instruction
abbrev pub places : List (List Instr) → List Slot
places codes = flat_map (λ numbered. places_in numbered.0 numbered.1) (enumerate_from 0 codes)

abbrev pub written_at : List (List Instr) → Slot → Option Kind
written_at codes s = kind_there (slice_index_or codes s.hart []) s.at

-- the FENCEs as they are written, each in its place
abbrev pub as_written : Test → List Entry
as_written t = map (λ s. record { slot = s; kind = written_at t.codes s }) (places t.codes)

-- ---- a test with other FENCEs in these places

-- u is t but for its FENCEs, and these order in each place all that those of p order there
pub record IsFollowed (t : Test) (p : List Entry) (u : Test) : Type 0 where
  pub rest : emptied u ≡ emptied t
  pub orders : KeepsNoMore p (as_written u)

-- ---- lines that are followed

-- the FENCE of this kind, or for none one that orders no memory
abbrev pub fence_for : Option Kind → Instr
fence_for None = Fence devices devices
fence_for (Some kind) = fence_of kind

-- the instruction where the lines that pass are followed: in these places stand the fences of the placement
abbrev pub followed_instr : (lines : Slot → Bool) → List Entry → (hart : ℕ) → ℕ × Instr → Instr
followed_instr lines p hart numbered =
    if is_fence numbered.1 && lines (slot_at hart numbered.0) then fence_for (kind_at (slot_at hart numbered.0) p) else numbered.1

abbrev pub followed_code : (lines : Slot → Bool) → List Entry → ℕ × List Instr → List Instr
followed_code lines p numbered = map (followed_instr lines p numbered.0) (enumerate_from 0 numbered.1)

-- all else stays
abbrev pub followed : (lines : Slot → Bool) → Test → List Entry → Test
followed lines t p = record t { codes = map (followed_code lines p) (enumerate_from 0 t.codes) }

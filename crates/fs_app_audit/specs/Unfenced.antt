-- The test without its FENCE instructions, but for those that name devices; and the test in which these order no
-- memory.
use Rattle.std.specs.Prelude.{ℕ, Bool, not, ◌&&◌, ◌||◌, List, map, filter, count_by, take, if◌then◌else◌}
use Rattle.fs_instr.specs.declared.instr.Instr.{Instr}
use Rattle.fs_instr.specs.declared.instr.Instr.TheVariants.{Branch, Jump, Fence}
use Rattle.fs_model.specs.declared.test.Test.{Test}
pub use Rattle.fs_app_file_text.specs.Fences.{names_devices}
pub use Rattle.fs_model_laws.specs.InPlace.{kind_of_sides, memory_kind, is_fence, devices}

-- ---- the test without those that order memory and name no devices

-- a FENCE that names devices is kept as it is, since what it orders of these isn't known here
abbrev pub is_kept : Instr → Bool
is_kept i = not (is_fence i) || names_devices i

-- where a label of instruction `at` stands in the unfenced code: after what is kept of the instructions before it
abbrev pub position : List Instr → ℕ → ℕ
position code at = count_by is_kept (take at code)

-- the instruction, going to where its label stands
abbrev pub moved : List Instr → Instr → Instr
moved code (Branch op first second target) = Branch op first second (position code target)
moved code (Jump target) = Jump (position code target)
moved code other = other

abbrev pub unfenced_code : List Instr → List Instr
unfenced_code code = map (moved code) (filter is_kept code)

-- all else stays
abbrev pub unfenced : Test → Test
unfenced t = record t { codes = map unfenced_code t.codes }

-- ---- the test in which what names devices orders no memory

-- in place of a FENCE that orders memory and names devices stands `fence io,io`
abbrev pub eased_instr : Instr → Instr
eased_instr i = if is_fence i && names_devices i then Fence devices devices else i

abbrev pub eased_code : List Instr → List Instr
eased_code code = map eased_instr code

abbrev pub eased : Test → Test
eased t = record t { codes = map eased_code t.codes }

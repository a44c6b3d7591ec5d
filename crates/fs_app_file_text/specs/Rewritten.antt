-- The test in whose text FENCEs are those of a placement, each in its own place.
use Rattle.std.specs.Prelude.{ℕ, Bool, true, false, not, ◌&&◌, ◌||◌, Option, None, Some, List, map, filter, count_by, take, if◌then◌else◌}
use Rattle.std.specs.List.{enumerate_from}
use Rattle.fs_instr.specs.declared.instr.Instr.{Instr}
use Rattle.fs_instr.specs.declared.instr.Instr.TheVariants.{Branch, Jump, Fence}
use Rattle.fs_instr.specs.declared.letters.Letters.{Letters}
use Rattle.fs_kinds.specs.declared.kind.Kind.{Kind}
use Rattle.fs_kinds.specs.declared.placement.Entry.{Entry}
use Rattle.fs_kinds.specs.Placement.{kind_at}
use Rattle.fs_model.specs.declared.test.Test.{Test}
use Rattle.fs_model.specs.Fenced.{fence_of}
use Rattle.fs_model.specs.Slots.{slot_at}
use Rattle.fs_model_laws.specs.InPlace.{is_fence}
use Rattle.fs_app_file_text.specs.Fences.{names_devices}

-- ---- which FENCEs go

-- a FENCE without letters, which no test has, stands for one that goes
abbrev pub no_letters : Letters
no_letters = record { input = false; output = false; reads = false; writes = false }

abbrev pub gone : Instr
gone = Fence no_letters no_letters

abbrev pub has_letters : Letters → Bool
has_letters l = (l.input || l.output) || (l.reads || l.writes)

-- it doesn't stand for one that goes
abbrev pub is_left : Instr → Bool
is_left (Fence before after) = has_letters before || has_letters after
is_left _ = true

abbrev pub fence_or_gone : Option Kind → Instr
fence_or_gone None = gone
fence_or_gone (Some kind) = fence_of kind

-- a FENCE that names devices stays as it is
abbrev pub is_ours : Instr → Bool
is_ours i = is_fence i && not (names_devices i)

-- the fence of the placement in the place of a FENCE
abbrev pub marked_instr : List Entry → (hart : ℕ) → ℕ × Instr → Instr
marked_instr p hart numbered =
    if is_ours numbered.1 then fence_or_gone (kind_at (slot_at hart numbered.0) p) else numbered.1

abbrev pub marked_code : List Entry → ℕ × List Instr → List Instr
marked_code p numbered = map (marked_instr p numbered.0) (enumerate_from 0 numbered.1)

-- ---- what is left

-- where a label of instruction `at` stands: after what is left of the instructions before it
abbrev pub position : List Instr → ℕ → ℕ
position code at = count_by is_left (take at code)

-- the instruction, going to where its label stands
abbrev pub moved : List Instr → Instr → Instr
moved code (Branch op first second target) = Branch op first second (position code target)
moved code (Jump target) = Jump (position code target)
moved code other = other

abbrev pub left : List Instr → List Instr
left code = map (moved code) (filter is_left code)

-- ---- the test

abbrev pub rewritten_code : List Entry → ℕ × List Instr → List Instr
rewritten_code p numbered = left (marked_code p numbered)

-- in the place of each FENCE that orders memory and names no devices stands the fence of the placement, or nothing; all
-- else stays, and labels stay before what stood behind them
abbrev pub rewritten : List Entry → Test → Test
rewritten p t = record t { codes = map (rewritten_code p) (enumerate_from 0 t.codes) }

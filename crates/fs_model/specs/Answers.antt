-- 8. The fenced program, and what the answers of `solve` mean. t is the program of a test, o the outcome that it asks
-- for.
use Rattle.std.specs.Prelude.{◌≡◌, ℕ, ◌+◌, Bool, true, false, ◌&&◌, Option, None, Some, is_some, option_map, unwrap_or, List, [], ◌∷◌, ◌++◌, map, filter, take, length, slice_get}
use Rattle.std.specs.List.{enumerate_from, flat_map, list_any, range_with_len}
use Rattle.fs_instr.specs.declared.instr.Instr.{Instr}
use Rattle.fs_instr.specs.declared.instr.Instr.TheVariants.{Branch, Jump, Fence, FenceTso}
use Rattle.fs_instr.specs.declared.letters.Letters.{Letters}
use Rattle.fs_instr.specs.Roles.{is_memory}
use Rattle.fs_kinds.specs.declared.kind.Kind.{Kind}
use Rattle.fs_kinds.specs.declared.kind.Kind.TheVariants.{RR, RW, RRw, WR, WW, WRw, RwR, RwW, RwRw, Tso}
use Rattle.fs_kinds.specs.declared.slot.Slot.{Slot}
use Rattle.fs_kinds.specs.declared.placement.Entry.{Entry}
use Rattle.fs_kinds.specs.Placements.{PriceTable, slots_of, kind_at, are_offered, is_better}
use Rattle.fs_model.specs.Runs.{Program}
use Rattle.fs_model.specs.Executions.{Outcome, Allows}

-- ---- slots: before each memory instruction of a hart but its first

-- instruction number `at` of the code, counted from 0, is a memory instruction
abbrev pub is_memory_at : List Instr → ℕ → Bool
is_memory_at code at = unwrap_or (option_map is_memory (slice_get code at)) false

-- it is one, and so is an earlier instruction
abbrev pub is_slot : List Instr → ℕ → Bool
is_slot code at = is_memory_at code at && list_any is_memory (take at code)

abbrev pub slot_at : ℕ → ℕ → Slot
slot_at hart at = record { hart = hart; at = at }

-- the slots of a hart's code, rising
abbrev pub slots_in : ℕ → List Instr → List Slot
slots_in hart code = map (slot_at hart) (filter (is_slot code) (range_with_len 0 (length code)))

-- the slots of the program, in order of hart, then of position
abbrev pub slots : Program → List Slot
slots t = flat_map (λ numbered. slots_in numbered.0 numbered.1) (enumerate_from 0 t.codes)

-- ---- the fenced program: a FENCE before each filled slot, and a label there before the fence

abbrev pub read : Letters
read = record { input = false; output = false; reads = true; writes = false }

abbrev pub write : Letters
write = record { input = false; output = false; reads = false; writes = true }

abbrev pub both : Letters
both = record { input = false; output = false; reads = true; writes = true }

-- the FENCE of a kind
abbrev pub fence_of : Kind → Instr
fence_of RR = Fence read read
fence_of RW = Fence read write
fence_of RRw = Fence read both
fence_of WR = Fence write read
fence_of WW = Fence write write
fence_of WRw = Fence write both
fence_of RwR = Fence both read
fence_of RwW = Fence both write
fence_of RwRw = Fence both both
fence_of Tso = FenceTso

-- the placement puts a fence before instruction `at` of the hart
abbrev pub is_filled : List Entry → (hart at : ℕ) → Bool
is_filled p hart at = is_some (kind_at (slot_at hart at) p)

-- where a label of instruction `at` of the hart stands in the fenced code: each fence before an earlier
-- instruction moves it by one, and a fence before `at` itself comes after the label
abbrev pub position : List Entry → (hart at : ℕ) → ℕ
position p hart at = at + length (filter (is_filled p hart) (range_with_len 0 at))

-- the instruction, going to where its label stands
abbrev pub moved : List Entry → ℕ → Instr → Instr
moved p hart (Branch op first second target) = Branch op first second (position p hart target)
moved p hart (Jump target) = Jump (position p hart target)
moved p hart other = other

abbrev pub fences : Option Kind → List Instr
fences None = []
fences (Some kind) = fence_of kind ∷ []

-- the fence before instruction `at`, if any, and the instruction
abbrev pub with_fence : List Entry → ℕ → ℕ × Instr → List Instr
with_fence p hart numbered = fences (kind_at (slot_at hart numbered.0) p) ++ moved p hart numbered.1 ∷ []

abbrev pub fenced_code : List Entry → ℕ × List Instr → List Instr
fenced_code p numbered = flat_map (with_fence p numbered.0) (enumerate_from 0 numbered.1)

abbrev pub fenced_codes : List Entry → List (List Instr) → List (List Instr)
fenced_codes p codes = map (fenced_code p) (enumerate_from 0 codes)

abbrev pub fenced : Program → List Entry → Program
fenced t p = record t { codes = fenced_codes p t.codes }

-- ---- `solve`

-- the program's slots in order, each with an offered kind or none
pub record IsPlacement (t : Program) (prices : PriceTable) (p : List Entry) : Type 0 where
  pub slots : slots_of p ≡ slots t
  pub offered : are_offered prices p ≡ true

-- with these fences no execution shows the outcome (runs that go astray are in none)
abbrev pub RulesOut : Program → Outcome → List Entry → Type 0
RulesOut t o p = Allows (fenced t p) o → ⊥

-- it rules the outcome out, and no better placement does: the answer is the first of the cheapest
pub record IsCheapest (t : Program) (o : Outcome) (prices : PriceTable) (p : List Entry) : Type 0 where
  pub placement : IsPlacement t prices p
  pub rules_out : RulesOut t o p
  pub better : (q : List Entry) → IsPlacement t prices q → is_better prices q p ≡ true → Allows (fenced t q) o

-- some execution shows the outcome whatever fences stand in the slots (prices offer rw,rw, so this or IsCheapest holds)
abbrev pub NothingRulesOut : Program → Outcome → Type 0
NothingRulesOut t o = (q : List Entry) → slots_of q ≡ slots t → Allows (fenced t q) o

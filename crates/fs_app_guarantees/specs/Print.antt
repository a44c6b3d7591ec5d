-- A program and the outcome that it asks for in print, as `place` prints them under a name; and which of them can be
-- printed and read.
use Rattle.std.specs.Prelude.{◌≢◌, ◌≡◌, ℕ, ◌<◌, ◌≤◌, ◌^◌, false, not, ◌&&◌, List, [], ◌++◌, length, map, sum_by, count_by, All, AllPairs, IsTrue, codes, if◌then◌else◌}
use Rattle.std.specs.List.{enumerate_from}
use Rattle.std.specs.Str.{IsUtf8}
use Rattle.fs_kinds.specs.Limits.{most_harts, most_instructions, most_accesses, most_locations, most_depth}
use Rattle.fs_instr.specs.declared.instr.Instr.{Instr}
use Rattle.fs_instr.specs.declared.instr.Instr.TheVariants.{Register, Immediate, Shift, Lui, Li, Lw, Sw, Lr, Sc, Amo, Branch, Jump, Fence, FenceTso, FenceI}
use Rattle.fs_instr.specs.OfTable.{IsImmediate, HasLetter}
use Rattle.fs_instr.specs.Roles.{is_memory}
use Rattle.fs_model.specs.Runs.{Program}
use Rattle.fs_model.specs.Executions.{Outcome}
use Rattle.fs_model.specs.Condition.{nesting, SpeaksOf}
use Rattle.fs_model.specs.Test.{GoesForward, IsStart, is_name, is_title}
use Rattle.fs_model.specs.Printed.{ended, is_target, label, end_cells, header, rows_text, locations_text, starts_text, quantifier_text, condition_text}
use Rattle.fs_app_guarantees.specs.Assembly.{assembly}

abbrev pub cell : List Instr → ℕ × Instr → List ℕ
cell code numbered = (if is_target code numbered.0 then label numbered.0 ++ codes " " else []) ++ assembly numbered.1

abbrev pub column : List Instr → List (List ℕ)
column code = map (cell code) (enumerate_from 0 code) ++ end_cells code

abbrev pub print : (name : List ℕ) → Program → Outcome → List ℕ
print name t o =
    ended (codes "RISCV " ++ name) ++ ended (codes "{")
    ++ locations_text t.locations
    ++ starts_text t.locations t.starts
    ++ ended (codes "}")
    ++ ended (header (length t.codes))
    ++ rows_text (map column t.codes)
    ++ ended (quantifier_text o.quantifier ++ codes " " ++ condition_text t.locations o.condition)

-- ---- what can be printed and read

-- an instruction with its numbers in their ranges; no lr.w has rl alone, and no sc.w aq alone
abbrev pub IsInstruction : Instr → Type 0
IsInstruction (Register op rd first second) = (rd < 32) × (first < 32) × (second < 32)
IsInstruction (Immediate op rd first immediate) = (rd < 32) × (first < 32) × IsImmediate immediate
IsInstruction (Shift op rd first amount) = (rd < 32) × (first < 32) × (amount < 32)
IsInstruction (Lui rd upper) = (rd < 32) × (upper < 2 ^ 20)
IsInstruction (Li rd word) = (rd < 32) × (word < 2 ^ 32)
IsInstruction (Lw ann rd base offset) = ((not ann.acquire && ann.release) ≡ false) × (rd < 32) × (base < 32) × IsImmediate offset
IsInstruction (Sw ann value base offset) = ((ann.acquire && not ann.release) ≡ false) × (value < 32) × (base < 32) × IsImmediate offset
IsInstruction (Lr ann rd base) = ((not ann.acquire && ann.release) ≡ false) × (rd < 32) × (base < 32)
IsInstruction (Sc ann rd value base) = ((ann.acquire && not ann.release) ≡ false) × (rd < 32) × (value < 32) × (base < 32)
IsInstruction (Amo op ann rd value base) = (rd < 32) × (value < 32) × (base < 32)
IsInstruction (Branch op first second target) = (first < 32) × (second < 32) × (target < 256)
IsInstruction (Jump target) = target < 256
IsInstruction (Fence before after) = HasLetter before × HasLetter after
IsInstruction FenceTso = Unit {0}
IsInstruction FenceI = Unit {0}

-- the name is text in one line, each part of the program is of its kind, and all is within the limits
pub record IsPrintable (name : List ℕ) (t : Program) (o : Outcome) : Type 0 where
  pub utf8 : IsUtf8 name
  pub title : IsTrue (is_title name)
  pub some_hart : 1 ≤ length t.codes
  pub harts : length t.codes ≤ most_harts
  pub starts : length t.starts ≡ length t.codes
  pub registers : All IsStart t.starts
  pub lengths : All (λ code. length code ≤ most_instructions) t.codes
  pub instructions : All (All IsInstruction) t.codes
  pub forward : All GoesForward t.codes
  pub accesses : sum_by (count_by is_memory) t.codes ≤ most_accesses
  pub locations : length t.locations ≤ most_locations
  pub named : All (λ x. IsTrue (is_name x.name)) t.locations
  pub distinct : AllPairs (λ x y. x.name ≢ y.name) t.locations
  pub words : All (λ x. x.word < 2 ^ 32) t.locations
  pub atoms : SpeaksOf (length t.codes) (length t.locations) o.condition
  pub depth : nesting o.condition ≤ most_depth

-- P is true of the program and the outcome of which the bytes are the print, whatever can be printed so
abbrev pub OfPrint : (test : List ℕ) → (Program → Outcome → Type 0) → Type 0
OfPrint test P = (name : List ℕ) (t : Program) (o : Outcome) → IsPrintable name t o → test ≡ print name t o → P t o

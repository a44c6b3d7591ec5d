-- What `audit --anew` prints, and its exit status.
use Rattle.std.specs.Prelude.{ℕ, List, [], ◌++◌, codes, Bool, false, Option, None, Some, if◌then◌else◌}
use Rattle.std.specs.Fmt.{decimal}
use Rattle.std.specs.List.{flat_map, enumerate_from, slice_index_or}
use Rattle.fs_instr.specs.FenceLetters.{letters_text}
use Rattle.fs_instr.specs.declared.instr.Instr.{Instr}
use Rattle.fs_instr.specs.declared.instr.Instr.TheVariants.{Fence, FenceTso, FenceI}
use Rattle.fs_kinds.specs.Kind.{word}
use Rattle.fs_kinds.specs.Slot.{place_name}
use Rattle.fs_kinds.specs.PriceTable.{PriceTable, cost}
use Rattle.fs_kinds.specs.declared.placement.Entry.{Entry}
use Rattle.fs_model.specs.Printed.{ended}
use Rattle.fs_app_io.specs.declared.status.Status.{Status}
use Rattle.fs_app_io.specs.declared.status.Status.TheVariants as status
use Rattle.fs_app_test.specs.declared.said.Kind.{Kind}
use Rattle.fs_app_test.specs.declared.said.Kind.TheVariants as kind
use Rattle.fs_report.specs.Cells.{padded}
use Rattle.fs_app_test.specs.Report.{kind_text}
use Rattle.fs_app_audit.specs.Unfenced.{names_devices}
use Rattle.fs_app_audit.specs.Advice.{advice_of, is_right}
use Rattle.fs_app_audit.specs.declared.advice.Advice.{Advice}
use Rattle.fs_app_audit.specs.declared.advice.Advice.TheVariants.{Needed, Unpriced, Enough, Instead, NotNeeded, NoSlot, Idle, Devices, Missing}

-- ---- a line

-- the letters of a FENCE, such as `rw,w` or `tso`; of fence.i its one
abbrev pub fence_letters : Instr → List ℕ
fence_letters (Fence before after) = letters_text before ++ (codes "," ++ letters_text after)
fence_letters FenceTso = codes "tso"
fence_letters FenceI = codes "i"
fence_letters _ = codes "none"

-- of a FENCE that names devices too, memory alone is spoken of
abbrev pub about : Instr → List ℕ
about i = if names_devices i then codes " for memory" else []

abbrev pub advice_text : Instr → Advice → List ℕ
advice_text i Needed = codes "needed" ++ about i
advice_text i Unpriced = codes "needed" ++ (about i ++ codes " (no price)")
advice_text i (Enough k) = word k ++ (codes " is enough" ++ about i)
advice_text i (Instead k) = word k ++ (codes " instead" ++ about i)
advice_text i NotNeeded = codes "not needed" ++ about i
advice_text i NoSlot = codes "at no slot"
advice_text i Idle = codes "orders nothing" ++ about i
advice_text i Devices = codes "not for memory"
advice_text i (Missing k) = word k ++ codes " is missing"

-- `line` and the line of the file, the instruction, the FENCE that is there, and the advice
abbrev pub line_text : (line hart at : ℕ) → Instr → Advice → List ℕ
line_text line hart at i a =
    ended (padded 8 (codes "line " ++ decimal line) ++ (codes "  " ++ (padded 5 (place_name hart at) ++ (codes "  "
    ++ (padded 9 (fence_letters i) ++ (codes "  " ++ advice_text i a))))))

-- the line of the file in which instruction `at` of the hart stands
abbrev pub line_of : List (List ℕ) → (hart at : ℕ) → ℕ
line_of lines hart at = slice_index_or (slice_index_or lines hart []) at 0

abbrev pub advised : (line hart at : ℕ) → Instr → Option Advice → List ℕ
advised line hart at i None = []
advised line hart at i (Some a) = line_text line hart at i a

-- what is said of instruction `at`, mostly nothing
abbrev pub instruction_text : List (List ℕ) → List Entry → (hart : ℕ) → List Instr → ℕ × Instr → List ℕ
instruction_text lines p hart code numbered =
    advised (line_of lines hart numbered.0) hart numbered.0 numbered.1 (advice_of p hart code numbered.0)

abbrev pub code_text : List (List ℕ) → List Entry → ℕ × List Instr → List ℕ
code_text lines p numbered = flat_map (instruction_text lines p numbered.0 numbered.1) (enumerate_from 0 numbered.1)

abbrev pub lines_text : List (List ℕ) → List (List Instr) → List Entry → List ℕ
lines_text lines codes p = flat_map (code_text lines p) (enumerate_from 0 codes)

-- ---- the first line

-- what the FENCEs cost, where that is known
abbrev pub cost_text : PriceTable → Option (List Entry) → List ℕ
cost_text prices None = []
cost_text prices (Some p) = codes ", " ++ decimal (cost prices p)

abbrev pub best_text : PriceTable → Option (List Entry) → List ℕ
best_text prices None = codes "no fences rule it out"
best_text prices (Some p) = codes "cheapest " ++ decimal (cost prices p)

-- such as `forbidden as written, 20; cheapest 10`
abbrev pub first_line : Kind → PriceTable → (written best : Option (List Entry)) → List ℕ
first_line k prices written best =
    ended (kind_text k ++ (codes " as written" ++ (cost_text prices written ++ (codes "; " ++ best_text prices best))))

-- ---- the whole

abbrev pub below : List (List ℕ) → List (List Instr) → Option (List Entry) → List ℕ
below lines codes None = []
below lines codes (Some p) = lines_text lines codes p

-- the code is as it is advised
abbrev pub is_as_advised : List (List Instr) → Option (List Entry) → Bool
is_as_advised codes None = false
is_as_advised codes (Some p) = is_right codes p

-- 4 where the outcome is vacuous; else 1 where it is possible, or there is something to change; else 0
abbrev pub audit_status : Kind → List (List Instr) → Option (List Entry) → Status
audit_status kind.Vacuous codes best = status.Vacuous
audit_status kind.Forbidden codes best = if is_as_advised codes best then status.Success else status.Denied
audit_status _ codes best = status.Denied

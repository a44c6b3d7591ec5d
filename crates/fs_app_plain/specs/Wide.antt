-- Executions of a test whose accesses have 64 bits (RISC-V Unprivileged ISA 20191213, chapter "RV64I Base Integer
-- Instruction Set", and chapter "RVWMO Memory Consistency Model", section "Memory Model Axioms"). Its instructions are
-- those of `Instr`, with lw for ld and its like; registers and locations begin with words, extended by their signs. Runs
-- are as in `Runs` of fs_model, but that all words have 64 bits; the axioms are the same, as they speak of no width.
use Rattle.std.specs.Prelude.{◌≡◌, ℕ, ◌^◌, ◌<◌, ◌≤◌, ◌⊎◌, Bool, true, Option, None, Some, option_map, List, [], ◌∷◌, map, length, slice_get}
use Rattle.fs_instr.specs.declared.instr.Instr.{Instr}
use Rattle.fs_instr.specs.declared.instr.Instr.TheVariants.{Lw, Sw, Lr, Sc, Amo}
use Rattle.fs_instr.specs.Roles.{dest_of}
use Rattle.fs_kinds.specs.declared.placement.Entry.{Entry}
use Rattle.fs_model.specs.declared.hart.Hart.{Hart}
use Rattle.fs_model.specs.declared.step.Step.{Step}
use Rattle.fs_model.specs.declared.test.Test.{Test}
use Rattle.fs_model.specs.Instructions as words
use Rattle.fs_model.specs.Instructions.{read, written}
use Rattle.fs_model.specs.Runs as narrow
use Rattle.fs_model.specs.Runs.{IsDeclared, AccessesNothing, paired_after}
use Rattle.fs_model.specs.Operations.{PreExecution, steps_of}
use Rattle.fs_model.specs.Condition.{Condition, condition_of, Always, Never, RegisterIs, LocationIs, Deny, Both, Either}
use Rattle.fs_model.specs.Execution.{Execution, ObeysAxioms, IsTrace, code_of, registers_of, initial_words}
use Rattle.fs_model.specs.Shows.{holds, is_outcome, final_word}
use Rattle.fs_model.specs.Values.{IsValue, LoadsFrom}
use Rattle.fs_app_plain.specs.Instructions64.{extended, address_in, stored_in, result_in, next_after}

-- ---- runs

abbrev pub IsDoubleword : Option ℕ → Type 0
IsDoubleword None = ⊥
IsDoubleword (Some word) = word < 2 ^ 64

abbrev pub IsAtLocation : ℕ → Hart → Step → Type 0
IsAtLocation n h s = (s.address ≡ address_in h.registers s.instr) × IsDeclared n s.address

abbrev pub StoresItsWord : Hart → Step → Type 0
StoresItsWord h s = s.stored ≡ stored_in h.registers s.loaded s.instr

abbrev pub Succeeds : Hart → Step → Type 0
Succeeds h s = (s.address ≡ address_in h.registers s.instr) × (s.address ≡ h.paired) × (s.loaded ≡ None) × StoresItsWord h s

abbrev pub Accesses : ℕ → Hart → Step → Instr → Type 0
Accesses n h s (Lw ann rd base offset) = IsAtLocation n h s × IsDoubleword s.loaded × (s.stored ≡ None)
Accesses n h s (Lr ann rd base) = IsAtLocation n h s × IsDoubleword s.loaded × (s.stored ≡ None)
Accesses n h s (Sw ann value base offset) = IsAtLocation n h s × (s.loaded ≡ None) × StoresItsWord h s
Accesses n h s (Amo op ann rd value base) = IsAtLocation n h s × IsDoubleword s.loaded × StoresItsWord h s
Accesses n h s (Sc ann rd value base) = Succeeds h s ⊎ AccessesNothing s
Accesses n h s _ = AccessesNothing s

abbrev pub executed : List ℕ → (loaded stored : Option ℕ) → Instr → List ℕ
executed x loaded stored i = written (dest_of i) (result_in x loaded stored i) x

abbrev pub after_step : Hart → Step → Hart
after_step h s = record {
  at = next_after h.registers h.at s.instr;
  registers = executed h.registers s.loaded s.stored s.instr;
  paired = paired_after h s s.instr;
}

abbrev pub IsStep : ℕ → List Instr → Hart → Step → Type 0
IsStep n code h s = (s.at ≡ h.at) × (slice_get code h.at ≡ Some s.instr) × Accesses n h s s.instr

abbrev pub AreSteps : ℕ → List Instr → Hart → List Step → Type 0
AreSteps n code h [] = Unit {0}
AreSteps n code h (s ∷ ss) = IsStep n code h s × AreSteps n code (after_step h s) ss

abbrev pub hart_after : Hart → List Step → Hart
hart_after h [] = h
hart_after h (s ∷ ss) = hart_after (after_step h s) ss

-- each register begins with its word, extended by its sign
abbrev pub start_with : List ℕ → Hart
start_with registers = record { at = 0; registers = map extended registers; paired = None }

abbrev pub Runs : ℕ → List Instr → (registers : List ℕ) → List Step → Type 0
Runs n code registers steps = AreSteps n code (start_with registers) steps × (length code ≤ (hart_after (start_with registers) steps).at)

-- ---- executions

abbrev pub pre_execution : Test → List (List Step) → PreExecution
pre_execution t traces = record { traces = traces; words = map extended (initial_words t) }

pub record IsWideExecution (t : Test) (p : List Entry) (e : Execution) : Type 0 where
  pub harts : length e.traces ≡ length t.codes
  pub runs : (hart : ℕ) → hart < length t.codes → Runs (length t.locations) (code_of t hart) (registers_of t hart) (steps_of e.traces hart)
  pub axioms : ObeysAxioms (pre_execution t e.traces) p e.order

-- the condition, whose words are extended by their signs, is true of what registers and locations hold in the end
abbrev pub wide_condition : Condition → Condition
wide_condition Always = Always
wide_condition Never = Never
wide_condition (RegisterIs hart reg word) = RegisterIs hart reg (extended word)
wide_condition (LocationIs location word) = LocationIs location (extended word)
wide_condition (Deny c) = Deny (wide_condition c)
wide_condition (Both c d) = Both (wide_condition c) (wide_condition d)
wide_condition (Either c d) = Either (wide_condition c) (wide_condition d)

abbrev pub final_register : Test → List (List Step) → (hart reg : ℕ) → ℕ
final_register t traces hart reg = read (hart_after (start_with (registers_of t hart)) (steps_of traces hart)).registers reg

abbrev pub has_wide_outcome : Test → Execution → Bool
has_wide_outcome t e =
    is_outcome t.quantifier
    (holds (final_register t e.traces) (final_word (pre_execution t e.traces) e.order) (wide_condition (condition_of t.condition)))

-- an execution with these fences shows the outcome
abbrev pub AllowsWide : Test → List Entry → Type 0
AllowsWide t p = (e : Execution) × IsWideExecution t p e × (has_wide_outcome t e ≡ true)

-- ---- what is the same in 32 bits

-- the same step with doublewords for words
abbrev pub extended_step : Step → Step
extended_step s = record {
  at = s.at;
  instr = s.instr;
  address = s.address;
  loaded = option_map extended s.loaded;
  stored = option_map extended s.stored;
}

abbrev pub extended_execution : Execution → Execution
extended_execution e = record { traces = map (map extended_step) e.traces; order = e.order }

-- what the step makes of words in 32 bits, extended by its sign, is what it makes of these, extended, in 64
pub record IsExact (h : Hart) (s : Step) : Type 0 where
  pub result :
      extended (words.result_in h.registers s.loaded s.stored s.instr)
      ≡ result_in (map extended h.registers) (option_map extended s.loaded) (option_map extended s.stored) s.instr
  pub stored :
      option_map extended (words.stored_in h.registers s.loaded s.instr)
      ≡ stored_in (map extended h.registers) (option_map extended s.loaded) s.instr

abbrev pub AreExact : Hart → List Step → Type 0
AreExact h [] = Unit {0}
AreExact h (s ∷ ss) = IsExact h s × AreExact (narrow.after_step h s) ss

-- so is each step of each run of the test over its value sets
abbrev pub IsExactTest : Test → Type 0
IsExactTest t =
    (hart : ℕ) (steps : List Step) → hart < length t.codes → IsTrace t hart steps → LoadsFrom (IsValue t) steps
    → AreExact (narrow.start_with (registers_of t hart)) steps

-- 3. Programs, and runs of one hart (RISC-V Unprivileged ISA 20191213, chapter "RV32I Base Integer Instruction Set",
-- and for lr.w and sc.w chapter "“A” Standard Extension for Atomic Instructions"). A load may return any word here, and
-- an sc.w may fail. A `Hart` is the state between two instructions: the position `at` of the next, the registers, and
-- the address `paired` that an sc.w might succeed at. A `Step` is an executed instruction with its position, the
-- address that it accesses, and the words that it loads and stores there.
use Rattle.std.specs.Prelude.{◌≡◌, ℕ, ◌+◌, ◌*◌, ◌^◌, ◌<◌, ◌≤◌, ◌⊎◌, Option, None, Some, List, [], ◌∷◌, length, slice_get}
use Rattle.std.specs.List.{slice_index_or}
use Rattle.fs_instr.specs.declared.instr.Instr.{Instr}
use Rattle.fs_instr.specs.declared.instr.Instr.TheVariants.{Lw, Sw, Lr, Sc, Amo}
use Rattle.fs_model.specs.declared.hart.Hart.{Hart}
use Rattle.fs_model.specs.declared.step.Step.{Step}
use Rattle.fs_model.specs.declared.test.Location.{Location}
use Rattle.fs_model.specs.Instructions.{address_in, stored_in, result_in, written, next_after}
use Rattle.fs_instr.specs.Roles.{dest_of}

-- The code of each hart, the 32 words that its registers begin with, and the locations, each with the word that it
-- begins with. In a test x0 begins with 0, words are below 2^32, and branches go forward (IsTest), which is asked for
-- nowhere here; a run that doesn't end is none.
pub record Program : Type 0 where
  pub codes : List (List Instr)
  pub starts : List (List ℕ)
  pub locations : List Location

abbrev pub code_of : Program → ℕ → List Instr
code_of t hart = slice_index_or t.codes hart []

abbrev pub registers_of : Program → ℕ → List ℕ
registers_of t hart = slice_index_or t.starts hart []

-- ---- what a step accesses

-- the address of the location of this number (of Roles it is a register)
abbrev pub address_of : ℕ → ℕ
address_of location = 4096 + 16 * location

-- the address of one of the first so many locations
abbrev pub IsDeclared : (locations : ℕ) → Option ℕ → Type 0
IsDeclared locations address = (k : ℕ) × (k < locations) × (address ≡ Some (address_of k))

abbrev pub IsWord : Option ℕ → Type 0
IsWord None = ⊥
IsWord (Some word) = word < 2 ^ 32

-- an access to a declared location, at the address that the instruction has in this state (a run that would go
-- elsewhere is none; `solve` refuses such a test, F14)
abbrev pub IsAtLocation : ℕ → Hart → Step → Type 0
IsAtLocation n h s = (s.address ≡ address_in h.registers s.instr) × IsDeclared n s.address

abbrev pub StoresItsWord : Hart → Step → Type 0
StoresItsWord h s = s.stored ≡ stored_in h.registers s.loaded s.instr

abbrev pub AccessesNothing : Step → Type 0
AccessesNothing s = (s.address ≡ None) × (s.loaded ≡ None) × (s.stored ≡ None)

-- an sc.w succeeds only where it is paired with an lr.w of its address (so that is a location's)
abbrev pub Succeeds : Hart → Step → Type 0
Succeeds h s = (s.address ≡ address_in h.registers s.instr) × (s.address ≡ h.paired) × (s.loaded ≡ None) × StoresItsWord h s

-- the access of a step, by its instruction, in a program with n locations
abbrev pub Accesses : ℕ → Hart → Step → Instr → Type 0
Accesses n h s (Lw ann rd base offset) = IsAtLocation n h s × IsWord s.loaded × (s.stored ≡ None)
Accesses n h s (Lr ann rd base) = IsAtLocation n h s × IsWord s.loaded × (s.stored ≡ None)
Accesses n h s (Sw ann value base offset) = IsAtLocation n h s × (s.loaded ≡ None) × StoresItsWord h s
Accesses n h s (Amo op ann rd value base) = IsAtLocation n h s × IsWord s.loaded × StoresItsWord h s
Accesses n h s (Sc ann rd value base) = Succeeds h s ⊎ AccessesNothing s
Accesses n h s _ = AccessesNothing s

-- ---- steps

-- the registers after the instruction; its sources are read before its destination is written
abbrev pub executed : List ℕ → (loaded stored : Option ℕ) → Instr → List ℕ
executed x loaded stored i = written (dest_of i) (result_in x loaded stored i) x

-- the address of the lr.w that an sc.w after this step would be paired with
abbrev pub paired_after : Hart → Step → Instr → Option ℕ
paired_after h s (Lr ann rd base) = s.address
paired_after h s (Sc ann rd value base) = None
paired_after h s _ = h.paired

abbrev pub after_step : Hart → Step → Hart
after_step h s = record {
  at = next_after h.registers h.at s.instr;
  registers = executed h.registers s.loaded s.stored s.instr;
  paired = paired_after h s s.instr;
}

-- a step of the hart in this state: the instruction that is next, with its access
abbrev pub IsStep : ℕ → List Instr → Hart → Step → Type 0
IsStep n code h s = (s.at ≡ h.at) × (slice_get code h.at ≡ Some s.instr) × Accesses n h s s.instr

-- steps one after the other
abbrev pub AreSteps : ℕ → List Instr → Hart → List Step → Type 0
AreSteps n code h [] = Unit {0}
AreSteps n code h (s ∷ ss) = IsStep n code h s × AreSteps n code (after_step h s) ss

abbrev pub hart_after : Hart → List Step → Hart
hart_after h [] = h
hart_after h (s ∷ ss) = hart_after (after_step h s) ss

-- ---- runs, from the first instruction to the end of the code

abbrev pub start_with : List ℕ → Hart
start_with registers = record { at = 0; registers = registers; paired = None }

abbrev pub Runs : ℕ → List Instr → (registers : List ℕ) → List Step → Type 0
Runs n code registers steps = AreSteps n code (start_with registers) steps × (length code ≤ (hart_after (start_with registers) steps).at)

-- the steps are a run of the program's hart
abbrev pub IsTrace : Program → ℕ → List Step → Type 0
IsTrace t hart steps = Runs (length t.locations) (code_of t hart) (registers_of t hart) steps

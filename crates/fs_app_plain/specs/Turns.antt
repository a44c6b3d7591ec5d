-- Loops, and the turns of a run that may be left out (RISC-V Unprivileged ISA 20191213, chapter "RVWMO Memory Consistency
-- Model", section "Memory Model Axioms", over runs of `Runs` of fs_model, in which branches may go back). A turn is a part
-- of a run that ends at the position where it began. It is idle where no later step of its hart can tell that it was
-- made: it stores nothing but what it loaded, and leaves no register that is read and no reservation behind. Registers at
-- the end of the run may differ.
use Rattle.std.specs.Prelude.{◌≡◌, ℕ, ◌<◌, ◌⊎◌, Bool, true, false, ◌&&◌, ◌||◌, not, nat_le, None, Some, is_some, List, [], ◌∷◌, ◌++◌, All, length, slice_set}
use Rattle.std.specs.List.{list_any}
use Rattle.fs_instr.specs.Roles.{is_lr, is_sc, dest_of, sources_of}
use Rattle.fs_kinds.specs.declared.placement.Entry.{Entry}
use Rattle.fs_model.specs.declared.hart.Hart.{Hart}
use Rattle.fs_model.specs.declared.step.Step.{Step}
use Rattle.fs_model.specs.declared.test.Test.{Test}
use Rattle.fs_model.specs.Runs.{start_with, after_step, hart_after}
use Rattle.fs_model.specs.Operations.{is_same, steps_of}
use Rattle.fs_model.specs.Execution.{Execution, IsExecution, registers_of, pre_execution}
use Rattle.fs_model.specs.Condition.{Condition, Always, Never, RegisterIs, LocationIs, Deny, Both, Either}
use Rattle.fs_model.specs.Shows.{final_register, final_word}

-- ---- what a part of a run does with registers and the reservation

abbrev pub reads : ℕ → Step → Bool
reads r s = list_any (λ source. is_same source (Some r)) (sources_of s.instr)

abbrev pub writes : ℕ → Step → Bool
writes r s = is_same (dest_of s.instr) (Some r)

-- some step reads the register, and none before it writes it
abbrev pub is_read_first : ℕ → List Step → Bool
is_read_first r [] = false
is_read_first r (s ∷ ss) = reads r s || not (writes r s) && is_read_first r ss

-- some step is an sc.w, and none before it an lr.w
abbrev pub tries_first : List Step → Bool
tries_first [] = false
tries_first (s ∷ ss) = is_sc s.instr || not (is_lr s.instr) && tries_first ss

-- an lr.w or an sc.w, after which an sc.w is paired otherwise than before
abbrev pub reserves : Step → Bool
reserves s = is_lr s.instr || is_sc s.instr

-- it stores nothing, or, an AMO, the word that it loads
abbrev pub StoresWhatItLoads : Step → Type 0
StoresWhatItLoads s = (s.stored ≡ None) ⊎ ((is_some s.loaded ≡ true) × (s.stored ≡ s.loaded))

-- ---- turns

-- Of the run before ++ (turn ++ after) of a hart that begins in this state. No register that the turn writes is read
-- after it before it is written again; and where it has an lr.w or an sc.w, no sc.w after it is tried before the next
-- lr.w.
pub record IsIdle (start : Hart) (before turn after : List Step) : Type 0 where
  pub closed : (hart_after start (before ++ turn)).at ≡ (hart_after start before).at
  pub stores : All StoresWhatItLoads turn
  pub registers : (r : ℕ) → list_any (writes r) turn ≡ true → is_read_first r after ≡ false
  pub reservation : list_any reserves turn ≡ true → tries_first after ≡ false

-- the run of this hart is that one
pub record HasIdleTurn (t : Test) (e : Execution) (hart : ℕ) (before turn after : List Step) : Type 0 where
  pub run : steps_of e.traces hart ≡ before ++ (turn ++ after)
  pub idle : IsIdle (start_with (registers_of t hart)) before turn after

-- the runs without the turn
abbrev pub without_turn : List (List Step) → (hart : ℕ) → (before after : List Step) → List (List Step)
without_turn traces hart before after = slice_set traces hart (before ++ after)

-- Both end with the same words in memory and registers, but for the registers of that hart that the turn writes and
-- nothing after it does.
pub record EndsAlike (t : Test) (e f : Execution) (hart : ℕ) (turn after : List Step) : Type 0 where
  pub words : (location : ℕ) → final_word (pre_execution t e.traces) e.order location ≡ final_word (pre_execution t f.traces) f.order location
  pub registers : (k r : ℕ) → (k ≡ hart → list_any (writes r) turn ≡ true → list_any (writes r) after ≡ true)
      → final_register t e.traces k r ≡ final_register t f.traces k r

-- an execution with these fences has another one without the turn
pub record IsLeftOut (t : Test) (p : List Entry) (e : Execution) (hart : ℕ) (before turn after : List Step) : Type 0 where
  pub left : Execution
  pub execution : IsExecution t p left
  pub traces : left.traces ≡ without_turn e.traces hart before after
  pub alike : EndsAlike t e left hart turn after

-- ---- executions in which no branch goes back, even where it makes no loop

-- the position after the step isn't past its own
abbrev pub goes_back : Hart → Step → Bool
goes_back h s = nat_le (after_step h s).at h.at

abbrev pub NeverGoesBack : Hart → List Step → Type 0
NeverGoesBack h [] = Unit {0}
NeverGoesBack h (s ∷ ss) = (goes_back h s ≡ false) × NeverGoesBack (after_step h s) ss

-- no step of any hart goes back
abbrev pub IsInOneTurn : Test → Execution → Type 0
IsInOneTurn t e = (hart : ℕ) → hart < length t.codes → NeverGoesBack (start_with (registers_of t hart)) (steps_of e.traces hart)

-- Of the run front ++ (s ∷ rest): an idle turn ends with s. What is asked for at the end it leaves as it was, or the rest
-- writes it again.
pub record EndsIdleTurn (asked : ℕ → Bool) (start : Hart) (front : List Step) (s : Step) (rest : List Step) : Type 0 where
  pub before : List Step
  pub first : Step
  pub more : List Step
  pub ends : front ++ (s ∷ []) ≡ before ++ (first ∷ more)
  pub idle : IsIdle start before (first ∷ more) rest
  pub kept : (r : ℕ) → asked r ≡ true → list_any (writes r) (first ∷ more) ≡ true → list_any (writes r) rest ≡ true

-- In an execution with these fences, the first step of a hart that goes back ends an idle turn. Asked for are registers
-- of each hart.
abbrev pub TurnsAreIdle : (asked : ℕ → ℕ → Bool) → Test → List Entry → Type 0
TurnsAreIdle asked t p =
    (e : Execution) (hart : ℕ) (front : List Step) (s : Step) (rest : List Step) → IsExecution t p e → hart < length t.codes
    → steps_of e.traces hart ≡ front ++ (s ∷ rest) → NeverGoesBack (start_with (registers_of t hart)) front
    → goes_back (hart_after (start_with (registers_of t hart)) front) s ≡ true
    → EndsIdleTurn (asked hart) (start_with (registers_of t hart)) front s rest

-- both end with the same words in memory, and in the registers that are asked for
pub record EndTheSame (asked : ℕ → ℕ → Bool) (t : Test) (e f : Execution) : Type 0 where
  pub words : (location : ℕ) → final_word (pre_execution t e.traces) e.order location ≡ final_word (pre_execution t f.traces) f.order location
  pub registers : (hart r : ℕ) → asked hart r ≡ true → final_register t e.traces hart r ≡ final_register t f.traces hart r

-- the condition asks for no other registers
abbrev pub AsksFor : (asked : ℕ → ℕ → Bool) → Condition → Type 0
AsksFor asked Always = Unit {0}
AsksFor asked Never = Unit {0}
AsksFor asked (RegisterIs hart reg word) = asked hart reg ≡ true
AsksFor asked (LocationIs location word) = Unit {0}
AsksFor asked (Deny c) = AsksFor asked c
AsksFor asked (Both c d) = AsksFor asked c × AsksFor asked d
AsksFor asked (Either c d) = AsksFor asked c × AsksFor asked d

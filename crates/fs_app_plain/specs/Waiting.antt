-- Loops of two instructions that wait for a flag or a lock: what a code must be like for their turns to be idle.
use Rattle.std.specs.Prelude.{◌≡◌, ◌≢◌, ℕ, ℤ, pos, ◌+◌, ◌<◌, ◌⊎◌, true, Option, Some, List, [], ◌∷◌, All, length, slice_get, option_and_then}
use Rattle.fs_instr.specs.Names.{plain}
use Rattle.fs_instr.specs.declared.names.Ann.{Ann}
use Rattle.fs_instr.specs.declared.names.AmoOp.TheVariants.{Swap}
use Rattle.fs_instr.specs.declared.names.BranchOp.TheVariants.{Bne}
use Rattle.fs_instr.specs.declared.instr.Instr.{Instr}
use Rattle.fs_instr.specs.declared.instr.Instr.TheVariants.{Lw, Sw, Amo, Branch}
use Rattle.fs_instr.specs.Roles.{is_amo}
use Rattle.fs_instr.specs.Instructions.{target_of}
use Rattle.fs_kinds.specs.declared.placement.Entry.{Entry}
use Rattle.fs_model.specs.declared.step.Step.{Step}
use Rattle.fs_model.specs.declared.test.Test.{Test}
use Rattle.fs_model.specs.Operations.{steps_of}
use Rattle.fs_model.specs.Execution.{Execution, IsExecution, initial_words, code_of, registers_of}
use Rattle.fs_model.specs.Instructions.{read}

-- where the instruction at this position branches or jumps to
abbrev pub target_at : List Instr → ℕ → Option ℕ
target_at code at = option_and_then target_of (slice_get code at)

-- nothing branches to the position behind k, so a hart comes there from k
abbrev pub IsWhole : List Instr → ℕ → Type 0
IsWhole code k = (at : ℕ) → target_at code at ≢ Some (k + 1)

-- a lw, at this position, of a register that isn't its base
pub record LoadsAt (code : List Instr) (k : ℕ) : Type 0 where
  pub ann : Ann
  pub rd : ℕ
  pub base : ℕ
  pub offset : ℤ
  pub load : slice_get code k ≡ Some (Lw ann rd base offset)
  pub other : rd ≢ base
  pub whole : IsWhole code k

-- each branch goes to a later position, or back to such a lw right before it
abbrev pub OnlyWaits : List Instr → Type 0
OnlyWaits code =
    (at target : ℕ) → target_at code at ≡ Some target → (at < target) ⊎ ((at ≡ target + 1) × LoadsAt code target)

-- a swap, at this position, and a branch back to it where it loaded another word than 0
pub record SwapsAt (code : List Instr) (k : ℕ) : Type 0 where
  pub ann : Ann
  pub rd : ℕ
  pub value : ℕ
  pub base : ℕ
  pub swap : slice_get code k ≡ Some (Amo Swap ann rd value base)
  pub again : slice_get code (k + 1) ≡ Some (Branch Bne rd 0 k)
  pub others : (rd ≢ 0) × (rd ≢ base) × (rd ≢ value)
  pub whole : IsWhole code k

-- each branch goes to a later position, or back to such a lw or swap right before it
abbrev pub OnlyWaitsOrSwaps : List Instr → Type 0
OnlyWaitsOrSwaps code =
    (at target : ℕ) → target_at code at ≡ Some target
    → (at < target) ⊎ ((at ≡ target + 1) × (LoadsAt code target ⊎ SwapsAt code target))

-- where it is an AMO and behind it a branch back to it: the lock's word is 0, or the word that the AMO stores anyway
abbrev pub FindsFreeOrTaken : List Instr → Step → Type 0
FindsFreeOrTaken code s =
    is_amo s.instr ≡ true → target_at code (s.at + 1) ≡ Some s.at → (s.loaded ≡ Some 0) ⊎ (s.stored ≡ s.loaded)

-- so it is in each execution with these fences
abbrev pub LocksAreFreeOrTaken : Test → List Entry → Type 0
LocksAreFreeOrTaken t p =
    (e : Execution) (hart : ℕ) → IsExecution t p e → hart < length t.codes
    → All (FindsFreeOrTaken (code_of t hart)) (steps_of e.traces hart)

-- x0 begins with 0
abbrev pub StartsWithZero : Test → Type 0
StartsWithZero t = (hart : ℕ) → hart < length t.codes → read (registers_of t hart) 0 ≡ 0

-- lw x5,0(x6) / bnez x5 back to it / lw x7,0(x8)
abbrev pub waits_for_a_flag : List Instr
waits_for_a_flag = Lw plain 5 6 (pos 0) ∷ Branch Bne 5 0 0 ∷ Lw plain 7 8 (pos 0) ∷ []

-- amoswap.w x5,x9,(x6) / bnez x5 back to it / lw x7,0(x8)
abbrev pub waits_for_a_lock : Ann → List Instr
waits_for_a_lock ann = Amo Swap ann 5 9 6 ∷ Branch Bne 5 0 0 ∷ Lw plain 7 8 (pos 0) ∷ []

-- amoswap.w x5,x9,(x6) / bnez x5 back to it / sw x0,0(x6)
abbrev pub takes_and_releases : Ann → List Instr
takes_and_releases ann = Amo Swap ann 5 9 6 ∷ Branch Bne 5 0 0 ∷ Sw plain 0 6 (pos 0) ∷ []

-- Each hart takes a lock, any of the locations, and releases it: its x0 begins with 0, and its x9 with the word of a
-- lock that is taken. The locations begin with 0 or that word.
pub record OnlyLocks (t : Test) (taken : ℕ) : Type 0 where
  pub codes : (hart : ℕ) → hart < length t.codes → (ann : Ann) × (code_of t hart ≡ takes_and_releases ann)
  pub zero_register : StartsWithZero t
  pub word : (hart : ℕ) → hart < length t.codes → read (registers_of t hart) 9 ≡ taken
  pub words : All (λ word. (word ≡ 0) ⊎ (word ≡ taken)) (initial_words t)

-- What words and their extensions have to do with one another: the form in which it is handed to what speaks of runs.
use Rattle.std.proofs.Common.{◌≡◌, ℕ, ◌^◌, ◌<◌, ◌≤◌, Option, Some, None, List, All, map}
use Rattle.fs_kinds.specs.Limits.{most_locations}
use Rattle.fs_instr.specs.OfTable.{IsOfTable}
use Rattle.fs_instr.specs.declared.instr.Instr.{Instr}
use Rattle.fs_model.specs.Instructions as words
use Rattle.fs_model.specs.Runs.{IsDeclared}
use Rattle.fs_app_plain.specs.Instructions64.{extended, address_in, next_after}

abbrev pub AreWords : List ℕ → Type 0
AreWords x = All (λ w. w < 2 ^ 32) x

-- a loaded word is one of 32 bits
abbrev pub FitsIfThere : Option ℕ → Type 0
FitsIfThere None = Unit {0}
FitsIfThere (Some w) = w < 2 ^ 32

pub record WordLaws : Type 0 where
  pub none : extended 0 ≡ 0
  pub one : extended 1 ≡ 1
  pub fits : (w : ℕ) → w < 2 ^ 32 → extended w < 2 ^ 64
  pub injective : (v w : ℕ) → v < 2 ^ 32 → w < 2 ^ 32 → extended v ≡ extended w → v ≡ w
  -- instructions go the same way, and to the same locations
  pub next : (x : List ℕ) (at : ℕ) (i : Instr) → AreWords x → next_after (map extended x) at i ≡ words.next_after x at i
  pub address : (n : ℕ) (x : List ℕ) (i : Instr) → n ≤ most_locations → AreWords x → IsOfTable i
      → IsDeclared n (words.address_in x i) → address_in (map extended x) i ≡ words.address_in x i
  pub address_back : (n : ℕ) (x : List ℕ) (i : Instr) → n ≤ most_locations → AreWords x → IsOfTable i
      → IsDeclared n (address_in (map extended x) i) → words.address_in x i ≡ address_in (map extended x) i
  -- what they make of words are words
  pub result : (x : List ℕ) (loaded stored : Option ℕ) (i : Instr) → AreWords x → IsOfTable i → FitsIfThere loaded
      → words.result_in x loaded stored i < 2 ^ 32
  pub stored : (x : List ℕ) (loaded : Option ℕ) (i : Instr) → AreWords x → FitsIfThere loaded
      → FitsIfThere (words.stored_in x loaded i)

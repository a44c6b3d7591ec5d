-- What a litmus test is: a value that herd7's format for RISC-V can write, within the limits.
use Rattle.std.specs.Prelude.{◌≡◌, ◌≢◌, ℕ, ◌-◌, ◌/◌, ◌%◌, ◌<◌, ◌≤◌, ◌^◌, List, [], ◌∷◌, length, sum_by, count_by, Bool, false, not, ◌&&◌, ◌||◌, ◌==◌, nat_le, if◌then◌else◌, IsTrue, Option, Some, None, option_and_then, All, AllPairs, slice_get, slice_index}
use Rattle.std.specs.Char.{is_ascii_alphabetic, is_ascii_alphanumeric}
use Rattle.std.specs.Str.{IsUtf8}
use Rattle.std.specs.List.{list_any, list_all, last_or}
use Rattle.fs_kinds.specs.Limits.{most_harts, most_instructions, most_accesses, most_locations, most_depth}
use Rattle.fs_instr.specs.Instructions.{is_memory, target_of}
use Rattle.fs_instr.specs.OfTable.{IsOfTable}
use Rattle.fs_instr.specs.declared.instr.Instr.{Instr}
use Rattle.fs_model.specs.declared.test.Test.{Test}
pub use Rattle.fs_model.specs.Runs.{address_of}
use Rattle.fs_model.specs.Condition.{condition_of, nesting, SpeaksOf}

-- each branch goes to a later position of the code, or to its end
abbrev pub GoesForward : List Instr → Type 0
GoesForward code = (at target : ℕ) → option_and_then target_of (slice_get code at) ≡ Some target → (at < target) × (target ≤ length code)

-- 32 words, the first of which, x0's, is 0
pub record IsStart (words : List ℕ) : Type 0 where
  pub registers : length words ≡ 32
  pub zero_register : slice_index words 0 ≡ 0
  pub fit : All (λ w. w < 2 ^ 32) words

-- a letter or `_`, and then letters, digits and `_`
abbrev pub is_name : List ℕ → Bool
is_name [] = false
is_name (c ∷ cs) = (is_ascii_alphabetic c || c == 95) && list_all (λ d. is_ascii_alphanumeric d || d == 95) cs

-- a blank: a space, a tab or CR
abbrev pub is_blank : ℕ → Bool
is_blank c = (c == 32) || ((c == 9) || (c == 13))

abbrev pub is_visible : Option ℕ → Bool
is_visible None = false
is_visible (Some c) = not (is_blank c)

-- something in one line that neither begins nor ends with a blank
abbrev pub is_title : List ℕ → Bool
is_title text = is_visible (slice_get text 0) && is_visible (last_or None text) && not (list_any (λ c. c == 10) text)

-- the number of the location of this address, where it is that of one
abbrev pub location_of : ℕ → Option ℕ
location_of address = if nat_le 4096 address && ((address - 4096) % 16 == 0) then Some ((address - 4096) / 16) else None

-- its branches go forward, its atoms speak of what is there, and it is within the limits
pub record IsBounded (t : Test) : Type 0 where
  pub starts : length t.starts ≡ length t.codes
  pub forward : All GoesForward t.codes
  pub atoms : SpeaksOf (length t.codes) (length t.locations) (condition_of t.condition)
  pub harts : length t.codes ≤ most_harts
  pub lengths : All (λ code. length code ≤ most_instructions) t.codes
  pub accesses : sum_by (count_by is_memory) t.codes ≤ most_accesses
  pub locations : length t.locations ≤ most_locations
  pub depth : nesting (condition_of t.condition) ≤ most_depth

-- a test: its name is text in one line, and each part is of its kind
pub record IsTest (t : Test) : Type 0 where
  pub utf8 : IsUtf8 t.name
  pub bounded : IsBounded t
  pub title : IsTrue (is_title t.name)
  pub some_hart : 1 ≤ length t.codes
  pub registers : All IsStart t.starts
  pub instructions : All (All IsOfTable) t.codes
  pub named : All (λ x. IsTrue (is_name x.name)) t.locations
  pub distinct : AllPairs (λ x y. x.name ≢ y.name) t.locations
  pub words : All (λ x. x.word < 2 ^ 32) t.locations

-- the same test, wherever the parts of the conditions lie in memory
pub record IsSame (t u : Test) : Type 0 where
  pub name : t.name ≡ u.name
  pub codes : t.codes ≡ u.codes
  pub starts : t.starts ≡ u.starts
  pub locations : t.locations ≡ u.locations
  pub quantifier : t.quantifier ≡ u.quantifier
  pub condition : condition_of t.condition ≡ condition_of u.condition

-- The search for a way to the outcome, over what counts of runs.
use Rattle.std.specs.Prelude.{◌≡◌, ℕ, ◌+◌, ◌==◌, Bool, Option, None, Some, List, [], ◌∷◌, ◌++◌, map, filter, if◌then◌else◌}
use Rattle.std.specs.List.{Contains}
use Rattle.fs_model.specs.Condition.{Condition}
use Rattle.fs_model.specs.Test.{address_of}
use Rattle.fs_judge_outcomes.specs.declared.end.End.{End}
use Rattle.fs_judge_outcomes.specs.declared.end.Known.{Known}
use Rattle.fs_judge_outcomes.specs.declared.end.Stored.{Stored}
use Rattle.fs_judge_outcomes.specs.inner.Settled.{settled, truth_of}

-- ---- what is known

abbrev pub word_in : List Known → ℕ → Option ℕ
word_in [] reg = None
word_in (known ∷ others) reg = if known.register == reg then Some known.word else word_in others reg

-- of the registers of this hart these are known
abbrev pub by_hart : ℕ → List Known → ℕ → ℕ → Option ℕ
by_hart hart registers other reg = if other == hart then word_in registers reg else None

-- of this location the word is
abbrev pub by_location : ℕ → ℕ → ℕ → Option ℕ
by_location k word other = if other == k then Some word else None

abbrev pub no_register : ℕ → ℕ → Option ℕ
no_register hart reg = None

abbrev pub no_location : ℕ → Option ℕ
no_location k = None

abbrev pub with_hart : ℕ → List Known → Condition → Condition
with_hart hart registers = settled (by_hart hart registers) no_location

abbrev pub with_location : ℕ → ℕ → Condition → Condition
with_location k word = settled no_register (by_location k word)

-- ---- the last words of locations

-- the words that are stored at the address
abbrev pub stored_at : ℕ → List Stored → List ℕ
stored_at address stored = map (λ s. s.word) (filter (λ s. s.address == address) stored)

-- these, or where there are none the first one
abbrev pub or_first : ℕ → List ℕ → List ℕ
or_first word [] = word ∷ []
or_first word (w ∷ ws) = w ∷ ws

-- the words that the location may end with
abbrev pub words_for : (location first : ℕ) → List Stored → List ℕ
words_for location first stored = or_first first (stored_at (address_of location) stored)

-- ---- the search

-- some last words of the locations from this one on, which begin with these words, make what is left of the condition
-- so
abbrev pub CanEnd : (location : ℕ) → (firsts : List ℕ) → List Stored → Bool → Condition → Type 0
CanEnd location [] stored wanted c = c ≡ truth_of wanted
CanEnd location (first ∷ firsts) stored wanted c =
    (word : ℕ) × Contains (words_for location first stored) word
    × CanEnd (location + 1) firsts stored wanted (with_location location word c)

-- some ends of the harts from this one on do, and then some last words
abbrev pub CanShow : (hart : ℕ) → List (List End) → (firsts : List ℕ) → List Stored → Bool → Condition → Type 0
CanShow hart [] firsts stored wanted c = CanEnd 0 firsts stored wanted c
CanShow hart (ends ∷ lists) firsts stored wanted c =
    (end : End) × Contains ends end
    × CanShow (hart + 1) lists firsts (stored ++ end.stored) wanted (with_hart hart end.registers c)

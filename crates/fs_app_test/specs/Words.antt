-- Why an outcome is forbidden, possible, or vacuous, in a few words.
use Rattle.std.specs.Prelude.{ℕ, ◌+◌, ◌==◌, nat_lt, Bool, true, false, ◌&&◌, ◌||◌, not, Option, None, Some, is_some, option_map, List, [], ◌∷◌, ◌++◌, slice_get, length, count_by, codes, if◌then◌else◌}
use Rattle.std.specs.Option.{option_or}
use Rattle.std.specs.Fmt.{decimal}
use Rattle.std.specs.List.{find, list_any}
use Rattle.fs_kinds.specs.declared.reason.OperationName.{OperationName as Name}
use Rattle.fs_kinds.specs.ReasonText.{operation_name}
use Rattle.fs_model.specs.declared.test.Test.{Test}
use Rattle.fs_model.specs.declared.step.Step.{Step}
use Rattle.fs_model.specs.Condition.{Condition, condition_of, RegisterIs, LocationIs, Deny, Both, Either}
use Rattle.fs_model.specs.Numbers.{is_same, numbers_below}
use Rattle.fs_model.specs.Printed.{name_of, value_text}
use Rattle.fs_model.specs.Test.{address_of}
use Rattle.fs_model.specs.Execution.{initial_words}
use Rattle.fs_model.specs.Shows.{final_register, is_outcome}
use Rattle.fs_cert_evidence.specs.Certificate.{Cycles, Listed, Inferred, Inference, Cycle, Stale, Reversed, Parted}
use Rattle.fs_cert_evidence.specs.Musts.{traces_of}
use Rattle.fs_cert_evidence.specs.Regions.{same_name}

-- such as `1 test` and `2 tests`
abbrev pub counted : ℕ → List ℕ → List ℕ
counted n word = decimal n ++ codes " " ++ word ++ (if n == 1 then [] else codes "s")

-- ---- an outcome that is forbidden: by what shows it

-- The inference ends candidates by a contradiction: a cycle, a stale load, or broken atomicity.
abbrev pub is_contradiction : Inference → Bool
is_contradiction (Cycle links) = true
is_contradiction (Stale load store) = true
is_contradiction (Reversed load store) = true
is_contradiction (Parted load store other) = true
is_contradiction _ = false

-- the cycles of a list, or the contradictions of a refutation
abbrev pub contradictions_in : Cycles → ℕ
contradictions_in (Listed cycles) = length cycles
contradictions_in (Inferred inferences) = count_by is_contradiction inferences

-- Where there are none: a list without cycles is of no candidates, and a refutation without contradictions takes each
-- run away, as some load has no store to return from.
abbrev pub no_contradictions : Cycles → List ℕ
no_contradictions (Listed cycles) = codes "no candidate shows it"
no_contradictions (Inferred inferences) = codes "no sources for its loads"

abbrev pub forbidden_words : Cycles → List ℕ
forbidden_words cycles =
    if contradictions_in cycles == 0 then no_contradictions cycles else counted (contradictions_in cycles) (codes "contradiction")

-- ---- an outcome that is possible: by the order of an execution that shows it

-- the least position before the name's in its code whose operation is among these
abbrev pub overtaken : Name → List Name → Option ℕ
overtaken name later = find (λ at. list_any (same_name (record { hart = name.hart; at = at })) later) (numbers_below name.at)

abbrev pub pair_at : Name → ℕ → Name × Name
pair_at name at = (name, record { hart = name.hart; at = at })

-- The first operation of an order that stands before one which is earlier in its hart's code, and the earliest such
-- one. Branches go forward, so what is earlier in the code is earlier in program order.
abbrev pub overtaking : List Name → Option (Name × Name)
overtaking [] = None
overtaking (name ∷ later) = option_or (option_map (pair_at name) (overtaken name later)) (overtaking later)

abbrev pub order_words : Option (Name × Name) → List ℕ
order_words None = codes "in program order"
order_words (Some (first, second)) =
    operation_name first ++ (codes " comes to memory before " ++ operation_name second)

-- ---- an outcome that is vacuous: over all runs of each hart

-- the step stores the word at the location
abbrev pub stores_word : ℕ → ℕ → Step → Bool
stores_word location word s = is_same s.address (Some (address_of location)) && is_same s.stored (Some word)

-- how many atoms it has
abbrev pub atoms : Condition → ℕ
atoms (RegisterIs hart reg word) = 1
atoms (LocationIs location word) = 1
atoms (Deny c) = atoms c
atoms (Both c d) = atoms c + atoms d
atoms (Either c d) = atoms c + atoms d
atoms _ = 0

-- as many as are looked at to name one
abbrev pub most_named : ℕ
most_named = 100

-- the atom to blame of two parts, both of which are needed or one of which is enough
abbrev pub of_two : Bool → Option Condition → Option Condition → Option Condition
of_two both left right = if both then option_or left right else (if is_some right then left else None)

module _ (t : Test) (runs : ℕ → List (List Step)) where
  -- some run of the hart ends with the word in the register
  abbrev pub ends_as : (hart reg word : ℕ) → Bool
  ends_as hart reg word = list_any (λ run. final_register t (traces_of t hart run) hart reg == word) (runs hart)

  -- some run of some hart stores the word at the location
  abbrev pub is_stored : (location word : ℕ) → Bool
  is_stored location word =
      list_any (λ hart. list_any (list_any (stores_word location word)) (runs hart)) (numbers_below (length t.codes))

  -- the location begins with the word, or some run stores it there
  abbrev pub can_have : (location word : ℕ) → Bool
  can_have location word = is_same (slice_get (initial_words t) location) (Some word) || is_stored location word

  -- The first atom in the order of the text that must be true, where the condition is to have this truth value, and
  -- that nothing makes true. Of two parts one of which is enough it is that of the left one, where both have one.
  abbrev pub first_never : Condition → Bool → Option Condition
  first_never (RegisterIs hart reg word) v =
      if v && not (ends_as hart reg word) then Some (RegisterIs hart reg word) else None
  first_never (LocationIs location word) v =
      if v && not (can_have location word) then Some (LocationIs location word) else None
  first_never (Deny c) v = first_never c (not v)
  first_never (Both c d) v = of_two v (first_never c v) (first_never d v)
  first_never (Either c d) v = of_two (not v) (first_never c v) (first_never d v)
  first_never _ v = None

  -- that of the outcome; of a condition of many atoms none is named
  abbrev pub never_in_outcome : Option Condition
  never_in_outcome =
      if nat_lt most_named (atoms (condition_of t.condition)) then None
      else first_never (condition_of t.condition) (is_outcome t.quantifier true)

-- the words for the atom that nothing makes true, if there is one
abbrev pub never_words : Test → Option Condition → List ℕ
never_words t (Some (LocationIs location word)) =
    codes "nothing stores " ++ (value_text t.locations word ++ (codes " to " ++ name_of t.locations location))
never_words t (Some (RegisterIs hart reg word)) =
    codes "x" ++ (decimal reg ++ (codes " of P" ++ (decimal hart ++ (codes " never ends as " ++ value_text t.locations word))))
never_words t _ = codes "no runs end so"

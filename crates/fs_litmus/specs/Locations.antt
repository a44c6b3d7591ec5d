-- A test's locations: names, declared by first appearance, as a target or a value of the initial values or of the
-- condition (herd7's format of litmus tests).
use Rattle.std.specs.Prelude.{ℕ, List, [], ◌∷◌, ◌++◌, Option, map, position, if◌then◌else◌}
use Rattle.std.specs.List.{list_any}
use Rattle.std.specs.Str.{bytes_eq}
use Rattle.std.specs.Borrow.{Bor}
use Rattle.fs_litmus_tokens.specs.Values.{Target, Register, Location, Value, Number, Address}

abbrev pub Names : Type 0
Names = List (List ℕ)

-- a name that isn't there yet goes last
abbrev pub with_name : Names → List ℕ → Names
with_name names w = if list_any (bytes_eq w) names then names else names ++ w ∷ []

abbrev pub with_target : Names → Target → Names
with_target names (Register h r) = names
with_target names (Location w) = with_name names w

abbrev pub with_value : Names → Value → Names
with_value names (Number n d) = names
with_value names (Address w) = with_name names w

-- what is said of a target: a value that it begins with, or that a condition asks about
abbrev pub Binding : Type 0
Binding = Target × Value

-- the names with those that the bindings declare, the target of each before its value
abbrev pub declared : Names → List Binding → Names
declared names [] = names
declared names (b ∷ bs) = declared (with_value (with_target names b.0) b.1) bs

-- the number of a location, counted from 0
abbrev pub number_of_location : Names → List ℕ → Option ℕ
number_of_location names w = position (bytes_eq w) names

-- ---- what the reader's values stand for

abbrev pub texts : List (Bor (List ℕ)) → Names
texts keys = map (λ k. k.now) keys

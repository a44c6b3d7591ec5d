-- What is left of a condition where some words are known.
use Rattle.std.specs.Prelude.{ℕ, ◌==◌, Bool, true, false, Option, None, Some}
use Rattle.fs_model.specs.Condition.{Condition, Always, Never, RegisterIs, LocationIs, Deny, Both, Either}
use Rattle.fs_judge_outcomes.specs.declared.settled.Shape.{Shape}
use Rattle.fs_judge_outcomes.specs.declared.settled.Shape.TheVariants as shape

abbrev pub truth_of : Bool → Condition
truth_of true = Always
truth_of false = Never

abbrev pub shape_of : Condition → Shape
shape_of Always = shape.Always
shape_of Never = shape.Never
shape_of _ = shape.Open

-- an atom, where this is known of its word
abbrev pub settled_atom : Condition → (word : ℕ) → Option ℕ → Condition
settled_atom atom word None = atom
settled_atom atom word (Some known) = truth_of (known == word)

abbrev pub denied_by : Shape → Condition → Condition
denied_by shape.Always c = Never
denied_by shape.Never c = Always
denied_by shape.Open c = Deny c

abbrev pub both_by : Shape → Shape → Condition → Condition → Condition
both_by shape.Always _ c d = d
both_by shape.Never _ c d = Never
both_by shape.Open shape.Always c d = c
both_by shape.Open shape.Never c d = Never
both_by shape.Open shape.Open c d = Both c d

abbrev pub either_by : Shape → Shape → Condition → Condition → Condition
either_by shape.Always _ c d = Always
either_by shape.Never _ c d = d
either_by shape.Open shape.Always c d = Always
either_by shape.Open shape.Never c d = c
either_by shape.Open shape.Open c d = Either c d

abbrev pub denied : Condition → Condition
denied c = denied_by (shape_of c) c

abbrev pub both : Condition → Condition → Condition
both c d = both_by (shape_of c) (shape_of d) c d

abbrev pub either : Condition → Condition → Condition
either c d = either_by (shape_of c) (shape_of d) c d

-- the condition, where these words of registers and locations are known
abbrev pub settled : (register : ℕ → ℕ → Option ℕ) → (location : ℕ → Option ℕ) → Condition → Condition
settled register location Always = Always
settled register location Never = Never
settled register location (RegisterIs hart reg w) = settled_atom (RegisterIs hart reg w) w (register hart reg)
settled register location (LocationIs k w) = settled_atom (LocationIs k w) w (location k)
settled register location (Deny c) = denied (settled register location c)
settled register location (Both c d) = both (settled register location c) (settled register location d)
settled register location (Either c d) = either (settled register location c) (settled register location d)

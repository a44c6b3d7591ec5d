-- What a condition means: its atoms, the condition as it is grouped, and how deep it is.
use Rattle.std.specs.Prelude.{ℕ, ◌+◌, max, List, [], ◌∷◌, ◌++◌}
use Rattle.fs_litmus_tokens.specs.Values.{Target, Value}
use Rattle.fs_litmus_syntax.specs.Grammar as syntax
use Rattle.fs_litmus_syntax.specs.Grammar.{Syntax}

pub data Condition : Type 0 where
  Atom : Target → Value → Condition
  True : Condition
  False : Condition
  Deny : Condition → Condition
  Both : Condition → Condition → Condition
  Either : Condition → Condition → Condition

-- the condition without its parentheses
abbrev pub condition_of : Syntax → Condition
condition_of (syntax.Atom t v) = Atom t v
condition_of syntax.True = True
condition_of syntax.False = False
condition_of (syntax.Deny s) = Deny (condition_of s)
condition_of (syntax.Group s) = condition_of s
condition_of (syntax.Both a b) = Both (condition_of a) (condition_of b)
condition_of (syntax.Either a b) = Either (condition_of a) (condition_of b)

-- its atoms, in order of appearance
abbrev pub atoms_of : Syntax → List (Target × Value)
atoms_of (syntax.Atom t v) = (t, v) ∷ []
atoms_of syntax.True = []
atoms_of syntax.False = []
atoms_of (syntax.Deny s) = atoms_of s
atoms_of (syntax.Group s) = atoms_of s
atoms_of (syntax.Both a b) = atoms_of a ++ atoms_of b
atoms_of (syntax.Either a b) = atoms_of a ++ atoms_of b

-- the greatest number, around an atom, true or false, of parentheses and denials in the text
abbrev pub written_depth : Syntax → ℕ
written_depth (syntax.Atom t v) = 0
written_depth syntax.True = 0
written_depth syntax.False = 0
written_depth (syntax.Deny s) = written_depth s + 1
written_depth (syntax.Group s) = written_depth s + 1
written_depth (syntax.Both a b) = max (written_depth a) (written_depth b)
written_depth (syntax.Either a b) = max (written_depth a) (written_depth b)

-- the greatest number, around an atom, true or false, of connectives and denials in the condition as it is grouped
abbrev pub grouped_depth : Condition → ℕ
grouped_depth (Atom t v) = 0
grouped_depth True = 0
grouped_depth False = 0
grouped_depth (Deny c) = grouped_depth c + 1
grouped_depth (Both a b) = max (grouped_depth a) (grouped_depth b) + 1
grouped_depth (Either a b) = max (grouped_depth a) (grouped_depth b) + 1

abbrev pub depth_of : Syntax → ℕ
depth_of s = max (written_depth s) (grouped_depth (condition_of s))

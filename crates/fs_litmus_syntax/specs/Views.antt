-- What the reader's values stand for.
use Rattle.std.specs.Prelude.{◌≡◌, Option, Some, None, Result, Ok, Err, List, [], ◌∷◌, map, option_map}
use Rattle.fs_litmus_tokens.specs.Tokens.{Lined, views}
use Rattle.fs_litmus_tokens.specs.Sections.{Move, Go, Finish, Bad}
use Rattle.fs_litmus_tokens.specs.Values.{Target, Value, target_of, value_of}
use Rattle.fs_litmus_tokens.specs.declared.values.Stop.{Stop}
use Rattle.fs_litmus_tokens.specs.declared.values.Stop.TheVariants.{Memory, At}
use Rattle.fs_litmus_syntax.specs.declared.condition.Atom as atoms
use Rattle.fs_litmus_syntax.specs.declared.condition.Tree.{Tree}
use Rattle.fs_litmus_syntax.specs.declared.condition.Tree.TheVariants as trees
use Rattle.fs_litmus_syntax.specs.declared.condition.Condition as conditions
use Rattle.fs_litmus_syntax.specs.declared.subformula.Connective.{Connective}
use Rattle.fs_litmus_syntax.specs.declared.subformula.Connective.TheVariants as connectives
use Rattle.fs_litmus_syntax.specs.declared.subformula.Subformula.{Subformula}
use Rattle.fs_litmus_syntax.specs.declared.subformula.Subformula.TheVariants as parts
use Rattle.fs_litmus_syntax.specs.declared.atom.AtomPlace as places
use Rattle.fs_litmus_syntax.specs.declared.atom.AtomPlace.TheVariants as atom_places
use Rattle.fs_litmus_syntax.specs.declared.atom.AtomStep.{AtomStep}
use Rattle.fs_litmus_syntax.specs.declared.atom.AtomStep.TheVariants as steps
use Rattle.fs_litmus_syntax.specs.declared.layer.Layer.{Layer}
use Rattle.fs_litmus_syntax.specs.declared.reader.Place as spots
use Rattle.fs_litmus_syntax.specs.declared.reader.Place.TheVariants as spot
use Rattle.fs_litmus_syntax.specs.declared.reader.Reader.{Reader}
use Rattle.fs_litmus_syntax.specs.Meaning.{Condition, Atom, True, False, Deny, Both, Either}
use Rattle.fs_litmus_syntax.specs.Machine.{AtomPlace, AfterHart, AfterColon, AfterBracket, AfterName, AfterTarget, AfterLess, AfterBang, AfterEquals, BeforeValue, AfterMinus, Found, Frame, Place, Begin, AfterNot, AfterWord, AfterWordEquals, InAtom, AfterUnit, Implying, Whole, State}
use Rattle.fs_litmus_syntax.specs.Limited.{Bounded, Deep, Fine}

abbrev pub atom_of : atoms.Atom → Target × Value
atom_of a = (target_of a.target, value_of a.value)

-- the condition that a tree is
abbrev pub tree_of : Tree → Condition
tree_of (trees.Atom a) = Atom (target_of a.target) (value_of a.value)
tree_of trees.True = True
tree_of trees.False = False
tree_of (trees.Deny' p c) = Deny (tree_of c)
tree_of (trees.Both' p a q b) = Both (tree_of a) (tree_of b)
tree_of (trees.Either' p a q b) = Either (tree_of a) (tree_of b)

abbrev pub connective_of : Connective → Condition → Condition → Condition
connective_of connectives.And = Both
connective_of connectives.Or = Either

abbrev pub subformula_of : Subformula → Bounded
subformula_of parts.TooDeep = Deep
subformula_of (parts.Shallow w g b) = Fine w g (tree_of b.value)

abbrev pub atom_place_of : places.AtomPlace → AtomPlace
atom_place_of (atom_places.AfterHart h) = AfterHart h.now
atom_place_of (atom_places.AfterColon h) = AfterColon h.now
atom_place_of atom_places.AfterBracket = AfterBracket
atom_place_of (atom_places.AfterName w) = AfterName w.now
atom_place_of (atom_places.AfterTarget t) = AfterTarget (target_of t)
atom_place_of (atom_places.AfterLess t) = AfterLess (target_of t)
atom_place_of (atom_places.AfterBang t) = AfterBang (target_of t)
atom_place_of (atom_places.AfterEquals t) = AfterEquals (target_of t)
atom_place_of (atom_places.BeforeValue denies t) = BeforeValue denies (target_of t)
atom_place_of (atom_places.AfterMinus denies t) = AfterMinus denies (target_of t)

abbrev pub atom_step_of : AtomStep → Move AtomPlace Found
atom_step_of (steps.Go p) = Go (atom_place_of p)
atom_step_of (steps.Done denies a) = Finish (denies, target_of a.target, value_of a.value)
atom_step_of steps.Bad = Bad

abbrev pub layer_of : Layer → Frame Bounded
layer_of l = record { premises = option_map subformula_of l.premises; sum = option_map subformula_of l.sum; product = option_map subformula_of l.product; denials = l.denials }

abbrev pub place_of : spots.Place → Place Bounded
place_of spot.Begin = Begin
place_of (spot.AfterNot w) = AfterNot w.now
place_of (spot.AfterWord b w) = AfterWord b w.now
place_of (spot.AfterWordEquals b w) = AfterWordEquals b w.now
place_of (spot.InAtom p) = InAtom (atom_place_of p)
place_of (spot.AfterUnit u) = AfterUnit (subformula_of u)
place_of (spot.Implying u) = Implying (subformula_of u)
place_of (spot.Whole x) = Whole (subformula_of x)

-- the innermost layer is the last
abbrev pub below_of : List Layer → List (Frame Bounded) → List (Frame Bounded)
below_of [] fs = fs
below_of (l ∷ ls) fs = below_of ls (layer_of l ∷ fs)

abbrev pub reader_of : Reader → State Bounded
reader_of r = record { place = place_of r.place; frame = layer_of r.layer; below = below_of r.below.items [] }

-- the tree of a subformula, where it isn't too deep
abbrev pub shallow : Bounded → Option Condition
shallow Deep = None
shallow (Fine w g c) = Some c

-- what was returned is what reading gives, unless memory ran out
abbrev pub Fails : Stop → Result (Bounded × List (Target × Value)) (List Lined) → Type 0
Fails Memory r = Unit {0}
Fails (At rest) r = r ≡ Err (views rest.now)

-- the condition that was returned is what reading gives
pub record Is (c : conditions.Condition) (b : Bounded) (found : List (Target × Value)) : Type 0 where
  pub atoms : map atom_of c.atoms.items ≡ found
  pub tree : option_map tree_of c.tree ≡ shallow b

abbrev pub IsOf : conditions.Condition → Result (Bounded × List (Target × Value)) (List Lined) → Type 0
IsOf c (Ok x) = Is c x.0 x.1
IsOf c (Err rest) = ⊥

abbrev pub Gives : Result conditions.Condition Stop → Result (Bounded × List (Target × Value)) (List Lined) → Type 0
Gives (Ok c) r = IsOf c r
Gives (Err e) r = Fails e r

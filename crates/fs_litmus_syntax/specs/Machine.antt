-- What the reader of conditions does, over any values for the parts of a condition.
use Rattle.std.specs.Prelude.{ℕ, zero, suc, ◌+◌, List, [], ◌∷◌, ◌++◌, Bool, true, false, if◌then◌else◌, Option, Some, None, Result, Ok, Err}
use Rattle.fs_litmus_tokens.specs.Tokens.{Tok, Lined, Word, Sign}
use Rattle.fs_litmus_tokens.specs.Sections.{Move, Go, Finish, Bad}
use Rattle.fs_litmus_tokens.specs.Values.{Target, Register, Location, Value, Number, Address}
use Rattle.fs_litmus_tokens.specs.declared.word.Class.TheVariants as class
use Rattle.fs_litmus_tokens.specs.declared.token.Mark.TheVariants.{Colon, Equals, Less, Greater, Bang, OpenBracket, CloseBracket, Minus, Tilde, OpenParen, CloseParen, And, Or, Semicolon}

-- ---- atoms

-- what was read last of an atom
pub data AtomPlace : Type 0 where
  AfterHart : (hart : List ℕ) → AtomPlace
  AfterColon : (hart : List ℕ) → AtomPlace
  AfterBracket : AtomPlace
  AfterName : (name : List ℕ) → AtomPlace
  AfterTarget : Target → AtomPlace
  AfterLess : Target → AtomPlace
  AfterBang : Target → AtomPlace
  AfterEquals : Target → AtomPlace
  -- the sign is whole, and denies that they are equal or doesn't
  BeforeValue : (denies : Bool) → Target → AtomPlace
  AfterMinus : (denies : Bool) → Target → AtomPlace

-- an atom, and whether it is denied
abbrev pub Found : Type 0
Found = Bool × Target × Value

-- the first token of the sign after a target
abbrev pub compared_by : Target → Tok → Option AtomPlace
compared_by t (Sign Equals) = Some (AfterEquals t)
compared_by t (Sign Less) = Some (AfterLess t)
compared_by t (Sign Bang) = Some (AfterBang t)
compared_by t _ = None

abbrev pub went_to : Option AtomPlace → Move AtomPlace Found
went_to None = Bad
went_to (Some p) = Go p

abbrev pub value_begun : Bool → Target → Tok → Move AtomPlace Found
value_begun denies t (Word class.Number w) = Finish (denies, t, Number false w)
value_begun denies t (Word class.Other w) = Bad
value_begun denies t (Word c w) = Finish (denies, t, Address w)
value_begun denies t (Sign Minus) = Go (AfterMinus denies t)
value_begun denies t _ = Bad

abbrev pub next_atom : AtomPlace → Tok → Move AtomPlace Found
next_atom (AfterHart h) (Sign Colon) = Go (AfterColon h)
next_atom (AfterColon h) (Word c r) = Go (AfterTarget (Register h r))
next_atom AfterBracket (Word class.Number w) = Bad
next_atom AfterBracket (Word class.Other w) = Bad
next_atom AfterBracket (Word c w) = Go (AfterName w)
next_atom (AfterName w) (Sign CloseBracket) = Go (AfterTarget (Location w))
next_atom (AfterTarget t) u = went_to (compared_by t u)
next_atom (AfterLess t) (Sign Greater) = Go (BeforeValue true t)
next_atom (AfterBang t) (Sign Equals) = Go (BeforeValue true t)
next_atom (AfterEquals t) (Sign Equals) = Go (BeforeValue false t)
next_atom (AfterEquals t) u = value_begun false t u
next_atom (BeforeValue denies t) u = value_begun denies t u
next_atom (AfterMinus denies t) (Word class.Number w) = Finish (denies, t, Number true w)
next_atom _ _ = Bad

-- ---- conditions

-- what is made of a condition's parts
pub record Maker (X : Type 0) : Type 0 where
  pub atom : Target → Value → X
  pub truth : X
  pub falsity : X
  pub deny : X → X
  pub group : X → X
  pub both : X → X → X
  pub either : X → X → X

-- what stands before a unit inside one pair of parentheses
pub record Frame (X : Type 0) : Type 0 where
  -- the disjunctions with => behind them, denied and joined
  pub premises : Option X
  pub sum : Option X
  pub product : Option X
  pub denials : ℕ

pub data Place (X : Type 0) : Type 0 where
  Begin : Place X
  AfterNot : (word : List ℕ) → Place X
  -- one of the words true and false
  AfterWord : (says : Bool) → (word : List ℕ) → Place X
  -- the word, and =
  AfterWordEquals : (says : Bool) → (word : List ℕ) → Place X
  InAtom : AtomPlace → Place X
  AfterUnit : X → Place X
  -- = behind a unit
  Implying : X → Place X
  -- the semicolon behind this whole
  Whole : X → Place X

pub record State (X : Type 0) : Type 0 where
  pub place : Place X
  pub frame : Frame X
  pub below : List (Frame X)

abbrev pub joined : {X : Type 0} → (X → X → X) → Option X → X → X
joined f None x = x
joined f (Some a) x = f a x

abbrev pub denied : {X : Type 0} → (X → X) → ℕ → X → X
denied f zero x = x
denied f (suc n) x = f (denied f n x)

abbrev pub empty : {X : Type 0} → Frame X
empty = record { premises = None; sum = None; product = None; denials = 0 }

abbrev pub with_denial : {X : Type 0} → Frame X → Frame X
with_denial f = record { premises = f.premises; sum = f.sum; product = f.product; denials = f.denials + 1 }

abbrev pub at : {X : Type 0} → Place X → Frame X → List (Frame X) → State X
at p f fs = record { place = p; frame = f; below = fs }

-- denials that are read and not counted yet: of the word not, which may name a location
abbrev pub put_off : {X : Type 0} → Place X → ℕ
put_off (AfterNot w) = 1
put_off _ = 0

-- the whole before a semicolon
abbrev pub whole_of : {X : Type 0} → Place X → Option X
whole_of (Whole x) = Some x
whole_of _ = None

abbrev pub start : {X : Type 0} → State X
start = at Begin empty []

-- what the first word of a unit, or the bracket of an atom, begins
abbrev pub word_begun : {X : Type 0} → Tok → Option (Place X)
word_begun (Word class.Number w) = Some (InAtom (AfterHart w))
word_begun (Word class.NotWord w) = Some (AfterNot w)
word_begun (Word class.TrueWord w) = Some (AfterWord true w)
word_begun (Word class.FalseWord w) = Some (AfterWord false w)
word_begun (Word class.Other w) = None
word_begun (Word c w) = Some (InAtom (AfterTarget (Location w)))
word_begun (Sign OpenBracket) = Some (InAtom AfterBracket)
word_begun _ = None

-- a denial, or an opening parenthesis
abbrev pub mark_begun : {X : Type 0} → Frame X → List (Frame X) → Tok → Option (State X)
mark_begun f fs (Sign Tilde) = Some (at Begin (with_denial f) fs)
mark_begun f fs (Sign OpenParen) = Some (at Begin empty (f ∷ fs))
mark_begun f fs _ = None

-- a word names a location where the sign of an atom follows
abbrev pub named_or : {X : Type 0} → Option AtomPlace → Frame X → List (Frame X) → Option (State X) → Option (State X)
named_or None f fs says = says
named_or (Some p) f fs says = Some (at (InAtom p) f fs)

-- the same of the words true and false, behind which = may also be that of =>
abbrev pub word_place : {X : Type 0} → Bool → List ℕ → Tok → Option (Place X)
word_place b w (Sign Equals) = Some (AfterWordEquals b w)
word_place b w (Sign Less) = Some (InAtom (AfterLess (Location w)))
word_place b w (Sign Bang) = Some (InAtom (AfterBang (Location w)))
word_place b w t = None

abbrev pub placed_or : {X : Type 0} → Option (Place X) → Frame X → List (Frame X) → Option (State X) → Option (State X)
placed_or None f fs says = says
placed_or (Some p) f fs says = Some (at p f fs)

-- before a unit
abbrev pub next_begin : {X : Type 0} → Frame X → List (Frame X) → Tok → Option (State X)
next_begin f fs t = placed_or (word_begun t) f fs (mark_begun f fs t)

abbrev pub is_greater : Tok → Bool
is_greater (Sign Greater) = true
is_greater _ = false

-- the atoms that end with this token
abbrev pub finished : Move AtomPlace Found → List (Target × Value)
finished (Finish a) = (a.1, a.2) ∷ []
finished _ = []

abbrev pub atoms_at : {X : Type 0} → Place X → Tok → List (Target × Value)
atoms_at (InAtom p) t = finished (next_atom p t)
atoms_at (AfterWordEquals b w) t = if is_greater t then [] else finished (next_atom (AfterEquals (Location w)) t)
atoms_at _ t = []

abbrev pub placed : {X : Type 0} → Option (Place X) → Frame X → List (Frame X) → Option (State X)
placed None f fs = None
placed (Some p) f fs = Some (at p f fs)

module _ {X : Type 0} (make : Maker X) where
  abbrev pub product_of : Frame X → X → X
  product_of f u = joined make.both f.product (denied make.deny f.denials u)

  abbrev pub sum_of : Frame X → X → X
  sum_of f u = joined make.either f.sum (product_of f u)

  abbrev pub total_of : Frame X → X → X
  total_of f u = joined make.either f.premises (sum_of f u)

  abbrev pub with_unit : Frame X → X → Frame X
  with_unit f u = record { premises = f.premises; sum = f.sum; product = Some (product_of f u); denials = 0 }

  abbrev pub with_conjunction : Frame X → X → Frame X
  with_conjunction f u = record { premises = f.premises; sum = Some (sum_of f u); product = None; denials = 0 }

  abbrev pub with_premise : Frame X → X → Frame X
  with_premise f u = record { premises = Some (joined make.either f.premises (make.deny (sum_of f u))); sum = None; product = None; denials = 0 }

  -- a parenthesis closes
  abbrev pub closed : Frame X → List (Frame X) → X → Option (State X)
  closed f [] u = None
  closed f (g ∷ fs) u = Some (at (AfterUnit (make.group (total_of f u))) g fs)

  -- a semicolon stands behind the whole
  abbrev pub completed : Frame X → List (Frame X) → X → Option (State X)
  completed f [] u = Some (at (Whole (total_of f u)) empty [])
  completed f (g ∷ fs) u = None

  abbrev pub next_after : X → Frame X → List (Frame X) → Tok → Option (State X)
  next_after u f fs (Sign And) = Some (at Begin (with_unit f u) fs)
  next_after u f fs (Sign Or) = Some (at Begin (with_conjunction f u) fs)
  next_after u f fs (Sign Equals) = Some (at (Implying u) f fs)
  next_after u f fs (Sign CloseParen) = closed f fs u
  next_after u f fs (Sign Semicolon) = completed f fs u
  next_after u f fs _ = None

  -- behind a unit and =, > makes a premise
  abbrev pub implied : X → Frame X → List (Frame X) → Tok → Option (State X) → Option (State X)
  implied u f fs t otherwise = if is_greater t then Some (at Begin (with_premise f u) fs) else otherwise

  abbrev pub said : Bool → X
  said true = make.truth
  said false = make.falsity

  abbrev pub found_unit : Bool → Target → Value → X
  found_unit false t v = make.atom t v
  found_unit true t v = make.deny (make.atom t v)

  abbrev pub place_after : Move AtomPlace Found → Option (Place X)
  place_after (Go p) = Some (InAtom p)
  place_after (Finish a) = Some (AfterUnit (found_unit a.0 a.1 a.2))
  place_after Bad = None

  abbrev pub next_in : Place X → Frame X → List (Frame X) → Tok → Option (State X)
  next_in Begin f fs t = next_begin f fs t
  next_in (AfterNot w) f fs t = named_or (compared_by (Location w) t) f fs (next_begin (with_denial f) fs t)
  next_in (AfterWord b w) f fs t = placed_or (word_place b w t) f fs (next_after (said b) f fs t)
  next_in (AfterWordEquals b w) f fs t = implied (said b) f fs t (placed (place_after (next_atom (AfterEquals (Location w)) t)) f fs)
  next_in (InAtom p) f fs t = placed (place_after (next_atom p t)) f fs
  next_in (AfterUnit u) f fs t = next_after u f fs t
  next_in (Implying u) f fs t = implied u f fs t None
  next_in (Whole x) f fs t = None

  abbrev pub next : State X → Tok → Option (State X)
  next s t = next_in s.place s.frame s.below t

  -- the whole, where no parenthesis is open and the text may end
  abbrev pub end_at : Place X → Frame X → Option X
  end_at (AfterWord b w) f = Some (total_of f (said b))
  end_at (AfterUnit u) f = Some (total_of f u)
  end_at (Whole x) f = Some x
  end_at _ f = None

  -- the whole, where the text may end
  abbrev pub end_in : Place X → Frame X → List (Frame X) → Option X
  end_in p f [] = end_at p f
  end_in p f (g ∷ fs) = whole_of p

  abbrev pub end_of : State X → Option X
  end_of s = end_in s.place s.frame s.below

  -- The value of the tokens from a state on with the atoms up to their end, or the tokens from the first bad one on.
  abbrev pub ended : Option X → List (Target × Value) → Result (X × List (Target × Value)) (List Lined)
  ended None found = Err []
  ended (Some x) found = Ok (x, found)

  abbrev pub went : Option (State X) → (State X → Result (X × List (Target × Value)) (List Lined)) → List Lined → Result (X × List (Target × Value)) (List Lined)
  went None go ts = Err ts
  went (Some s) go ts = go s

  abbrev pub read : State X → List (Target × Value) → List Lined → Result (X × List (Target × Value)) (List Lined)
  read s found [] = ended (end_of s) found
  read s found (t ∷ ts) = went (next s t.0) (λ s'. read s' (found ++ atoms_at s.place t.0) ts) (t ∷ ts)

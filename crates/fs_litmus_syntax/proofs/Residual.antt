-- What the tokens to come must be, in each state of the reader, by the grammar alone.
use Rattle.std.proofs.Common.{◌≡◌, ℕ, zero, suc, ◌+◌, Bool, true, false, List, [], ◌∷◌, Option, Some, None, refl, sym, ap, ◌∙◌, subst, add-one}
use Rattle.fs_litmus_tokens.specs.Words.{is_name}
use Rattle.fs_litmus_tokens.specs.Tokens.{Tok, Lined, Word, Sign}
use Rattle.fs_litmus_tokens.specs.Values.{Target, Register, Location, Value, Number, Address, IsTarget, register, location, bracketed, IsValue, number, minus, address}
use Rattle.fs_litmus_tokens.specs.Sections.{Go, Finish}
use Rattle.fs_litmus_tokens.specs.declared.word.Class.{Class}
use Rattle.fs_litmus_tokens.specs.declared.word.Class.TheVariants as class
use Rattle.fs_litmus_tokens.specs.declared.token.Mark.TheVariants.{Colon, Equals, Less, Greater, Bang, OpenBracket, CloseBracket, Minus, Tilde, OpenParen, CloseParen, And, Or, Semicolon}
use Rattle.fs_litmus_syntax.specs.Grammar.{Syntax, Atom, True, False, Deny, Group, Both, Either, IsEqual, once, twice, IsUnequal, less_greater, bang_equals, IsUnit, atom, other, truth, falsity, tilde, denial, group, IsConjunction, unit, both, IsDisjunction, conjunction, either, ArePremises, premise, another, IsImplication, disjunction, implication, IsTextEnd, nothing, semicolon, IsCondition, complete}
use Rattle.fs_litmus_syntax.specs.Machine.{AtomPlace, AfterHart, AfterColon, AfterBracket, AfterName, AfterTarget, AfterLess, AfterBang, AfterEquals, BeforeValue, AfterMinus, compared_by, value_begun, next_atom, Maker, Frame, Place, Begin, AfterNot, AfterWord, AfterWordEquals, InAtom, AfterUnit, Implying, Whole, State, joined, denied, empty, with_denial, start, next_begin, named_or, product_of, sum_of, total_of, with_premise, next_after, said, found_unit, place_after, placed, next_in, end_in}

-- the syntax itself
abbrev pub tree : Maker Syntax
tree = record { atom = Atom; truth = True; falsity = False; deny = Deny; group = Group; both = Both; either = Either }

-- what may come after a conjunction, or a disjunction, that is read so far
data ConjunctionTail : Syntax → List Lined → Syntax → List Lined → Type 0 where
  done : {v : Syntax} {ts : List Lined} → ConjunctionTail v ts v ts
  more : {v w b : Syntax} {k : ℕ} {ts mid rest : List Lined} → IsUnit ts b mid → ConjunctionTail (Both v b) mid w rest → ConjunctionTail v ((Sign And, k) ∷ ts) w rest

data DisjunctionTail : Syntax → List Lined → Syntax → List Lined → Type 0 where
  end : {v : Syntax} {ts : List Lined} → DisjunctionTail v ts v ts
  plus : {v w b : Syntax} {k : ℕ} {ts mid rest : List Lined} → IsConjunction ts b mid → DisjunctionTail (Either v b) mid w rest → DisjunctionTail v ((Sign Or, k) ∷ ts) w rest

conjunction_tail_push : {v a b : Syntax} {k : ℕ} {ts mid rest : List Lined} → ConjunctionTail v ts a ((Sign And, k) ∷ mid) → IsUnit mid b rest → ConjunctionTail v ts (Both a b) rest
conjunction_tail_push done u = more u done
conjunction_tail_push (more x t) u = more x (conjunction_tail_push t u)

disjunction_tail_push : {v a b : Syntax} {k : ℕ} {ts mid rest : List Lined} → DisjunctionTail v ts a ((Sign Or, k) ∷ mid) → IsConjunction mid b rest → DisjunctionTail v ts (Either a b) rest
disjunction_tail_push end u = plus u end
disjunction_tail_push (plus x t) u = plus x (disjunction_tail_push t u)

-- with these premises and a disjunction read, more of them
data ImplicationTail : Option Syntax → Syntax → List Lined → Option Syntax → Syntax → List Lined → Type 0 where
  stop : {o : Option Syntax} {v : Syntax} {ts : List Lined} → ImplicationTail o v ts o v ts
  imply : {o p : Option Syntax} {v b w : Syntax} {j k : ℕ} {ts mid rest : List Lined} → IsDisjunction ts b mid → ImplicationTail (Some (joined Either o (Deny v))) b mid p w rest → ImplicationTail o v ((Sign Equals, j) ∷ (Sign Greater, k) ∷ ts) p w rest

-- a conjunction is a unit and a tail
record ConjunctionSplit (ts : List Lined) (a : Syntax) (rest : List Lined) : Type 0 where
  first : Syntax
  mid : List Lined
  is_unit : IsUnit ts first mid
  tail : ConjunctionTail first mid a rest

conjunction_split : {a : Syntax} {ts rest : List Lined} → IsConjunction ts a rest → ConjunctionSplit ts a rest
conjunction_split (unit u) = record { first = _; mid = _; is_unit = u; tail = done }
conjunction_split (both p u) =
    let s = conjunction_split p in
    record { first = s.first; mid = s.mid; is_unit = s.is_unit; tail = conjunction_tail_push s.tail u }

conjunction_join : {v a : Syntax} {ts mid rest : List Lined} → IsConjunction ts v mid → ConjunctionTail v mid a rest → IsConjunction ts a rest
conjunction_join p done = p
conjunction_join p (more u t) = conjunction_join (both p u) t

record DisjunctionSplit (ts : List Lined) (a : Syntax) (rest : List Lined) : Type 0 where
  first : Syntax
  mid : List Lined
  is_conjunction : IsConjunction ts first mid
  tail : DisjunctionTail first mid a rest

disjunction_split : {a : Syntax} {ts rest : List Lined} → IsDisjunction ts a rest → DisjunctionSplit ts a rest
disjunction_split (conjunction u) = record { first = _; mid = _; is_conjunction = u; tail = end }
disjunction_split (either p u) =
    let s = disjunction_split p in
    record { first = s.first; mid = s.mid; is_conjunction = s.is_conjunction; tail = disjunction_tail_push s.tail u }

disjunction_join : {v a : Syntax} {ts mid rest : List Lined} → IsDisjunction ts v mid → DisjunctionTail v mid a rest → IsDisjunction ts a rest
disjunction_join p end = p
disjunction_join p (plus u t) = disjunction_join (either p u) t

implication_tail_push : {o p : Option Syntax} {v w b : Syntax} {j k : ℕ} {ts mid rest : List Lined} → ImplicationTail o v ts p w ((Sign Equals, j) ∷ (Sign Greater, k) ∷ mid) → IsDisjunction mid b rest → ImplicationTail o v ts (Some (joined Either p (Deny w))) b rest
implication_tail_push stop d = imply d stop
implication_tail_push (imply x t) d = imply x (implication_tail_push t d)

record ImplicationSplit (ts : List Lined) (p : Option Syntax) (w : Syntax) (rest : List Lined) : Type 0 where
  first : Syntax
  mid : List Lined
  is_disjunction : IsDisjunction ts first mid
  tail : ImplicationTail None first mid p w rest

premises_split : {p w : Syntax} {ts mid rest : List Lined} → ArePremises ts p mid → IsDisjunction mid w rest → ImplicationSplit ts (Some p) w rest
premises_split (premise x) d = record { first = _; mid = _; is_disjunction = x; tail = imply d stop }
premises_split (another p x) d =
    let s = premises_split p x in
    record { first = s.first; mid = s.mid; is_disjunction = s.is_disjunction; tail = implication_tail_push s.tail d }

-- premises that are read, or none
data Behind : List Lined → Option Syntax → List Lined → Type 0 where
  none_yet : {ts : List Lined} → Behind ts None ts
  some : {p : Syntax} {ts rest : List Lined} → ArePremises ts p rest → Behind ts (Some p) rest

one_behind : {o : Option Syntax} {v : Syntax} {j k : ℕ} {from ts rest : List Lined} → Behind from o ts → IsDisjunction ts v ((Sign Equals, j) ∷ (Sign Greater, k) ∷ rest) → Behind from (Some (joined Either o (Deny v))) rest
one_behind none_yet d = some (premise d)
one_behind (some p) d = some (another p d)

implication_end : {o : Option Syntax} {v : Syntax} {from ts rest : List Lined} → Behind from o ts → IsDisjunction ts v rest → IsImplication from (joined Either o v) rest
implication_end none_yet d = disjunction d
implication_end (some p) d = implication p d

implication_join : {o p : Option Syntax} {v w : Syntax} {from ts mid rest : List Lined} → Behind from o ts → IsDisjunction ts v mid → ImplicationTail o v mid p w rest → IsImplication from (joined Either p w) rest
implication_join b d stop = implication_end b d
implication_join b d (imply x t) = implication_join (one_behind b d) x t

-- no tokens
pub data IsEmpty : List Lined → Type 0 where
  no_more : IsEmpty []

-- a closing parenthesis, and then a rest
pub data IsClosing : List Lined → List Lined → Type 0 where
  closing : {k : ℕ} {rest : List Lined} → IsClosing ((Sign CloseParen, k) ∷ rest) rest

-- the > of =>, and then a rest
pub data IsGreater : List Lined → List Lined → Type 0 where
  greater : {k : ℕ} {rest : List Lined} → IsGreater ((Sign Greater, k) ∷ rest) rest

-- With premises, a disjunction and a conjunction read so far inside a frame, the tokens complete the frame to a value
-- and leave a rest, of which K holds.
pub record Inside (K : List Lined → Syntax → Type 0) (premises before : Option Syntax) (read : Syntax) (ts : List Lined) : Type 0 where
  product : Syntax
  sum : Syntax
  behind : Option Syntax
  value : Syntax
  mid : List Lined
  after : List Lined
  rest : List Lined
  products : ConjunctionTail read ts product mid
  sums : DisjunctionTail (joined Either before product) mid sum after
  implications : ImplicationTail premises sum after behind value rest
  then : K rest (joined Either behind value)

-- With a value of the innermost frame read, the tokens close the frames around it and the text, whose syntax is c.
abbrev pub Closes : List (Frame Syntax) → Syntax → List Lined → Syntax → Type 0
Closes [] c m w = IsTextEnd m × (w ≡ c)
Closes (g ∷ fs) c m w = (r : List Lined) × IsClosing m r × Inside (Closes fs c) g.premises g.sum (product_of tree g (Group w)) r

-- after a unit
abbrev pub UnitRead : Frame Syntax → List (Frame Syntax) → Syntax → List Lined → Syntax → Type 0
UnitRead f fs u ts c = Inside (Closes fs c) f.premises f.sum (product_of tree f u) ts

-- a unit, and what comes after it
pub record UnitTo (f : Frame Syntax) (fs : List (Frame Syntax)) (ts : List Lined) (c : Syntax) : Type 0 where
  value : Syntax
  mid : List Lined
  is_unit : IsUnit ts value mid
  then : UnitRead f fs value mid c

-- > behind a unit and =, and then a unit, and what comes after it
pub record ImpliedTo (f : Frame Syntax) (fs : List (Frame Syntax)) (u : Syntax) (ts : List Lined) (c : Syntax) : Type 0 where
  mid : List Lined
  is_greater : IsGreater ts mid
  then : UnitTo (with_premise tree f u) fs mid c

-- the rest of an atom, which becomes this target with this value, denied or not
pub data AtomLeft : AtomPlace → Bool → List Lined → Target → Value → List Lined → Type 0 where
  after_hart : {h : List ℕ} {k : ℕ} {d : Bool} {ts rest : List Lined} {t : Target} {v : Value} → AtomLeft (AfterColon h) d ts t v rest → AtomLeft (AfterHart h) d ((Sign Colon, k) ∷ ts) t v rest
  after_colon : {h r : List ℕ} {c : Class} {k : ℕ} {d : Bool} {ts rest : List Lined} {t : Target} {v : Value} → AtomLeft (AfterTarget (Register h r)) d ts t v rest → AtomLeft (AfterColon h) d ((Word c r, k) ∷ ts) t v rest
  after_bracket : {w : List ℕ} {c : Class} {k : ℕ} {d : Bool} {ts rest : List Lined} {t : Target} {v : Value} → is_name c ≡ true → AtomLeft (AfterName w) d ts t v rest → AtomLeft AfterBracket d ((Word c w, k) ∷ ts) t v rest
  after_name : {w : List ℕ} {k : ℕ} {d : Bool} {ts rest : List Lined} {t : Target} {v : Value} → AtomLeft (AfterTarget (Location w)) d ts t v rest → AtomLeft (AfterName w) d ((Sign CloseBracket, k) ∷ ts) t v rest
  target_equals : {s t : Target} {k : ℕ} {d : Bool} {ts rest : List Lined} {v : Value} → AtomLeft (AfterEquals s) d ts t v rest → AtomLeft (AfterTarget s) d ((Sign Equals, k) ∷ ts) t v rest
  target_less : {s t : Target} {k : ℕ} {d : Bool} {ts rest : List Lined} {v : Value} → AtomLeft (AfterLess s) d ts t v rest → AtomLeft (AfterTarget s) d ((Sign Less, k) ∷ ts) t v rest
  target_bang : {s t : Target} {k : ℕ} {d : Bool} {ts rest : List Lined} {v : Value} → AtomLeft (AfterBang s) d ts t v rest → AtomLeft (AfterTarget s) d ((Sign Bang, k) ∷ ts) t v rest
  after_less : {s t : Target} {k : ℕ} {d : Bool} {ts rest : List Lined} {v : Value} → AtomLeft (BeforeValue true s) d ts t v rest → AtomLeft (AfterLess s) d ((Sign Greater, k) ∷ ts) t v rest
  after_bang : {s t : Target} {k : ℕ} {d : Bool} {ts rest : List Lined} {v : Value} → AtomLeft (BeforeValue true s) d ts t v rest → AtomLeft (AfterBang s) d ((Sign Equals, k) ∷ ts) t v rest
  equals_equals : {s t : Target} {k : ℕ} {d : Bool} {ts rest : List Lined} {v : Value} → AtomLeft (BeforeValue false s) d ts t v rest → AtomLeft (AfterEquals s) d ((Sign Equals, k) ∷ ts) t v rest
  after_equals : {t : Target} {ts rest : List Lined} {v : Value} → IsValue ts v rest → AtomLeft (AfterEquals t) false ts t v rest
  before_value : {t : Target} {d : Bool} {ts rest : List Lined} {v : Value} → IsValue ts v rest → AtomLeft (BeforeValue d t) d ts t v rest
  after_minus : {t : Target} {d : Bool} {w : List ℕ} {k : ℕ} {rest : List Lined} → AtomLeft (AfterMinus d t) d ((Word class.Number w, k) ∷ rest) t (Number true w) rest

-- the rest of an atom, and what comes after it
pub record AtomTo (p : AtomPlace) (f : Frame Syntax) (fs : List (Frame Syntax)) (ts : List Lined) (c : Syntax) : Type 0 where
  target : Target
  value : Value
  denies : Bool
  mid : List Lined
  is_atom : AtomLeft p denies ts target value mid
  then : UnitRead f fs (found_unit tree denies target value) mid c

-- a word names a location, or it is what it says
pub data Decided (A B : Type 0) : Type 0 where
  names : A → Decided A B
  says : B → Decided A B

-- the tokens to come, in each state
abbrev pub LeftIn : Place Syntax → Frame Syntax → List (Frame Syntax) → List Lined → Syntax → Type 0
LeftIn Begin f fs ts c = UnitTo f fs ts c
LeftIn (AfterNot w) f fs ts c = Decided (AtomTo (AfterTarget (Location w)) f fs ts c) (UnitTo (with_denial f) fs ts c)
LeftIn (AfterWord b w) f fs ts c = Decided (AtomTo (AfterTarget (Location w)) f fs ts c) (UnitRead f fs (said tree b) ts c)
LeftIn (AfterWordEquals b w) f fs ts c = Decided (AtomTo (AfterEquals (Location w)) f fs ts c) (ImpliedTo f fs (said tree b) ts c)
LeftIn (InAtom p) f fs ts c = AtomTo p f fs ts c
LeftIn (AfterUnit u) f fs ts c = UnitRead f fs u ts c
LeftIn (Implying u) f fs ts c = ImpliedTo f fs u ts c
LeftIn (Whole w) f fs ts c = IsEmpty ts × (w ≡ c)

abbrev pub Left : State Syntax → List Lined → Syntax → Type 0
Left s ts c = LeftIn s.place s.frame s.below ts c

abbrev pub LeftOf : Option (State Syntax) → List Lined → Syntax → Type 0
LeftOf None ts c = ⊥
LeftOf (Some s) ts c = Left s ts c

-- one more denial
denied_swap : (f : Syntax → Syntax) (n : ℕ) (u : Syntax) → f (denied f n u) ≡ denied f n (f u)
denied_swap f zero u = refl
denied_swap f (suc n) u = ap f (denied_swap f n u)

denied_more : (f : Syntax → Syntax) (n : ℕ) (u : Syntax) → denied f n (f u) ≡ denied f (n + 1) u
denied_more f n u = rw add-one (sym (denied_swap f n u))

one_more_denial : (f : Frame Syntax) (u : Syntax) → product_of tree f (Deny u) ≡ product_of tree (with_denial f) u
one_more_denial f u = ap (joined Both f.product) (denied_more Deny f.denials u)

with_one_denial : {ts mid : List Lined} {u : Syntax} (c : Syntax) (f : Frame Syntax) (fs : List (Frame Syntax)) → IsUnit ts u mid → UnitRead f fs (Deny u) mid c → UnitTo (with_denial f) fs ts c
with_one_denial {mid = m} {u = u} c f fs x k =
    record { value = u; mid = m; is_unit = x; then = subst (λ p. Inside (Closes fs c) f.premises f.sum p m) (one_more_denial f u) k }

without_denial : {ts mid : List Lined} {u : Syntax} (c : Syntax) (f : Frame Syntax) (fs : List (Frame Syntax)) → IsUnit ts (Deny u) mid → UnitRead (with_denial f) fs u mid c → UnitTo f fs ts c
without_denial {mid = m} {u = u} c f fs x k =
    record { value = Deny u; mid = m; is_unit = x; then = subst (λ p. Inside (Closes fs c) f.premises f.sum p m) (sym (one_more_denial f u)) k }

-- a unit's first token
named_begin : (n : Class) (w : List ℕ) (f : Frame Syntax) (fs : List (Frame Syntax)) (ts : List Lined) (c : Syntax) → is_name n ≡ true → AtomTo (AfterTarget (Location w)) f fs ts c → LeftOf (next_begin f fs (Word n w)) ts c
named_begin class.Number w f fs ts c e h = absurd (cc)
named_begin class.Other w f fs ts c e h = absurd (cc)
named_begin class.NotWord w f fs ts c e h = names h
named_begin class.TrueWord w f fs ts c e h = names h
named_begin class.FalseWord w f fs ts c e h = names h
named_begin _ w f fs ts c e h = h

equal_left : {s : Target} {v : Value} {ts after rest : List Lined} → IsEqual ts after → IsValue after v rest → AtomLeft (AfterTarget s) false ts s v rest
equal_left once iv = target_equals (after_equals iv)
equal_left twice iv = target_equals (equals_equals (before_value iv))

unequal_left : {s : Target} {v : Value} {ts after rest : List Lined} → IsUnequal ts after → IsValue after v rest → AtomLeft (AfterTarget s) true ts s v rest
unequal_left less_greater iv = target_less (after_less (before_value iv))
unequal_left bang_equals iv = target_bang (after_bang (before_value iv))

-- a disjunction, where nothing is read yet behind the premises
opened : {ts mid rest : List Lined} {v w : Syntax} {o p : Option Syntax} (c : Syntax) (fs : List (Frame Syntax)) → IsDisjunction ts v mid → ImplicationTail o v mid p w rest → Closes fs c rest (joined Either p w) → UnitTo (record { premises = o; sum = None; product = None; denials = 0 }) fs ts c
opened {mid = m} {rest = r} {v = v} {w = w} {p = p} c fs d t k =
    let s = disjunction_split d in
    let q = conjunction_split s.is_conjunction in
    record { value = q.first; mid = q.mid; is_unit = q.is_unit; then = record { product = s.first; sum = v; behind = p; value = w; mid = s.mid; after = m; rest = r; products = q.tail; sums = s.tail; implications = t; then = k } }

group_forward : {s : Syntax} {j : ℕ} {ts m : List Lined} (c : Syntax) (f : Frame Syntax) (fs : List (Frame Syntax)) → IsImplication ts s ((Sign CloseParen, j) ∷ m) → UnitRead f fs (Group s) m c → UnitTo empty (f ∷ fs) ts c
group_forward {m = m} c f fs (disjunction d) k = opened c (f ∷ fs) d stop (m, closing, k)
group_forward {m = m} c f fs (implication p d) k =
    let s = premises_split p d in
    opened c (f ∷ fs) s.is_disjunction s.tail (m, closing, k)

begin_forward : {x : Lined} {ts mid : List Lined} {u : Syntax} (c : Syntax) (f : Frame Syntax) (fs : List (Frame Syntax)) → IsUnit (x ∷ ts) u mid → UnitRead f fs u mid c → LeftOf (next_begin f fs x.0) ts c
begin_forward {mid = m} c f fs (atom {t = t} {v = v} register q iv) k =
    record { target = t; value = v; denies = false; mid = m; is_atom = after_hart (after_colon (equal_left q iv)); then = k }
begin_forward {mid = m} c f fs (atom {v = v} (location {w = w} {c = n} e) q iv) k =
    named_begin n w f fs _ c e (record { target = Location w; value = v; denies = false; mid = m; is_atom = equal_left q iv; then = k })
begin_forward {mid = m} c f fs (atom {t = t} {v = v} (bracketed e) q iv) k =
    record { target = t; value = v; denies = false; mid = m; is_atom = after_bracket e (after_name (equal_left q iv)); then = k }
begin_forward {mid = m} c f fs (other {t = t} {v = v} register q iv) k =
    record { target = t; value = v; denies = true; mid = m; is_atom = after_hart (after_colon (unequal_left q iv)); then = k }
begin_forward {mid = m} c f fs (other {v = v} (location {w = w} {c = n} e) q iv) k =
    named_begin n w f fs _ c e (record { target = Location w; value = v; denies = true; mid = m; is_atom = unequal_left q iv; then = k })
begin_forward {mid = m} c f fs (other {t = t} {v = v} (bracketed e) q iv) k =
    record { target = t; value = v; denies = true; mid = m; is_atom = after_bracket e (after_name (unequal_left q iv)); then = k }
begin_forward c f fs truth k = says k
begin_forward c f fs falsity k = says k
begin_forward c f fs (tilde x) k = with_one_denial c f fs x k
begin_forward c f fs (denial x) k = says (with_one_denial c f fs x k)
begin_forward c f fs (group x) k = group_forward c f fs x k

close_forward : {x : Lined} {ts r : List Lined} {read : Syntax} (u c : Syntax) (f g : Frame Syntax) (fs : List (Frame Syntax)) → read ≡ product_of tree f u → IsClosing (x ∷ ts) r → UnitRead g fs (Group (joined Either f.premises (joined Either f.sum read))) r c → LeftOf (next_after tree u f (g ∷ fs) x.0) ts c
close_forward {r = r} u c f g fs e closing k = subst (λ q. UnitRead g fs (Group (joined Either f.premises (joined Either f.sum q))) r c) e k

semicolon_forward : {x : Lined} {ts : List Lined} {read : Syntax} (u c : Syntax) (f : Frame Syntax) → read ≡ product_of tree f u → IsTextEnd (x ∷ ts) → joined Either f.premises (joined Either f.sum read) ≡ c → LeftOf (next_after tree u f [] x.0) ts c
semicolon_forward u c f e semicolon k = (no_more, ap (λ q. joined Either f.premises (joined Either f.sum q)) (sym e) ∙ k)

after_forward : {x : Lined} {ts mid after rest : List Lined} {read p v w : Syntax} {o : Option Syntax} (u c : Syntax) (f : Frame Syntax) (fs : List (Frame Syntax)) → read ≡ product_of tree f u → ConjunctionTail read (x ∷ ts) p mid → DisjunctionTail (joined Either f.sum p) mid v after → ImplicationTail f.premises v after o w rest → Closes fs c rest (joined Either o w) → LeftOf (next_after tree u f fs x.0) ts c
after_forward {mid = m} {after = a} {rest = r} {p = p} {v = v} {w = w} {o = o} u c f fs e (more {b = b} {ts = ts} {mid = m1} x tail) sums implications k =
    subst (λ q. UnitTo (record { premises = f.premises; sum = f.sum; product = Some q; denials = 0 }) fs ts c) e
    (record { value = b; mid = m1; is_unit = x; then = record { product = p; sum = v; behind = o; value = w; mid = m; after = a; rest = r; products = tail; sums = sums; implications = implications; then = k } })
after_forward {after = a} {rest = r} {v = v} {w = w} {o = o} u c f fs e done (plus {b = b} {ts = ts} {mid = m} x tail) implications k =
    let s = conjunction_split x in
    subst (λ q. UnitTo (record { premises = f.premises; sum = Some (joined Either f.sum q); product = None; denials = 0 }) fs ts c) e
    (record { value = s.first; mid = s.mid; is_unit = s.is_unit; then = record { product = b; sum = v; behind = o; value = w; mid = m; after = a; rest = r; products = s.tail; sums = tail; implications = implications; then = k } })
after_forward u c f fs e done end (imply {ts = ts} d tail) k =
    record { mid = ts; is_greater = greater; then = subst (λ q. UnitTo (record { premises = Some (joined Either f.premises (Deny (joined Either f.sum q))); sum = None; product = None; denials = 0 }) fs ts c) e (opened c fs d tail k) }
after_forward u c f [] e done end stop k = semicolon_forward u c f e k.0 k.1
after_forward u c f (g ∷ fs) e done end stop (r, close, k) = close_forward u c f g fs e close k

-- a word with the sign of an atom after it names a location
named_forward : {x : Lined} {ts mid : List Lined} {t : Target} {v : Value} {d : Bool} (w : List ℕ) (c : Syntax) (f : Frame Syntax) (fs : List (Frame Syntax)) (word : Tok → Option (State Syntax)) → AtomLeft (AfterTarget (Location w)) d (x ∷ ts) t v mid → UnitRead f fs (found_unit tree d t v) mid c → LeftOf (named_or (compared_by (Location w) x.0) f fs (word x.0)) ts c
named_forward {mid = m} {t = t} {v = v} {d = d} w c f fs word (target_equals a) k = record { target = t; value = v; denies = d; mid = m; is_atom = a; then = k }
named_forward {mid = m} {t = t} {v = v} {d = d} w c f fs word (target_less a) k = record { target = t; value = v; denies = d; mid = m; is_atom = a; then = k }
named_forward {mid = m} {t = t} {v = v} {d = d} w c f fs word (target_bang a) k = record { target = t; value = v; denies = d; mid = m; is_atom = a; then = k }

-- and without it, is what it says
not_forward : (w : List ℕ) (f : Frame Syntax) (fs : List (Frame Syntax)) (t : Tok) (ts : List Lined) (c : Syntax) → LeftOf (next_begin (with_denial f) fs t) ts c → LeftOf (next_in tree (AfterNot w) f fs t) ts c
not_forward w f fs (Sign Equals) ts c h = absurd h
not_forward w f fs (Sign Less) ts c h = absurd h
not_forward w f fs (Sign Bang) ts c h = absurd h
not_forward w f fs _ ts c h = h

word_forward : {x : Lined} {ts mid : List Lined} {t : Target} {v : Value} {d : Bool} (b : Bool) (w : List ℕ) (c : Syntax) (f : Frame Syntax) (fs : List (Frame Syntax)) → AtomLeft (AfterTarget (Location w)) d (x ∷ ts) t v mid → UnitRead f fs (found_unit tree d t v) mid c → LeftOf (next_in tree (AfterWord b w) f fs x.0) ts c
word_forward {mid = m} {t = t} {v = v} {d = d} b w c f fs (target_equals a) k = names (record { target = t; value = v; denies = d; mid = m; is_atom = a; then = k })
word_forward {mid = m} {t = t} {v = v} {d = d} b w c f fs (target_less a) k = record { target = t; value = v; denies = d; mid = m; is_atom = a; then = k }
word_forward {mid = m} {t = t} {v = v} {d = d} b w c f fs (target_bang a) k = record { target = t; value = v; denies = d; mid = m; is_atom = a; then = k }

said_forward : (b : Bool) (w : List ℕ) (f : Frame Syntax) (fs : List (Frame Syntax)) (t : Tok) (ts : List Lined) (c : Syntax) → LeftOf (next_after tree (said tree b) f fs t) ts c → LeftOf (next_in tree (AfterWord b w) f fs t) ts c
said_forward b w f fs (Sign Equals) ts c h = says h
said_forward b w f fs (Sign Less) ts c h = absurd h
said_forward b w f fs (Sign Bang) ts c h = absurd h
said_forward b w f fs _ ts c h = h

-- behind the word and =, > makes a premise, and what else may stand there is a value
word_equals_forward : (b : Bool) (w : List ℕ) (f : Frame Syntax) (fs : List (Frame Syntax)) (t : Tok) (ts : List Lined) (c : Syntax) → LeftOf (placed (place_after tree (next_atom (AfterEquals (Location w)) t)) f fs) ts c → LeftOf (next_in tree (AfterWordEquals b w) f fs t) ts c
word_equals_forward b w f fs (Sign Greater) ts c h = absurd h
word_equals_forward b w f fs _ ts c h = h

implying_forward : {x : Lined} {ts mid : List Lined} (u c : Syntax) (f : Frame Syntax) (fs : List (Frame Syntax)) → IsGreater (x ∷ ts) mid → UnitTo (with_premise tree f u) fs mid c → LeftOf (next_in tree (Implying u) f fs x.0) ts c
implying_forward u c f fs greater k = k

word_implying_forward : {x : Lined} {ts mid : List Lined} (b : Bool) (w : List ℕ) (c : Syntax) (f : Frame Syntax) (fs : List (Frame Syntax)) → IsGreater (x ∷ ts) mid → UnitTo (with_premise tree f (said tree b)) fs mid c → LeftOf (next_in tree (AfterWordEquals b w) f fs x.0) ts c
word_implying_forward b w c f fs greater k = k

-- in an atom
bracket_word : (n : Class) (w : List ℕ) → is_name n ≡ true → next_atom AfterBracket (Word n w) ≡ Go (AfterName w)
bracket_word class.Number w e = absurd (cc)
bracket_word class.Other w e = absurd (cc)
bracket_word _ w e = refl

value_word : (n : Class) (d : Bool) (t : Target) (w : List ℕ) → is_name n ≡ true → value_begun d t (Word n w) ≡ Finish (d, t, Address w)
value_word class.Number d t w e = absurd (cc)
value_word class.Other d t w e = absurd (cc)
value_word _ d t w e = refl

atom_forward : {x : Lined} {p : AtomPlace} {ts mid : List Lined} {t : Target} {v : Value} {d : Bool} (c : Syntax) (f : Frame Syntax) (fs : List (Frame Syntax)) → AtomLeft p d (x ∷ ts) t v mid → UnitRead f fs (found_unit tree d t v) mid c → LeftOf (placed (place_after tree (next_atom p x.0)) f fs) ts c
atom_forward {mid = m} {t = t} {v = v} {d = d} c f fs (after_hart a) k = record { target = t; value = v; denies = d; mid = m; is_atom = a; then = k }
atom_forward {mid = m} {t = t} {v = v} {d = d} c f fs (after_colon a) k = record { target = t; value = v; denies = d; mid = m; is_atom = a; then = k }
atom_forward {mid = m} {t = t} {v = v} {d = d} c f fs (after_bracket {w = w} {c = n} {ts = ts} e a) k =
    subst (λ q. LeftOf (placed (place_after tree q) f fs) ts c) (sym (bracket_word n w e)) (record { target = t; value = v; denies = d; mid = m; is_atom = a; then = k })
atom_forward {mid = m} {t = t} {v = v} {d = d} c f fs (after_name a) k = record { target = t; value = v; denies = d; mid = m; is_atom = a; then = k }
atom_forward {mid = m} {t = t} {v = v} {d = d} c f fs (target_equals a) k = record { target = t; value = v; denies = d; mid = m; is_atom = a; then = k }
atom_forward {mid = m} {t = t} {v = v} {d = d} c f fs (target_less a) k = record { target = t; value = v; denies = d; mid = m; is_atom = a; then = k }
atom_forward {mid = m} {t = t} {v = v} {d = d} c f fs (target_bang a) k = record { target = t; value = v; denies = d; mid = m; is_atom = a; then = k }
atom_forward {mid = m} {t = t} {v = v} {d = d} c f fs (after_less a) k = record { target = t; value = v; denies = d; mid = m; is_atom = a; then = k }
atom_forward {mid = m} {t = t} {v = v} {d = d} c f fs (after_bang a) k = record { target = t; value = v; denies = d; mid = m; is_atom = a; then = k }
atom_forward {mid = m} {t = t} {v = v} {d = d} c f fs (equals_equals a) k = record { target = t; value = v; denies = d; mid = m; is_atom = a; then = k }
atom_forward c f fs (after_equals number) k = k
atom_forward {mid = m} {t = t} c f fs (after_equals (minus {w = w})) k = record { target = t; value = Number true w; denies = false; mid = m; is_atom = after_minus; then = k }
atom_forward {mid = m} {t = t} c f fs (after_equals (address {w = w} {c = n} e)) k =
    subst (λ q. LeftOf (placed (place_after tree q) f fs) m c) (sym (value_word n false t w e)) k
atom_forward c f fs (before_value number) k = k
atom_forward {mid = m} {t = t} {d = d} c f fs (before_value (minus {w = w})) k = record { target = t; value = Number true w; denies = d; mid = m; is_atom = after_minus; then = k }
atom_forward {mid = m} {t = t} {d = d} c f fs (before_value (address {w = w} {c = n} e)) k =
    subst (λ q. LeftOf (placed (place_after tree q) f fs) m c) (sym (value_word n d t w e)) k
atom_forward c f fs after_minus k = k

no_empty : {x : Lined} {ts : List Lined} → IsEmpty (x ∷ ts) → ⊥
no_empty h = elim h [ ]

-- the tokens to come, after one more token
pub forward : (p : Place Syntax) (f : Frame Syntax) (fs : List (Frame Syntax)) (x : Lined) (ts : List Lined) (c : Syntax) → LeftIn p f fs (x ∷ ts) c → LeftOf (next_in tree p f fs x.0) ts c
forward Begin f fs x ts c h = begin_forward c f fs h.is_unit h.then
forward (AfterNot w) f fs x ts c (names h) = named_forward w c f fs (λ u. next_begin (with_denial f) fs u) h.is_atom h.then
forward (AfterNot w) f fs x ts c (says h) = not_forward w f fs x.0 ts c (begin_forward c (with_denial f) fs h.is_unit h.then)
forward (AfterWord b w) f fs x ts c (names h) = word_forward b w c f fs h.is_atom h.then
forward (AfterWord b w) f fs x ts c (says h) = said_forward b w f fs x.0 ts c (after_forward (said tree b) c f fs refl h.products h.sums h.implications h.then)
forward (AfterWordEquals b w) f fs x ts c (names h) = word_equals_forward b w f fs x.0 ts c (atom_forward c f fs h.is_atom h.then)
forward (AfterWordEquals b w) f fs x ts c (says h) = word_implying_forward b w c f fs h.is_greater h.then
forward (InAtom p) f fs x ts c h = atom_forward c f fs h.is_atom h.then
forward (AfterUnit u) f fs x ts c h = after_forward u c f fs refl h.products h.sums h.implications h.then
forward (Implying u) f fs x ts c h = implying_forward u c f fs h.is_greater h.then
forward (Whole w) f fs x ts c h = absurd (no_empty h.0)

-- ---- the same the other way

unit_from : {ts mid rest : List Lined} {s t : Target} {v : Value} {d : Bool} → IsTarget ts s mid → AtomLeft (AfterTarget s) d mid t v rest → IsUnit ts (found_unit tree d t v) rest
unit_from it (target_equals (after_equals iv)) = atom it once iv
unit_from it (target_equals (equals_equals (before_value iv))) = atom it twice iv
unit_from it (target_less (after_less (before_value iv))) = other it less_greater iv
unit_from it (target_bang (after_bang (before_value iv))) = other it bang_equals iv

hart_back : {h : List ℕ} {ts mid : List Lined} {t : Target} {v : Value} {d : Bool} (k : ℕ) → AtomLeft (AfterHart h) d ts t v mid → IsUnit ((Word class.Number h, k) ∷ ts) (found_unit tree d t v) mid
hart_back k (after_hart (after_colon a)) = unit_from register a

name_back : {w : List ℕ} {ts mid : List Lined} {t : Target} {v : Value} {d : Bool} (n : Class) (k : ℕ) → is_name n ≡ true → AtomLeft (AfterTarget (Location w)) d ts t v mid → IsUnit ((Word n w, k) ∷ ts) (found_unit tree d t v) mid
name_back n k e a = unit_from (location e) a

bracket_back : {ts mid : List Lined} {t : Target} {v : Value} {d : Bool} (k : ℕ) → AtomLeft AfterBracket d ts t v mid → IsUnit ((Sign OpenBracket, k) ∷ ts) (found_unit tree d t v) mid
bracket_back k (after_bracket e (after_name a)) = unit_from (bracketed e) a

parens_back : {ts mid mid2 mid3 rest : List Lined} {u p v w : Syntax} {o : Option Syntax} (k : ℕ) (c : Syntax) (f : Frame Syntax) (fs : List (Frame Syntax)) → IsUnit ts u mid → ConjunctionTail u mid p mid2 → DisjunctionTail p mid2 v mid3 → ImplicationTail None v mid3 o w rest → Closes (f ∷ fs) c rest (joined Either o w) → UnitTo f fs ((Sign OpenParen, k) ∷ ts) c
parens_back {w = w} {o = o} k c f fs u products sums implications (r, closing, t) =
    record { value = Group (joined Either o w); mid = r; is_unit = group (implication_join none_yet (disjunction_join (conjunction (conjunction_join (unit u) products)) sums) implications); then = t }

begin_backward : (f : Frame Syntax) (fs : List (Frame Syntax)) (t : Tok) (k : ℕ) (ts : List Lined) (c : Syntax) → LeftOf (next_begin f fs t) ts c → UnitTo f fs ((t, k) ∷ ts) c
begin_backward f fs (Word class.Number w) k ts c h = record { value = found_unit tree h.denies h.target h.value; mid = h.mid; is_unit = hart_back k h.is_atom; then = h.then }
begin_backward f fs (Word class.NotWord w) k ts c (names h) = record { value = found_unit tree h.denies h.target h.value; mid = h.mid; is_unit = name_back class.NotWord k refl h.is_atom; then = h.then }
begin_backward f fs (Word class.NotWord w) k ts c (says h) = without_denial c f fs (denial h.is_unit) h.then
begin_backward f fs (Word class.TrueWord w) k ts c (names h) = record { value = found_unit tree h.denies h.target h.value; mid = h.mid; is_unit = name_back class.TrueWord k refl h.is_atom; then = h.then }
begin_backward f fs (Word class.TrueWord w) k ts c (says h) = record { value = True; mid = ts; is_unit = truth; then = h }
begin_backward f fs (Word class.FalseWord w) k ts c (names h) = record { value = found_unit tree h.denies h.target h.value; mid = h.mid; is_unit = name_back class.FalseWord k refl h.is_atom; then = h.then }
begin_backward f fs (Word class.FalseWord w) k ts c (says h) = record { value = False; mid = ts; is_unit = falsity; then = h }
begin_backward f fs (Word class.Other w) k ts c h = absurd h
begin_backward f fs (Word n w) k ts c h = record { value = found_unit tree h.denies h.target h.value; mid = h.mid; is_unit = name_back n k refl h.is_atom; then = h.then }
begin_backward f fs (Sign OpenBracket) k ts c h = record { value = found_unit tree h.denies h.target h.value; mid = h.mid; is_unit = bracket_back k h.is_atom; then = h.then }
begin_backward f fs (Sign Tilde) k ts c h = without_denial c f fs (tilde h.is_unit) h.then
begin_backward f fs (Sign OpenParen) k ts c h = parens_back k c f fs h.is_unit h.then.products h.then.sums h.then.implications h.then.then
begin_backward f fs _ k ts c h = absurd h

semicolon_back : {ts : List Lined} (u c : Syntax) (f : Frame Syntax) (k : ℕ) → IsEmpty ts → total_of tree f u ≡ c → UnitRead f [] u ((Sign Semicolon, k) ∷ ts) c
semicolon_back u c f k no_more e =
    record { product = product_of tree f u; sum = sum_of tree f u; behind = f.premises; value = sum_of tree f u; mid = (Sign Semicolon, k) ∷ []; after = (Sign Semicolon, k) ∷ []; rest = (Sign Semicolon, k) ∷ []; products = done; sums = end; implications = stop; then = (semicolon, e) }

implied_back : {ts mid : List Lined} (u c : Syntax) (f : Frame Syntax) (fs : List (Frame Syntax)) (k : ℕ) → IsGreater ts mid → UnitTo (with_premise tree f u) fs mid c → UnitRead f fs u ((Sign Equals, k) ∷ ts) c
implied_back {mid = m} u c f fs k (greater {k = j}) h =
    record { product = product_of tree f u; sum = sum_of tree f u; behind = h.then.behind; value = h.then.value; mid = (Sign Equals, k) ∷ (Sign Greater, j) ∷ m; after = (Sign Equals, k) ∷ (Sign Greater, j) ∷ m; rest = h.then.rest; products = done; sums = end; implications = imply (disjunction_join (conjunction (conjunction_join (unit h.is_unit) h.then.products)) h.then.sums) h.then.implications; then = h.then.then }

after_backward : (u : Syntax) (f : Frame Syntax) (fs : List (Frame Syntax)) (t : Tok) (k : ℕ) (ts : List Lined) (c : Syntax) → LeftOf (next_after tree u f fs t) ts c → UnitRead f fs u ((t, k) ∷ ts) c
after_backward u f fs (Sign And) k ts c h =
    record { product = h.then.product; sum = h.then.sum; behind = h.then.behind; value = h.then.value; mid = h.then.mid; after = h.then.after; rest = h.then.rest; products = more h.is_unit h.then.products; sums = h.then.sums; implications = h.then.implications; then = h.then.then }
after_backward u f fs (Sign Or) k ts c h =
    record { product = product_of tree f u; sum = h.then.sum; behind = h.then.behind; value = h.then.value; mid = (Sign Or, k) ∷ ts; after = h.then.after; rest = h.then.rest; products = done; sums = plus (conjunction_join (unit h.is_unit) h.then.products) h.then.sums; implications = h.then.implications; then = h.then.then }
after_backward u f fs (Sign Equals) k ts c h = implied_back u c f fs k h.is_greater h.then
after_backward u f [] (Sign CloseParen) k ts c h = absurd h
after_backward u f (g ∷ fs) (Sign CloseParen) k ts c h =
    record { product = product_of tree f u; sum = sum_of tree f u; behind = f.premises; value = sum_of tree f u; mid = (Sign CloseParen, k) ∷ ts; after = (Sign CloseParen, k) ∷ ts; rest = (Sign CloseParen, k) ∷ ts; products = done; sums = end; implications = stop; then = (ts, closing, h) }
after_backward u f [] (Sign Semicolon) k ts c h = semicolon_back u c f k h.0 h.1
after_backward u f (g ∷ fs) (Sign Semicolon) k ts c h = absurd h
after_backward u f fs _ k ts c h = absurd h

minus_back : {s t : Target} {ts mid : List Lined} {v : Value} {e d : Bool} (k : ℕ) → AtomLeft (AfterMinus e s) d ts t v mid → AtomLeft (BeforeValue e s) d ((Sign Minus, k) ∷ ts) t v mid
minus_back k after_minus = before_value minus

equals_minus_back : {s t : Target} {ts mid : List Lined} {v : Value} {d : Bool} (k : ℕ) → AtomLeft (AfterMinus false s) d ts t v mid → AtomLeft (AfterEquals s) d ((Sign Minus, k) ∷ ts) t v mid
equals_minus_back k after_minus = after_equals minus

atom_backward : (p : AtomPlace) (f : Frame Syntax) (fs : List (Frame Syntax)) (t : Tok) (k : ℕ) (ts : List Lined) (c : Syntax) → LeftOf (placed (place_after tree (next_atom p t)) f fs) ts c → AtomTo p f fs ((t, k) ∷ ts) c
atom_backward (AfterHart w) f fs (Sign Colon) k ts c h = record { target = h.target; value = h.value; denies = h.denies; mid = h.mid; is_atom = after_hart h.is_atom; then = h.then }
atom_backward (AfterHart w) f fs _ k ts c h = absurd h
atom_backward (AfterColon w) f fs (Word n r) k ts c h = record { target = h.target; value = h.value; denies = h.denies; mid = h.mid; is_atom = after_colon h.is_atom; then = h.then }
atom_backward (AfterColon w) f fs _ k ts c h = absurd h
atom_backward AfterBracket f fs (Word class.Number w) k ts c h = absurd h
atom_backward AfterBracket f fs (Word class.Other w) k ts c h = absurd h
atom_backward AfterBracket f fs (Word n w) k ts c h = record { target = h.target; value = h.value; denies = h.denies; mid = h.mid; is_atom = after_bracket refl h.is_atom; then = h.then }
atom_backward AfterBracket f fs _ k ts c h = absurd h
atom_backward (AfterName w) f fs (Sign CloseBracket) k ts c h = record { target = h.target; value = h.value; denies = h.denies; mid = h.mid; is_atom = after_name h.is_atom; then = h.then }
atom_backward (AfterName w) f fs _ k ts c h = absurd h
atom_backward (AfterTarget t) f fs (Sign Equals) k ts c h = record { target = h.target; value = h.value; denies = h.denies; mid = h.mid; is_atom = target_equals h.is_atom; then = h.then }
atom_backward (AfterTarget t) f fs (Sign Less) k ts c h = record { target = h.target; value = h.value; denies = h.denies; mid = h.mid; is_atom = target_less h.is_atom; then = h.then }
atom_backward (AfterTarget t) f fs (Sign Bang) k ts c h = record { target = h.target; value = h.value; denies = h.denies; mid = h.mid; is_atom = target_bang h.is_atom; then = h.then }
atom_backward (AfterTarget t) f fs _ k ts c h = absurd h
atom_backward (AfterLess t) f fs (Sign Greater) k ts c h = record { target = h.target; value = h.value; denies = h.denies; mid = h.mid; is_atom = after_less h.is_atom; then = h.then }
atom_backward (AfterLess t) f fs _ k ts c h = absurd h
atom_backward (AfterBang t) f fs (Sign Equals) k ts c h = record { target = h.target; value = h.value; denies = h.denies; mid = h.mid; is_atom = after_bang h.is_atom; then = h.then }
atom_backward (AfterBang t) f fs _ k ts c h = absurd h
atom_backward (AfterEquals t) f fs (Sign Equals) k ts c h = record { target = h.target; value = h.value; denies = h.denies; mid = h.mid; is_atom = equals_equals h.is_atom; then = h.then }
atom_backward (AfterEquals t) f fs (Word class.Number w) k ts c h = record { target = t; value = Number false w; denies = false; mid = ts; is_atom = after_equals number; then = h }
atom_backward (AfterEquals t) f fs (Word class.Other w) k ts c h = absurd h
atom_backward (AfterEquals t) f fs (Word n w) k ts c h = record { target = t; value = Address w; denies = false; mid = ts; is_atom = after_equals (address refl); then = h }
atom_backward (AfterEquals t) f fs (Sign Minus) k ts c h = record { target = h.target; value = h.value; denies = h.denies; mid = h.mid; is_atom = equals_minus_back k h.is_atom; then = h.then }
atom_backward (AfterEquals t) f fs _ k ts c h = absurd h
atom_backward (BeforeValue d t) f fs (Word class.Number w) k ts c h = record { target = t; value = Number false w; denies = d; mid = ts; is_atom = before_value number; then = h }
atom_backward (BeforeValue d t) f fs (Word class.Other w) k ts c h = absurd h
atom_backward (BeforeValue d t) f fs (Word n w) k ts c h = record { target = t; value = Address w; denies = d; mid = ts; is_atom = before_value (address refl); then = h }
atom_backward (BeforeValue d t) f fs (Sign Minus) k ts c h = record { target = h.target; value = h.value; denies = h.denies; mid = h.mid; is_atom = minus_back k h.is_atom; then = h.then }
atom_backward (BeforeValue d t) f fs _ k ts c h = absurd h
atom_backward (AfterMinus d t) f fs (Word class.Number w) k ts c h = record { target = t; value = Number true w; denies = d; mid = ts; is_atom = after_minus; then = h }
atom_backward (AfterMinus d t) f fs _ k ts c h = absurd h

word_equals_back : (b : Bool) (w : List ℕ) (f : Frame Syntax) (fs : List (Frame Syntax)) (k : ℕ) (ts : List Lined) (c : Syntax) → LeftIn (AfterWordEquals b w) f fs ts c → LeftIn (AfterWord b w) f fs ((Sign Equals, k) ∷ ts) c
word_equals_back b w f fs k ts c (names h) = names (record { target = h.target; value = h.value; denies = h.denies; mid = h.mid; is_atom = target_equals h.is_atom; then = h.then })
word_equals_back b w f fs k ts c (says h) = says (implied_back (said tree b) c f fs k h.is_greater h.then)

pub backward : (p : Place Syntax) (f : Frame Syntax) (fs : List (Frame Syntax)) (t : Tok) (k : ℕ) (ts : List Lined) (c : Syntax) → LeftOf (next_in tree p f fs t) ts c → LeftIn p f fs ((t, k) ∷ ts) c
backward Begin f fs t k ts c h = begin_backward f fs t k ts c h
backward (AfterNot w) f fs (Sign Equals) k ts c h = names (record { target = h.target; value = h.value; denies = h.denies; mid = h.mid; is_atom = target_equals h.is_atom; then = h.then })
backward (AfterNot w) f fs (Sign Less) k ts c h = names (record { target = h.target; value = h.value; denies = h.denies; mid = h.mid; is_atom = target_less h.is_atom; then = h.then })
backward (AfterNot w) f fs (Sign Bang) k ts c h = names (record { target = h.target; value = h.value; denies = h.denies; mid = h.mid; is_atom = target_bang h.is_atom; then = h.then })
backward (AfterNot w) f fs t k ts c h = says (begin_backward (with_denial f) fs t k ts c h)
backward (AfterWord b w) f fs (Sign Equals) k ts c h = word_equals_back b w f fs k ts c h
backward (AfterWord b w) f fs (Sign Less) k ts c h = names (record { target = h.target; value = h.value; denies = h.denies; mid = h.mid; is_atom = target_less h.is_atom; then = h.then })
backward (AfterWord b w) f fs (Sign Bang) k ts c h = names (record { target = h.target; value = h.value; denies = h.denies; mid = h.mid; is_atom = target_bang h.is_atom; then = h.then })
backward (AfterWord b w) f fs t k ts c h = says (after_backward (said tree b) f fs t k ts c h)
backward (AfterWordEquals b w) f fs (Sign Greater) k ts c h = says (record { mid = ts; is_greater = greater; then = h })
backward (AfterWordEquals b w) f fs t k ts c h = names (atom_backward (AfterEquals (Location w)) f fs t k ts c h)
backward (InAtom p) f fs t k ts c h = atom_backward p f fs t k ts c h
backward (AfterUnit u) f fs t k ts c h = after_backward u f fs t k ts c h
backward (Implying u) f fs (Sign Greater) k ts c h = record { mid = ts; is_greater = greater; then = h }
backward (Implying u) f fs t k ts c h = absurd h
backward (Whole w) f fs t k ts c h = absurd h

-- ---- where the text may end

no_value : {v : Value} {m : List Lined} → IsValue [] v m → ⊥
no_value h = elim h [ ]

no_target : {t : Target} {m : List Lined} → IsTarget [] t m → ⊥
no_target h = elim h [ ]

no_unit : {u : Syntax} {m : List Lined} → IsUnit [] u m → ⊥
no_unit (atom it q iv) = no_target it
no_unit (other it q iv) = no_target it

no_atom : {p : AtomPlace} {t : Target} {v : Value} {d : Bool} {m : List Lined} → AtomLeft p d [] t v m → ⊥
no_atom (after_equals iv) = no_value iv
no_atom (before_value iv) = no_value iv

no_closing : {r : List Lined} → IsClosing [] r → ⊥
no_closing h = elim h [ ]

no_greater : {r : List Lined} → IsGreater [] r → ⊥
no_greater h = elim h [ ]

ends_with : {read p v w : Syntax} {o : Option Syntax} {mid after rest : List Lined} (c : Syntax) (premises before : Option Syntax) (fs : List (Frame Syntax)) → ConjunctionTail read [] p mid → DisjunctionTail (joined Either before p) mid v after → ImplicationTail premises v after o w rest → Closes fs c rest (joined Either o w) → (fs ≡ []) × (joined Either premises (joined Either before read) ≡ c)
ends_with c premises before [] done end stop k = (refl, k.1)
ends_with c premises before (g ∷ fs) done end stop (r, s, k) = absurd (no_closing s)

unit_ends : (u : Syntax) (f : Frame Syntax) (c : Syntax) → UnitRead f [] u [] c → Some (total_of tree f u) ≡ Some c
unit_ends u f c h = ap Some (ends_with c f.premises f.sum [] h.products h.sums h.implications h.then).1

unit_open : (u : Syntax) (f g : Frame Syntax) (fs : List (Frame Syntax)) (c : Syntax) → UnitRead f (g ∷ fs) u [] c → ⊥
unit_open u f g fs c h = let e = (ends_with c f.premises f.sum (g ∷ fs) h.products h.sums h.implications h.then).0 in cc

pub end_forward : (p : Place Syntax) (f : Frame Syntax) (fs : List (Frame Syntax)) (c : Syntax) → LeftIn p f fs [] c → end_in tree p f fs ≡ Some c
end_forward Begin f fs c h = absurd (no_unit h.is_unit)
end_forward (AfterNot w) f fs c (names h) = absurd (no_atom h.is_atom)
end_forward (AfterNot w) f fs c (says h) = absurd (no_unit h.is_unit)
end_forward (AfterWord b w) f fs c (names h) = absurd (no_atom h.is_atom)
end_forward (AfterWord b w) f [] c (says h) = unit_ends (said tree b) f c h
end_forward (AfterWord b w) f (g ∷ fs) c (says h) = absurd (unit_open (said tree b) f g fs c h)
end_forward (AfterWordEquals b w) f fs c (names h) = absurd (no_atom h.is_atom)
end_forward (AfterWordEquals b w) f fs c (says h) = absurd (no_greater h.is_greater)
end_forward (InAtom p) f fs c h = absurd (no_atom h.is_atom)
end_forward (AfterUnit u) f [] c h = unit_ends u f c h
end_forward (AfterUnit u) f (g ∷ fs) c h = absurd (unit_open u f g fs c h)
end_forward (Implying u) f fs c h = absurd (no_greater h.is_greater)
end_forward (Whole w) f [] c h = ap Some h.1
end_forward (Whole w) f (g ∷ fs) c h = ap Some h.1

unit_ended : (u : Syntax) (f : Frame Syntax) (c : Syntax) → total_of tree f u ≡ c → UnitRead f [] u [] c
unit_ended u f c e = record { product = product_of tree f u; sum = sum_of tree f u; behind = f.premises; value = sum_of tree f u; mid = []; after = []; rest = []; products = done; sums = end; implications = stop; then = (nothing, e) }

pub end_backward : (p : Place Syntax) (f : Frame Syntax) (fs : List (Frame Syntax)) (c : Syntax) → end_in tree p f fs ≡ Some c → LeftIn p f fs [] c
end_backward (Whole w) f [] c e = (no_more, cc)
end_backward (Whole w) f (g ∷ fs) c e = (no_more, cc)
end_backward (AfterWord b w) f [] c e = says (unit_ended (said tree b) f c (cc))
end_backward (AfterUnit u) f [] c e = unit_ended u f c (cc)
end_backward _ f [] c e = absurd (cc)
end_backward _ f (g ∷ fs) c e = absurd (cc)

-- ---- each state can be completed

ending : (fs : List (Frame Syntax)) (w : Syntax) → (ts : List Lined) × (c : Syntax) × Closes fs c ts w
ending [] w = ([], w, (nothing, refl))
ending (g ∷ fs) w =
    let v = Group w in
    let x = ending fs (total_of tree g v) in
    ((Sign CloseParen, 0) ∷ x.0, x.1, (x.0, closing, record { product = product_of tree g v; sum = sum_of tree g v; behind = g.premises; value = sum_of tree g v; mid = x.0; after = x.0; rest = x.0; products = done; sums = end; implications = stop; then = x.2 }))

after_live : (f : Frame Syntax) (fs : List (Frame Syntax)) (u : Syntax) → (ts : List Lined) × (c : Syntax) × UnitRead f fs u ts c
after_live f fs u =
    let x = ending fs (total_of tree f u) in
    (x.0, x.1, record { product = product_of tree f u; sum = sum_of tree f u; behind = f.premises; value = sum_of tree f u; mid = x.0; after = x.0; rest = x.0; products = done; sums = end; implications = stop; then = x.2 })

-- the word true
begin_live : (f : Frame Syntax) (fs : List (Frame Syntax)) → (ts : List Lined) × (c : Syntax) × UnitTo f fs ts c
begin_live f fs =
    let x = after_live f fs True in
    ((Word class.TrueWord (116 ∷ 114 ∷ 117 ∷ 101 ∷ []), 0) ∷ x.0, x.1, record { value = True; mid = x.0; is_unit = truth; then = x.2 })

implied_live : (f : Frame Syntax) (fs : List (Frame Syntax)) (u : Syntax) → (ts : List Lined) × (c : Syntax) × ImpliedTo f fs u ts c
implied_live f fs u =
    let x = begin_live (with_premise tree f u) fs in
    ((Sign Greater, 0) ∷ x.0, x.1, record { mid = x.0; is_greater = greater; then = x.2 })

-- an atom that ends with the register x5 or the location x, and the number 0
abbrev live_target : AtomPlace → Target
live_target (AfterHart h) = Register h (120 ∷ 53 ∷ [])
live_target (AfterColon h) = Register h (120 ∷ 53 ∷ [])
live_target AfterBracket = Location (120 ∷ [])
live_target (AfterName w) = Location w
live_target (AfterTarget t) = t
live_target (AfterLess t) = t
live_target (AfterBang t) = t
live_target (AfterEquals t) = t
live_target (BeforeValue d t) = t
live_target (AfterMinus d t) = t

abbrev live_value : AtomPlace → Value
live_value (AfterMinus d t) = Number true (48 ∷ [])
live_value _ = Number false (48 ∷ [])

abbrev live_denies : AtomPlace → Bool
live_denies (AfterLess t) = true
live_denies (AfterBang t) = true
live_denies (BeforeValue d t) = d
live_denies (AfterMinus d t) = d
live_denies _ = false

abbrev zero_then : List Lined → List Lined
zero_then ts = (Word class.Number (48 ∷ []), 0) ∷ ts

abbrev equals_then : List Lined → List Lined
equals_then ts = (Sign Equals, 0) ∷ zero_then ts

abbrev live_tokens : AtomPlace → List Lined → List Lined
live_tokens (AfterHart h) ts = (Sign Colon, 0) ∷ (Word class.Name (120 ∷ 53 ∷ []), 0) ∷ equals_then ts
live_tokens (AfterColon h) ts = (Word class.Name (120 ∷ 53 ∷ []), 0) ∷ equals_then ts
live_tokens AfterBracket ts = (Word class.Name (120 ∷ []), 0) ∷ (Sign CloseBracket, 0) ∷ equals_then ts
live_tokens (AfterName w) ts = (Sign CloseBracket, 0) ∷ equals_then ts
live_tokens (AfterTarget t) ts = equals_then ts
live_tokens (AfterLess t) ts = (Sign Greater, 0) ∷ zero_then ts
live_tokens (AfterBang t) ts = equals_then ts
live_tokens (AfterEquals t) ts = zero_then ts
live_tokens (BeforeValue d t) ts = zero_then ts
live_tokens (AfterMinus d t) ts = zero_then ts

target_live : (t : Target) (ts : List Lined) → AtomLeft (AfterTarget t) false (equals_then ts) t (Number false (48 ∷ [])) ts
target_live t ts = target_equals (after_equals number)

atom_live : (p : AtomPlace) (ts : List Lined) → AtomLeft p (live_denies p) (live_tokens p ts) (live_target p) (live_value p) ts
atom_live (AfterHart h) ts = after_hart (after_colon (target_live (Register h (120 ∷ 53 ∷ [])) ts))
atom_live (AfterColon h) ts = after_colon (target_live (Register h (120 ∷ 53 ∷ [])) ts)
atom_live AfterBracket ts = after_bracket refl (after_name (target_live (Location (120 ∷ [])) ts))
atom_live (AfterName w) ts = after_name (target_live (Location w) ts)
atom_live (AfterTarget t) ts = target_live t ts
atom_live (AfterLess t) ts = after_less (before_value number)
atom_live (AfterBang t) ts = after_bang (before_value number)
atom_live (AfterEquals t) ts = after_equals number
atom_live (BeforeValue d t) ts = before_value number
atom_live (AfterMinus d t) ts = after_minus

pub live : (p : Place Syntax) (f : Frame Syntax) (fs : List (Frame Syntax)) → (ts : List Lined) × (c : Syntax) × LeftIn p f fs ts c
live Begin f fs = begin_live f fs
live (AfterNot w) f fs = let x = begin_live (with_denial f) fs in (x.0, x.1, says x.2)
live (AfterWord b w) f fs = let x = after_live f fs (said tree b) in (x.0, x.1, says x.2)
live (AfterWordEquals b w) f fs = let x = implied_live f fs (said tree b) in (x.0, x.1, says x.2)
live (InAtom p) f fs =
    let x = after_live f fs (found_unit tree (live_denies p) (live_target p) (live_value p)) in
    (live_tokens p x.0, x.1, record { target = live_target p; value = live_value p; denies = live_denies p; mid = x.0; is_atom = atom_live p x.0; then = x.2 })
live (AfterUnit u) f fs = after_live f fs u
live (Implying u) f fs = implied_live f fs u
live (Whole w) f fs = ([], w, (no_more, refl))

-- ---- the start

pub start_forward : (ts : List Lined) (c : Syntax) → IsCondition ts c → Left start ts c
start_forward ts c (complete (disjunction d) e) = opened c [] d stop (e, refl)
start_forward ts c (complete (implication p d) e) =
    let s = premises_split p d in
    opened c [] s.is_disjunction s.tail (e, refl)

condition_from : {ts rest : List Lined} {w c : Syntax} → IsImplication ts w rest → IsTextEnd rest → w ≡ c → IsCondition ts c
condition_from {ts = ts} s end_of_text e = subst (λ w. IsCondition ts w) e (complete s end_of_text)

pub start_backward : (ts : List Lined) (c : Syntax) → Left start ts c → IsCondition ts c
start_backward ts c h =
    condition_from (implication_join none_yet (disjunction_join (conjunction (conjunction_join (unit h.is_unit) h.then.products)) h.then.sums) h.then.implications) h.then.then.0 h.then.then.1

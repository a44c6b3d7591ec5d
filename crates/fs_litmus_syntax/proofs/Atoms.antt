-- The atoms that are found are those of the syntax.
use Rattle.std.proofs.Common.{◌≡◌, ℕ, zero, suc, Bool, true, false, List, [], ◌∷◌, ◌++◌, Option, Some, None, Ok, Err, refl, sym, ap, ◌∙◌, subst, append_assoc, append-nil}
use Rattle.fs_litmus_tokens.specs.Tokens.{Tok, Lined, Word, Sign}
use Rattle.fs_litmus_tokens.specs.Sections.{Move, Go, Finish, Bad}
use Rattle.fs_litmus_tokens.specs.Values.{Target, Location, Value}
use Rattle.fs_litmus_tokens.specs.declared.word.Class.TheVariants as class
use Rattle.fs_litmus_tokens.specs.declared.token.Mark.TheVariants.{Equals, Less, Greater, Bang, OpenBracket, Tilde, OpenParen, CloseParen, And, Or, Semicolon}
use Rattle.fs_litmus_syntax.specs.Grammar.{Syntax, Deny, Both, Either}
use Rattle.fs_litmus_syntax.specs.Meaning.{atoms_of}
use Rattle.fs_litmus_syntax.specs.Machine.{AtomPlace, Found, Frame, AfterEquals, Place, Begin, AfterNot, AfterWord, AfterWordEquals, InAtom, AfterUnit, Implying, Whole, State, joined, denied, at, with_denial, start, next_atom, next_begin, finished, atoms_at, product_of, sum_of, total_of, with_premise, next_after, said, found_unit, place_after, placed, next_in, next, end_in, ended, went, read}
use Rattle.fs_litmus_syntax.proofs.Residual.{tree}
use Rattle.fs_litmus_syntax.proofs.ConditionReading.{Scan}

abbrev Pairs : Type 0
Pairs = List (Target × Value)

abbrev option_atoms : Option Syntax → Pairs
option_atoms None = []
option_atoms (Some s) = atoms_of s

-- in the disjunction that is being read, and before it too
abbrev sum_atoms_of : Frame Syntax → Pairs
sum_atoms_of f = option_atoms f.sum ++ option_atoms f.product

abbrev frame_atoms : Frame Syntax → Pairs
frame_atoms f = option_atoms f.premises ++ sum_atoms_of f

-- the innermost frame is the first
abbrev frames_atoms : List (Frame Syntax) → Pairs
frames_atoms [] = []
frames_atoms (f ∷ fs) = frames_atoms fs ++ frame_atoms f

abbrev place_atoms : Place Syntax → Pairs
place_atoms (AfterUnit u) = atoms_of u
place_atoms (Implying u) = atoms_of u
place_atoms _ = []

-- before the end of the text, and in each state
abbrev open_atoms : Place Syntax → Frame Syntax → List (Frame Syntax) → Pairs
open_atoms p f fs = frames_atoms fs ++ (frame_atoms f ++ place_atoms p)

abbrev state_atoms : Place Syntax → Frame Syntax → List (Frame Syntax) → Pairs
state_atoms (Whole w) f fs = atoms_of w
state_atoms p f fs = open_atoms p f fs

abbrev AtomsOf : Option (State Syntax) → Pairs → Type 0
AtomsOf None found = Unit {0}
AtomsOf (Some s) found = state_atoms s.place s.frame s.below ≡ found

denied_atoms : (n : ℕ) (u : Syntax) → atoms_of (denied Deny n u) ≡ atoms_of u
denied_atoms zero u = refl
denied_atoms (suc n) u = denied_atoms n u

both_atoms : (o : Option Syntax) (u : Syntax) → atoms_of (joined Both o u) ≡ option_atoms o ++ atoms_of u
both_atoms None u = refl
both_atoms (Some a) u = refl

either_atoms : (o : Option Syntax) (u : Syntax) → atoms_of (joined Either o u) ≡ option_atoms o ++ atoms_of u
either_atoms None u = refl
either_atoms (Some a) u = refl

product_atoms : (f : Frame Syntax) (u : Syntax) → atoms_of (product_of tree f u) ≡ option_atoms f.product ++ atoms_of u
product_atoms f u = both_atoms f.product (denied Deny f.denials u) ∙ ap (λ a. option_atoms f.product ++ a) (denied_atoms f.denials u)

sum_atoms : (f : Frame Syntax) (u : Syntax) → atoms_of (sum_of tree f u) ≡ sum_atoms_of f ++ atoms_of u
sum_atoms f u =
    either_atoms f.sum (product_of tree f u)
    ∙ ap (λ a. option_atoms f.sum ++ a) (product_atoms f u)
    ∙ sym (append_assoc (option_atoms f.sum) (option_atoms f.product) (atoms_of u))

behind_premises : (f : Frame Syntax) (u : Syntax) → option_atoms f.premises ++ (sum_atoms_of f ++ atoms_of u) ≡ frame_atoms f ++ atoms_of u
behind_premises f u = sym (append_assoc (option_atoms f.premises) (sum_atoms_of f) (atoms_of u))

total_atoms : (f : Frame Syntax) (u : Syntax) → atoms_of (total_of tree f u) ≡ frame_atoms f ++ atoms_of u
total_atoms f u =
    either_atoms f.premises (sum_of tree f u) ∙ ap (λ a. option_atoms f.premises ++ a) (sum_atoms f u) ∙ behind_premises f u

premise_atoms : (f : Frame Syntax) (u : Syntax) → atoms_of (joined Either f.premises (Deny (sum_of tree f u))) ≡ frame_atoms f ++ atoms_of u
premise_atoms f u =
    either_atoms f.premises (Deny (sum_of tree f u)) ∙ ap (λ a. option_atoms f.premises ++ a) (sum_atoms f u) ∙ behind_premises f u

begin_atoms : (f : Frame Syntax) (fs : List (Frame Syntax)) (t : Tok) → AtomsOf (next_begin f fs t) (frames_atoms fs ++ (frame_atoms f ++ []))
begin_atoms f fs (Word class.Number w) = refl
begin_atoms f fs (Word class.NotWord w) = refl
begin_atoms f fs (Word class.TrueWord w) = refl
begin_atoms f fs (Word class.FalseWord w) = refl
begin_atoms f fs (Word class.Other w) = tt
begin_atoms f fs (Word c w) = refl
begin_atoms f fs (Sign OpenBracket) = refl
begin_atoms f fs (Sign Tilde) = refl
begin_atoms f fs (Sign OpenParen) = append_assoc (frames_atoms fs) (frame_atoms f) []
begin_atoms f fs _ = tt

after_atoms : (u : Syntax) (f : Frame Syntax) (fs : List (Frame Syntax)) (t : Tok) → AtomsOf (next_after tree u f fs t) (frames_atoms fs ++ (frame_atoms f ++ atoms_of u))
after_atoms u f fs (Sign And) =
    ap (λ a. frames_atoms fs ++ a) (append-nil (option_atoms f.premises ++ (option_atoms f.sum ++ atoms_of (product_of tree f u))) ∙ ap (λ a. option_atoms f.premises ++ (option_atoms f.sum ++ a)) (product_atoms f u) ∙ ap (λ a. option_atoms f.premises ++ a) (sym (append_assoc (option_atoms f.sum) (option_atoms f.product) (atoms_of u))) ∙ behind_premises f u)
after_atoms u f fs (Sign Or) =
    ap (λ a. frames_atoms fs ++ a) (append-nil (option_atoms f.premises ++ (atoms_of (sum_of tree f u) ++ [])) ∙ ap (λ a. option_atoms f.premises ++ a) (append-nil (atoms_of (sum_of tree f u)) ∙ sum_atoms f u) ∙ behind_premises f u)
after_atoms u f fs (Sign Equals) = refl
after_atoms u f [] (Sign CloseParen) = tt
after_atoms u f (g ∷ fs) (Sign CloseParen) =
    ap (λ a. frames_atoms fs ++ (frame_atoms g ++ a)) (total_atoms f u) ∙ sym (append_assoc (frames_atoms fs) (frame_atoms g) (frame_atoms f ++ atoms_of u))
after_atoms u f [] (Sign Semicolon) = total_atoms f u
after_atoms u f (g ∷ fs) (Sign Semicolon) = tt
after_atoms u f fs _ = tt

implied_atoms : (u : Syntax) (f : Frame Syntax) (fs : List (Frame Syntax)) → AtomsOf (Some (at Begin (with_premise tree f u) fs)) (frames_atoms fs ++ (frame_atoms f ++ atoms_of u))
implied_atoms u f fs =
    let premise = atoms_of (joined Either f.premises (Deny (sum_of tree f u))) in
    ap (λ a. frames_atoms fs ++ a) (append-nil (premise ++ []) ∙ append-nil premise ∙ premise_atoms f u)

said_atoms : (b : Bool) → atoms_of (said tree b) ≡ []
said_atoms true = refl
said_atoms false = refl

found_atoms : (d : Bool) (t : Target) (v : Value) → atoms_of (found_unit tree d t v) ≡ (t, v) ∷ []
found_atoms false t v = refl
found_atoms true t v = refl

in_atom_atoms : (m : Move AtomPlace Found) (f : Frame Syntax) (fs : List (Frame Syntax)) → AtomsOf (placed (place_after tree m) f fs) (frames_atoms fs ++ (frame_atoms f ++ finished m))
in_atom_atoms (Go p) f fs = refl
in_atom_atoms (Finish a) f fs = ap (λ l. frames_atoms fs ++ (frame_atoms f ++ l)) (found_atoms a.0 a.1 a.2)
in_atom_atoms Bad f fs = tt

next_atoms : (p : Place Syntax) (f : Frame Syntax) (fs : List (Frame Syntax)) (t : Tok) → AtomsOf (next_in tree p f fs t) (frames_atoms fs ++ (frame_atoms f ++ (place_atoms p ++ atoms_at p t)))
next_atoms Begin f fs t = begin_atoms f fs t
next_atoms (AfterNot w) f fs (Sign Equals) = refl
next_atoms (AfterNot w) f fs (Sign Less) = refl
next_atoms (AfterNot w) f fs (Sign Bang) = refl
next_atoms (AfterNot w) f fs t = begin_atoms (with_denial f) fs t
next_atoms (AfterWord b w) f fs (Sign Equals) = refl
next_atoms (AfterWord b w) f fs (Sign Less) = refl
next_atoms (AfterWord b w) f fs (Sign Bang) = refl
next_atoms (AfterWord b w) f fs t = subst (λ a. AtomsOf (next_after tree (said tree b) f fs t) (frames_atoms fs ++ (frame_atoms f ++ a))) (said_atoms b) (after_atoms (said tree b) f fs t)
next_atoms (AfterWordEquals b w) f fs (Sign Greater) = subst (λ a. AtomsOf (Some (at Begin (with_premise tree f (said tree b)) fs)) (frames_atoms fs ++ (frame_atoms f ++ a))) (said_atoms b) (implied_atoms (said tree b) f fs)
next_atoms (AfterWordEquals b w) f fs t = in_atom_atoms (next_atom (AfterEquals (Location w)) t) f fs
next_atoms (InAtom p) f fs t = in_atom_atoms (next_atom p t) f fs
next_atoms (AfterUnit u) f fs t = subst (λ a. AtomsOf (next_after tree u f fs t) (frames_atoms fs ++ (frame_atoms f ++ a))) (sym (append-nil (atoms_of u))) (after_atoms u f fs t)
next_atoms (Implying u) f fs (Sign Greater) = subst (λ a. AtomsOf (Some (at Begin (with_premise tree f u) fs)) (frames_atoms fs ++ (frame_atoms f ++ a))) (sym (append-nil (atoms_of u))) (implied_atoms u f fs)
next_atoms (Implying u) f fs t = tt
next_atoms (Whole w) f fs t = tt

abbrev pub HasAtoms : Scan → Type 0
HasAtoms (Ok x) = x.1 ≡ atoms_of x.0
HasAtoms (Err rest) = Unit {0}

end_atoms : (p : Place Syntax) (f : Frame Syntax) (fs : List (Frame Syntax)) (found : Pairs) → found ≡ state_atoms p f fs → HasAtoms (ended tree (end_in tree p f fs) found)
end_atoms (Whole w) f [] found e = e
end_atoms (Whole w) f (g ∷ fs) found e = e
end_atoms (AfterWord b w) f [] found e = e ∙ ap (λ a. frame_atoms f ++ a) (sym (said_atoms b)) ∙ sym (total_atoms f (said tree b))
end_atoms (AfterUnit u) f [] found e = e ∙ sym (total_atoms f u)
end_atoms _ f [] found e = tt
end_atoms _ f (g ∷ fs) found e = tt

went_atoms : (o : Option (State Syntax)) (found : Pairs) (ts us : List Lined) → AtomsOf o found → ((s : State Syntax) → found ≡ state_atoms s.place s.frame s.below → HasAtoms (read tree s found ts)) → HasAtoms (went tree o (λ s. read tree s found ts) us)
went_atoms None found ts us h later = tt
went_atoms (Some s) found ts us h later = later s (sym h)

open_next : (p : Place Syntax) (f : Frame Syntax) (fs : List (Frame Syntax)) (t : Tok) (found : Pairs) → found ≡ open_atoms p f fs → AtomsOf (next_in tree p f fs t) (found ++ atoms_at p t)
open_next p f fs t found e =
    let more = atoms_at p t in
    let regroup : found ++ more ≡ frames_atoms fs ++ (frame_atoms f ++ (place_atoms p ++ more)) =
    ap (λ a. a ++ more) e
    ∙ append_assoc (frames_atoms fs) (frame_atoms f ++ place_atoms p) more
    ∙ ap (λ a. frames_atoms fs ++ a) (append_assoc (frame_atoms f) (place_atoms p) more) in
    subst (AtomsOf (next_in tree p f fs t)) (sym regroup) (next_atoms p f fs t)

found_next : (p : Place Syntax) (f : Frame Syntax) (fs : List (Frame Syntax)) (t : Tok) (found : Pairs) → found ≡ state_atoms p f fs → AtomsOf (next_in tree p f fs t) (found ++ atoms_at p t)
found_next (Whole w) f fs t found e = tt
found_next p f fs t found e = open_next p f fs t found e

read_atoms : (s : State Syntax) (found : Pairs) (ts : List Lined) → found ≡ state_atoms s.place s.frame s.below → HasAtoms (read tree s found ts)
read_atoms s found [] e = end_atoms s.place s.frame s.below found e
read_atoms s found (x ∷ ts) e =
    let more = atoms_at s.place x.0 in
    went_atoms (next tree s x.0) (found ++ more) ts (x ∷ ts) (found_next s.place s.frame s.below x.0 found e) (λ s' e'. read_atoms s' (found ++ more) ts e')

pub has_atoms : (ts : List Lined) → HasAtoms (read tree start [] ts)
has_atoms ts = read_atoms start [] ts refl

-- The list of layers, of which the last is the innermost, and how many denials are in them.
use Rattle.std.proofs.Common.{◌≡◌, ℕ, ◌+◌, ◌<◌, ◌≤◌, List, [], ◌∷◌, ◌++◌, length, Option, Some, None, refl, ap, arith}
use Rattle.fs_litmus_tokens.specs.Tokens.{Tok, Word, Sign}
use Rattle.fs_litmus_tokens.specs.Sections.{Move, Go, Finish, Bad}
use Rattle.fs_litmus_tokens.specs.Values.{Location}
use Rattle.fs_litmus_tokens.specs.declared.word.Class.TheVariants as class
use Rattle.fs_litmus_tokens.specs.declared.token.Mark.TheVariants.{Equals, Less, Greater, Bang, OpenBracket, Tilde, OpenParen, CloseParen, And, Or, Semicolon}
use Rattle.fs_litmus_syntax.specs.declared.layer.Layer.{Layer}
use Rattle.fs_litmus_syntax.specs.Machine.{AtomPlace, AfterEquals, Found, Frame, Place, Begin, AfterNot, AfterWord, AfterWordEquals, InAtom, AfterUnit, Implying, Whole, State, put_off, with_denial, next_atom, next_begin, completed, next_after, said, place_after, placed, next_in, next, whole_of, end_in}
use Rattle.fs_litmus_syntax.specs.Limited.{Bounded, limited}
use Rattle.fs_litmus_syntax.specs.Views.{layer_of, below_of}

pub below_of_push : (ls : List Layer) (l : Layer) (fs : List (Frame Bounded)) → below_of (ls ++ l ∷ []) fs ≡ layer_of l ∷ below_of ls fs
below_of_push [] l fs = refl
below_of_push (m ∷ ls) l fs = below_of_push ls l (layer_of m ∷ fs)

-- a frame is below
abbrev IsOpen : List (Frame Bounded) → Type 0
IsOpen fs = (g : Frame Bounded) × (gs : List (Frame Bounded)) × (fs ≡ g ∷ gs)

open_over : (ls : List Layer) (f : Frame Bounded) (fs : List (Frame Bounded)) → IsOpen (below_of ls (f ∷ fs))
open_over [] f fs = (f, fs, refl)
open_over (l ∷ ls) f fs = open_over ls (layer_of l) (f ∷ fs)

open_below : (ls : List Layer) → 0 < length ls → IsOpen (below_of ls [])
open_below [] h = absurd (omega arith)
open_below (l ∷ ls) h = open_over ls (layer_of l) []

pub not_ended : (p : Place Bounded) (g : Frame Bounded) (ls : List Layer) → 0 < length ls → end_in limited p g (below_of ls []) ≡ whole_of p
not_ended p g ls h = ap (end_in limited p g) (open_below ls h).2

pub not_completed : (u : Bounded) (g : Frame Bounded) (ls : List Layer) → 0 < length ls → completed limited g (below_of ls []) u ≡ None
not_completed u g ls h = ap (λ fs. completed limited g fs u) (open_below ls h).2

-- each layer has at most n denials, with one that is put off
abbrev pub AllSmall : ℕ → List (Frame Bounded) → Type 0
AllSmall n [] = Unit {0}
AllSmall n (f ∷ fs) = (f.denials ≤ n) × AllSmall n fs

abbrev pub Small : ℕ → State Bounded → Type 0
Small n s = (s.frame.denials + put_off s.place ≤ n) × AllSmall n s.below

abbrev pub SmallOf : ℕ → Option (State Bounded) → Type 0
SmallOf n None = Unit {0}
SmallOf n (Some s) = Small n s

all_small_more : (n : ℕ) (fs : List (Frame Bounded)) → AllSmall n fs → AllSmall (n + 1) fs
all_small_more n [] h = tt
all_small_more n (f ∷ fs) h = (omega (arith, h.0), all_small_more n fs h.1)

small_begin : (n : ℕ) (f : Frame Bounded) (fs : List (Frame Bounded)) (t : Tok) → f.denials ≤ n → AllSmall n fs → SmallOf (n + 1) (next_begin f fs t)
small_begin n f fs (Word class.Other w) h hs = tt
small_begin n f fs (Word class.NotWord w) h hs = (omega arith, all_small_more n fs hs)
small_begin n f fs (Word c w) h hs = (omega arith, all_small_more n fs hs)
small_begin n f fs (Sign OpenBracket) h hs = (omega arith, all_small_more n fs hs)
small_begin n f fs (Sign Tilde) h hs = (omega arith, all_small_more n fs hs)
small_begin n f fs (Sign OpenParen) h hs = (omega arith, (omega arith, all_small_more n fs hs))
small_begin n f fs _ h hs = tt

small_after : (n : ℕ) (u : Bounded) (f : Frame Bounded) (fs : List (Frame Bounded)) (t : Tok) → f.denials ≤ n → AllSmall n fs → SmallOf (n + 1) (next_after limited u f fs t)
small_after n u f fs (Sign And) h hs = (omega arith, all_small_more n fs hs)
small_after n u f fs (Sign Or) h hs = (omega arith, all_small_more n fs hs)
small_after n u f fs (Sign Equals) h hs = (omega arith, all_small_more n fs hs)
small_after n u f [] (Sign CloseParen) h hs = tt
small_after n u f (g ∷ fs) (Sign CloseParen) h hs = (omega (arith, hs.0), all_small_more n fs hs.1)
small_after n u f [] (Sign Semicolon) h hs = (omega arith, tt)
small_after n u f (g ∷ fs) (Sign Semicolon) h hs = tt
small_after n u f fs _ h hs = tt

small_atom : (n : ℕ) (m : Move AtomPlace Found) (f : Frame Bounded) (fs : List (Frame Bounded)) → f.denials ≤ n → AllSmall n fs → SmallOf (n + 1) (placed (place_after limited m) f fs)
small_atom n (Go p) f fs h hs = (omega arith, all_small_more n fs hs)
small_atom n (Finish a) f fs h hs = (omega arith, all_small_more n fs hs)
small_atom n Bad f fs h hs = tt

small_next_in : (n : ℕ) (p : Place Bounded) (f : Frame Bounded) (fs : List (Frame Bounded)) (t : Tok) → f.denials + put_off p ≤ n → AllSmall n fs → SmallOf (n + 1) (next_in limited p f fs t)
small_next_in n Begin f fs t h hs = small_begin n f fs t (omega arith) hs
small_next_in n (AfterNot w) f fs (Sign Equals) h hs = (omega arith, all_small_more n fs hs)
small_next_in n (AfterNot w) f fs (Sign Less) h hs = (omega arith, all_small_more n fs hs)
small_next_in n (AfterNot w) f fs (Sign Bang) h hs = (omega arith, all_small_more n fs hs)
small_next_in n (AfterNot w) f fs t h hs = small_begin n (with_denial f) fs t (omega arith) hs
small_next_in n (AfterWord b w) f fs (Sign Equals) h hs = (omega arith, all_small_more n fs hs)
small_next_in n (AfterWord b w) f fs (Sign Less) h hs = (omega arith, all_small_more n fs hs)
small_next_in n (AfterWord b w) f fs (Sign Bang) h hs = (omega arith, all_small_more n fs hs)
small_next_in n (AfterWord b w) f fs t h hs = small_after n (said limited b) f fs t (omega arith) hs
small_next_in n (AfterWordEquals b w) f fs (Sign Greater) h hs = (omega arith, all_small_more n fs hs)
small_next_in n (AfterWordEquals b w) f fs t h hs = small_atom n (next_atom (AfterEquals (Location w)) t) f fs (omega arith) hs
small_next_in n (InAtom p) f fs t h hs = small_atom n (next_atom p t) f fs (omega arith) hs
small_next_in n (AfterUnit u) f fs t h hs = small_after n u f fs t (omega arith) hs
small_next_in n (Implying u) f fs (Sign Greater) h hs = (omega arith, all_small_more n fs hs)
small_next_in n (Implying u) f fs t h hs = tt
small_next_in n (Whole u) f fs t h hs = tt

pub small_next : (n : ℕ) (s : State Bounded) (t : Tok) → Small n s → SmallOf (n + 1) (next limited s t)
small_next n s t h = small_next_in n s.place s.frame s.below t h.0 h.1

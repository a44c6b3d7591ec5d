-- Reading with bounded values gives what reading gives, bounded.
use Rattle.std.proofs.Common.{◌≡◌, ℕ, zero, suc, ◌+◌, max, Bool, true, false, List, [], ◌∷◌, ◌++◌, Option, Some, None, Result, Ok, Err, refl, ap, ◌∙◌, arith}
use Rattle.std.specs.Prelude.{nat_le, if◌then◌else◌, option_map}
use Rattle.std.proofs.lemmas.Bool.Decides.{nat_tests}
use Rattle.fs_kinds.specs.Limits.{most_depth}
use Rattle.fs_litmus_tokens.specs.Tokens.{Tok, Lined, Word, Sign}
use Rattle.fs_litmus_tokens.specs.Sections.{Move, Go, Finish, Bad}
use Rattle.fs_litmus_tokens.specs.Values.{Target, Location, Value}
use Rattle.fs_litmus_tokens.specs.declared.word.Class.TheVariants as class
use Rattle.fs_litmus_tokens.specs.declared.token.Mark.TheVariants.{Equals, Less, Greater, Bang, OpenBracket, Tilde, OpenParen, CloseParen, And, Or, Semicolon}
use Rattle.fs_litmus_syntax.specs.Grammar.{Syntax, Atom, Deny, Group, Both, Either}
use Rattle.fs_litmus_syntax.specs.Meaning as meaning
use Rattle.fs_litmus_syntax.specs.Meaning.{Condition, condition_of, written_depth, grouped_depth}
use Rattle.fs_litmus_syntax.specs.Machine.{AtomPlace, AfterEquals, Found, Frame, Place, Begin, AfterNot, AfterWord, AfterWordEquals, InAtom, AfterUnit, Implying, Whole, State, joined, denied, empty, with_denial, at, start, next_atom, next_begin, atoms_at, product_of, sum_of, total_of, with_premise, next_after, said, found_unit, place_after, placed, next_in, next, whole_of, end_in, end_of, ended, went, read}
use Rattle.fs_litmus_syntax.specs.Limited as limits
use Rattle.fs_litmus_syntax.specs.Limited.{Bounded, Deep, Fine, connected, in_parentheses, limited, bounded}
use Rattle.fs_litmus_syntax.proofs.Residual.{tree}
use Rattle.fs_litmus_syntax.proofs.ConditionReading.{Scan}

abbrev bounded_at : ℕ → ℕ → Condition → Bounded
bounded_at w g c = if nat_le (max w g) most_depth then Fine w g c else Deep

denial_at : (w g : ℕ) (c : Condition) → limits.with_denial (bounded_at w g c) ≡ bounded_at (w + 1) (g + 1) (meaning.Deny c)
denial_at w g c = grind (arith, nat_tests)

group_at : (w g : ℕ) (c : Condition) → in_parentheses (bounded_at w g c) ≡ bounded_at (w + 1) g c
group_at w g c = grind (arith, nat_tests)

connected_at : (f : Condition → Condition → Condition) (m g n h : ℕ) (a b : Condition) → connected f (bounded_at m g a) (bounded_at n h b) ≡ bounded_at (max m n) (max g h + 1) (f a b)
connected_at f m g n h a b = grind (arith, nat_tests)

denied_bounded : (n : ℕ) (u : Syntax) → denied limited.deny n (bounded u) ≡ bounded (denied Deny n u)
denied_bounded zero u = refl
denied_bounded (suc n) u =
    let s = denied Deny n u in
    ap limited.deny (denied_bounded n u) ∙ denial_at (written_depth s) (grouped_depth (condition_of s)) (condition_of s)

group_bounded : (u : Syntax) → in_parentheses (bounded u) ≡ bounded (Group u)
group_bounded u = group_at (written_depth u) (grouped_depth (condition_of u)) (condition_of u)

both_bounded : (a b : Syntax) → limited.both (bounded a) (bounded b) ≡ bounded (Both a b)
both_bounded a b =
    connected_at meaning.Both (written_depth a) (grouped_depth (condition_of a)) (written_depth b) (grouped_depth (condition_of b)) (condition_of a) (condition_of b)

either_bounded : (a b : Syntax) → limited.either (bounded a) (bounded b) ≡ bounded (Either a b)
either_bounded a b =
    connected_at meaning.Either (written_depth a) (grouped_depth (condition_of a)) (written_depth b) (grouped_depth (condition_of b)) (condition_of a) (condition_of b)

joined_bounded : (f : Syntax → Syntax → Syntax) (g : Bounded → Bounded → Bounded) → ((a b : Syntax) → g (bounded a) (bounded b) ≡ bounded (f a b)) → (o : Option Syntax) (u : Syntax) → joined g (option_map bounded o) (bounded u) ≡ bounded (joined f o u)
joined_bounded f g h None u = refl
joined_bounded f g h (Some a) u = h a u

frame_map : Frame Syntax → Frame Bounded
frame_map f = record { premises = option_map bounded f.premises; sum = option_map bounded f.sum; product = option_map bounded f.product; denials = f.denials }

abbrev place_map : Place Syntax → Place Bounded
place_map Begin = Begin
place_map (AfterNot w) = AfterNot w
place_map (AfterWord b w) = AfterWord b w
place_map (AfterWordEquals b w) = AfterWordEquals b w
place_map (InAtom p) = InAtom p
place_map (AfterUnit u) = AfterUnit (bounded u)
place_map (Implying u) = Implying (bounded u)
place_map (Whole u) = Whole (bounded u)

abbrev frames_map : List (Frame Syntax) → List (Frame Bounded)
frames_map [] = []
frames_map (f ∷ fs) = frame_map f ∷ frames_map fs

abbrev state_map : State Syntax → State Bounded
state_map s = at (place_map s.place) (frame_map s.frame) (frames_map s.below)

product_bounded : (f : Frame Syntax) (u : Syntax) → product_of limited (frame_map f) (bounded u) ≡ bounded (product_of tree f u)
unfolding frame_map
product_bounded f u =
    ap (joined limited.both (option_map bounded f.product)) (denied_bounded f.denials u)
    ∙ joined_bounded Both limited.both both_bounded f.product (denied Deny f.denials u)

sum_bounded : (f : Frame Syntax) (u : Syntax) → sum_of limited (frame_map f) (bounded u) ≡ bounded (sum_of tree f u)
unfolding frame_map
sum_bounded f u =
    ap (joined limited.either (option_map bounded f.sum)) (product_bounded f u)
    ∙ joined_bounded Either limited.either either_bounded f.sum (product_of tree f u)

total_bounded : (f : Frame Syntax) (u : Syntax) → total_of limited (frame_map f) (bounded u) ≡ bounded (total_of tree f u)
unfolding frame_map
total_bounded f u =
    ap (joined limited.either (option_map bounded f.premises)) (sum_bounded f u)
    ∙ joined_bounded Either limited.either either_bounded f.premises (sum_of tree f u)

premise_bounded : (f : Frame Syntax) (u : Syntax) → joined limited.either (option_map bounded f.premises) (limited.deny (sum_of limited (frame_map f) (bounded u))) ≡ bounded (joined Either f.premises (Deny (sum_of tree f u)))
premise_bounded f u =
    ap (λ x. joined limited.either (option_map bounded f.premises) (limited.deny x)) (sum_bounded f u)
    ∙ ap (joined limited.either (option_map bounded f.premises)) (denied_bounded 1 (sum_of tree f u))
    ∙ joined_bounded Either limited.either either_bounded f.premises (Deny (sum_of tree f u))

implied_bounded : (u : Syntax) (f : Frame Syntax) (fs : List (Frame Syntax)) → Some (at Begin (with_premise limited (frame_map f) (bounded u)) (frames_map fs)) ≡ option_map state_map (Some (at Begin (with_premise tree f u) fs))
unfolding frame_map
implied_bounded u f fs =
    ap (λ x. Some (at Begin (record { premises = Some x; sum = None; product = None; denials = 0 }) (frames_map fs))) (premise_bounded f u)

said_bounded : (b : Bool) → said limited b ≡ bounded (said tree b)
said_bounded true = refl
said_bounded false = refl

begin_bounded : (f : Frame Syntax) (fs : List (Frame Syntax)) (t : Tok) → next_begin (frame_map f) (frames_map fs) t ≡ option_map state_map (next_begin f fs t)
unfolding frame_map
begin_bounded f fs (Word class.Number w) = refl
begin_bounded f fs (Word class.NotWord w) = refl
begin_bounded f fs (Word class.TrueWord w) = refl
begin_bounded f fs (Word class.FalseWord w) = refl
begin_bounded f fs (Word class.Other w) = refl
begin_bounded f fs (Word c w) = refl
begin_bounded f fs (Sign OpenBracket) = refl
begin_bounded f fs (Sign Tilde) = refl
begin_bounded f fs (Sign OpenParen) = refl
begin_bounded f fs _ = refl

after_bounded : (u : Syntax) (f : Frame Syntax) (fs : List (Frame Syntax)) (t : Tok) → next_after limited (bounded u) (frame_map f) (frames_map fs) t ≡ option_map state_map (next_after tree u f fs t)
unfolding frame_map
after_bounded u f fs (Sign And) =
    ap (λ x. Some (at Begin (record { premises = option_map bounded f.premises; sum = option_map bounded f.sum; product = Some x; denials = 0 }) (frames_map fs))) (product_bounded f u)
after_bounded u f fs (Sign Or) =
    ap (λ x. Some (at Begin (record { premises = option_map bounded f.premises; sum = Some x; product = None; denials = 0 }) (frames_map fs))) (sum_bounded f u)
after_bounded u f fs (Sign Equals) = refl
after_bounded u f [] (Sign CloseParen) = refl
after_bounded u f (g ∷ fs) (Sign CloseParen) =
    ap (λ x. Some (at (AfterUnit x) (frame_map g) (frames_map fs))) (ap in_parentheses (total_bounded f u) ∙ group_bounded (total_of tree f u))
after_bounded u f [] (Sign Semicolon) = ap (λ x. Some (at (Whole x) empty [])) (total_bounded f u)
after_bounded u f (g ∷ fs) (Sign Semicolon) = refl
after_bounded u f fs _ = refl

found_bounded : (d : Bool) (t : Target) (v : Value) → found_unit limited d t v ≡ bounded (found_unit tree d t v)
found_bounded false t v = refl
found_bounded true t v = denied_bounded 1 (Atom t v)

atom_bounded : (m : Move AtomPlace Found) (f : Frame Syntax) (fs : List (Frame Syntax)) → placed (place_after limited m) (frame_map f) (frames_map fs) ≡ option_map state_map (placed (place_after tree m) f fs)
atom_bounded (Go p) f fs = refl
atom_bounded (Finish a) f fs = ap (λ u. Some (at (AfterUnit u) (frame_map f) (frames_map fs))) (found_bounded a.0 a.1 a.2)
atom_bounded Bad f fs = refl

next_bounded : (p : Place Syntax) (f : Frame Syntax) (fs : List (Frame Syntax)) (t : Tok) → next_in limited (place_map p) (frame_map f) (frames_map fs) t ≡ option_map state_map (next_in tree p f fs t)
unfolding frame_map
next_bounded Begin f fs t = begin_bounded f fs t
next_bounded (AfterNot w) f fs (Sign Equals) = refl
next_bounded (AfterNot w) f fs (Sign Less) = refl
next_bounded (AfterNot w) f fs (Sign Bang) = refl
next_bounded (AfterNot w) f fs t = begin_bounded (with_denial f) fs t
next_bounded (AfterWord b w) f fs (Sign Equals) = refl
next_bounded (AfterWord b w) f fs (Sign Less) = refl
next_bounded (AfterWord b w) f fs (Sign Bang) = refl
next_bounded (AfterWord b w) f fs t = ap (λ u. next_after limited u (frame_map f) (frames_map fs) t) (said_bounded b) ∙ after_bounded (said tree b) f fs t
next_bounded (AfterWordEquals b w) f fs (Sign Greater) = ap (λ u. Some (at Begin (with_premise limited (frame_map f) u) (frames_map fs))) (said_bounded b) ∙ implied_bounded (said tree b) f fs
next_bounded (AfterWordEquals b w) f fs t = atom_bounded (next_atom (AfterEquals (Location w)) t) f fs
next_bounded (InAtom p) f fs t = atom_bounded (next_atom p t) f fs
next_bounded (AfterUnit u) f fs t = after_bounded u f fs t
next_bounded (Implying u) f fs (Sign Greater) = implied_bounded u f fs
next_bounded (Implying u) f fs t = refl
next_bounded (Whole u) f fs t = refl

whole_bounded : (p : Place Syntax) → whole_of (place_map p) ≡ option_map bounded (whole_of p)
whole_bounded (Whole u) = refl
whole_bounded _ = refl

end_bounded : (p : Place Syntax) (f : Frame Syntax) (fs : List (Frame Syntax)) → end_in limited (place_map p) (frame_map f) (frames_map fs) ≡ option_map bounded (end_in tree p f fs)
end_bounded (AfterWord b w) f [] = ap Some (ap (total_of limited (frame_map f)) (said_bounded b) ∙ total_bounded f (said tree b))
end_bounded (AfterUnit u) f [] = ap Some (total_bounded f u)
end_bounded _ f [] = refl
end_bounded p f (g ∷ fs) = whole_bounded p

atoms_bounded : (p : Place Syntax) (t : Tok) → atoms_at (place_map p) t ≡ atoms_at p t
atoms_bounded (InAtom p) t = refl
atoms_bounded (AfterWordEquals b w) t = refl
atoms_bounded _ t = refl

abbrev pub result_bounded : Scan → Result (Bounded × List (Target × Value)) (List Lined)
result_bounded (Ok x) = Ok (bounded x.0, x.1)
result_bounded (Err rest) = Err rest

ended_bounded : (o : Option Syntax) (found : List (Target × Value)) → ended limited (option_map bounded o) found ≡ result_bounded (ended tree o found)
ended_bounded None found = refl
ended_bounded (Some c) found = refl

went_bounded : (o : Option (State Syntax)) (found : List (Target × Value)) (ts us : List Lined) → ((s : State Syntax) → read limited (state_map s) found ts ≡ result_bounded (read tree s found ts)) → went limited (option_map state_map o) (λ s. read limited s found ts) us ≡ result_bounded (went tree o (λ s. read tree s found ts) us)
went_bounded None found ts us h = refl
went_bounded (Some s) found ts us h = h s

read_bounded : (s : State Syntax) (found : List (Target × Value)) (ts : List Lined) → read limited (state_map s) found ts ≡ result_bounded (read tree s found ts)
read_bounded s found [] = ap (λ o. ended limited o found) (end_bounded s.place s.frame s.below) ∙ ended_bounded (end_of tree s) found
read_bounded s found (x ∷ ts) =
    ap (λ a. went limited (next_in limited (place_map s.place) (frame_map s.frame) (frames_map s.below) x.0) (λ s'. read limited s' (found ++ a) ts) (x ∷ ts)) (atoms_bounded s.place x.0)
    ∙ ap (λ o. went limited o (λ s'. read limited s' (found ++ atoms_at s.place x.0) ts) (x ∷ ts)) (next_bounded s.place s.frame s.below x.0)
    ∙ went_bounded (next tree s x.0) (found ++ atoms_at s.place x.0) ts (x ∷ ts) (λ s'. read_bounded s' (found ++ atoms_at s.place x.0) ts)

pub read_start : (ts : List Lined) → read limited start [] ts ≡ result_bounded (read tree start [] ts)
unfolding frame_map
read_start ts = read_bounded start [] ts

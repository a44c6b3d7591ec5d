-- A walk over the bytes of a text.
use Rattle.std.proofs.Common.{◌≡◌, ℕ, ◌+◌, ◌<◌, List, [], ◌∷◌, Option, None, Some, Bool, true, false, cond, refl, sym, ap, ◌∙◌, subst, zero, suc, ◌-◌, length, length-drop, ◌≤◌, ◌==◌, ◌&&◌, drop, take, get_or, arith, option_map}
use Rattle.std.specs.List.{prefix_len}
use Rattle.fs_litmus_tokens.specs.declared.token.Mark.TheVariants as mark
use Rattle.std.proofs.lemmas.List.{at_drop_more, drop-drop}
use Rattle.fs_litmus_tokens.specs.Bytes.{is_letter, is_blank, begins, closing, comment_from, comment_end, tail}
use Rattle.fs_litmus_tokens.specs.Tokens.{Tok, Sign, word, Front, Skip, Take, Unclosed, after_comment, single, mark_of, piece, AreTokens, none as no_tokens, skip as skips, token as takes, unclosed as unclosed}
use Rattle.fs_app_error_messages.specs.Walks.{AreAtMost, BeginsAt, here, skip, later, Blank, Token, Open, shape_of, ends_comment, begins_comment}

-- what comes after a comment, in whatever line
abbrev pub after : ℕ → Bool → List ℕ → Option (List ℕ)
after inner second bs = option_map (λ x. x.0) (comment_from inner second bs 0)

abbrev rest_of : Option (List ℕ × ℕ) → Option (List ℕ)
rest_of o = option_map (λ x. x.0) o

picked : (ends begins : Bool) (x y z u v w : Option (List ℕ × ℕ)) → rest_of x ≡ rest_of u → rest_of y ≡ rest_of v → rest_of z ≡ rest_of w → rest_of (cond ends x (cond begins y z)) ≡ rest_of (cond ends u (cond begins v w))
picked true begins x y z u v w e f g = e
picked false true x y z u v w e f g = f
picked false false x y z u v w e f g = g

closing_any : (inner : ℕ) (rest : List ℕ) (l m : ℕ) (x y : Option (List ℕ × ℕ)) → rest_of x ≡ rest_of y → rest_of (closing inner rest l x) ≡ rest_of (closing inner rest m y)
closing_any zero rest l m x y e = refl
closing_any (suc inner) rest l m x y e = e

closing_inside : (inner : ℕ) (rest : List ℕ) (l : ℕ) (x : Option (List ℕ × ℕ)) → 0 < inner → closing inner rest l x ≡ x
closing_inside zero rest l x some = absurd (omega (arith, some))
closing_inside (suc inner) rest l x some = refl

any_from : (inner : ℕ) (second : Bool) (bs : List ℕ) (l m : ℕ) → rest_of (comment_from inner second bs l) ≡ rest_of (comment_from inner second bs m)
any_from inner second [] l m = refl
any_from inner true (b ∷ bs) l m = any_from inner false bs l m
any_from inner false (b ∷ bs) l m =
    picked (ends_comment b bs) (begins_comment b bs) _ _ _ _ _ _ (closing_any inner (tail bs) l m _ _ (any_from (inner - 1) true bs l m)) (any_from (inner + 1) true bs l m) (any_from inner false bs _ _)

any_line : (bs : List ℕ) (l m : ℕ) → rest_of (comment_end bs l) ≡ rest_of (comment_end bs m)
any_line bs l m = any_from 0 false bs l m

tail_drop : (bs : List ℕ) → tail bs ≡ drop 1 bs
tail_drop [] = refl
tail_drop (b ∷ bs) = refl

pub alike : (xs : List ℕ) (i j : ℕ) (s t : Bool) → i ≡ j → s ≡ t → after i s xs ≡ after j t xs
alike xs i j s t e f = ap (λ n. after n s xs) e ∙ ap (λ b. after j b xs) f

module _ (bs : List ℕ) (i d : ℕ) (next : List ℕ) (low : i < length bs) (same : next ≡ drop (i + 1) bs) where
  abbrev byte : ℕ
  byte = get_or bs i d

  -- a test of this byte and those behind it
  tested : (test : ℕ → List ℕ → Bool) (r b : Bool) → r ≡ test byte next → r ≡ b → test byte (drop (i + 1) bs) ≡ b
  tested test r b is e = subst (λ l. test byte l ≡ b) same (sym is ∙ e)

  pub second_step : (inner : ℕ) → after inner false (drop (i + 1) bs) ≡ after inner true (drop i bs)
  second_step inner = sym (at_drop_more (after inner true) bs i d low)

  pub inner_step : (inner : ℕ) (ends : Bool) → 0 < inner → ends ≡ ends_comment byte next → ends ≡ true → after (inner - 1) true (drop (i + 1) bs) ≡ after inner false (drop i bs)
  inner_step inner ends some is e =
      let f = tested ends_comment ends true is e in
      sym (at_drop_more (after inner false) bs i d low ∙ (rw f (ap rest_of (closing_inside inner _ 0 _ some))))

  pub outer_step : (inner : ℕ) (ends begins : Bool) → ends ≡ ends_comment byte next → ends ≡ false → begins ≡ begins_comment byte next → begins ≡ true → after (inner + 1) true (drop (i + 1) bs) ≡ after inner false (drop i bs)
  outer_step inner ends begins is e is2 e2 =
      let f = tested ends_comment ends false is e in
      let g = tested begins_comment begins true is2 e2 in
      sym (at_drop_more (after inner false) bs i d low ∙ (rw (f, g) refl))

  pub plain_step : (inner : ℕ) (ends begins : Bool) → ends ≡ ends_comment byte next → ends ≡ false → begins ≡ begins_comment byte next → begins ≡ false → after inner false (drop (i + 1) bs) ≡ after inner false (drop i bs)
  plain_step inner ends begins is e is2 e2 =
      let f = tested ends_comment ends false is e in
      let g = tested begins_comment begins false is2 e2 in
      sym (at_drop_more (after inner false) bs i d low ∙ (rw (f, g) (any_from inner false (drop (i + 1) bs) _ 0)))

  pub comment_here : (ends : Bool) → ends ≡ ends_comment byte next → ends ≡ true → Some (drop (i + 2) bs) ≡ after 0 false (drop i bs)
  comment_here ends is e =
      let f = tested ends_comment ends true is e in
      let two : drop (i + 2) bs ≡ drop 1 (drop (i + 1) bs) = simp drop-drop (ap (λ n. drop n bs) (omega arith)) in
      ap Some (two ∙ sym (tail_drop (drop (i + 1) bs))) ∙ sym (at_drop_more (after 0 false) bs i d low ∙ (rw f refl))

-- ---- from token to token

blank_of : (f : Front) (rest : List ℕ) → Blank rest ≡ shape_of f → (next : ℕ) × (f ≡ Skip rest next)
blank_of (Skip r n) rest e = let same : r ≡ rest = cc in (n, ap (λ l. Skip l n) same)
blank_of (Take t r) rest e = absurd (cc)
blank_of Unclosed rest e = absurd (cc)

token_of : (f : Front) (rest : List ℕ) → Token rest ≡ shape_of f → (t : Tok) × (f ≡ Take t rest)
token_of (Skip r n) rest e = absurd (cc)
token_of (Take t r) rest e = let same : r ≡ rest = cc in (t, ap (λ l. Take t l) same)
token_of Unclosed rest e = absurd (cc)

further : (text all : List ℕ) (i len : ℕ) → all ≡ drop i text → drop (i + len) text ≡ drop len all
further text all i len e = sym (ap (drop len) e ∙ drop-drop len i text)

pub blank_step : (text all after at : List ℕ) (i len left b : ℕ) → all ≡ drop i text → all ≡ b ∷ after → Blank (drop len (b ∷ after)) ≡ shape_of (piece b after 0) → BeginsAt left (drop (i + len) text) at → BeginsAt left (drop i text) at
blank_step text all behind at i len left b begun split e h =
    let f = blank_of _ _ e in
    let next = subst (λ l. BeginsAt left l at) (further text all i len begun ∙ ap (drop len) split) h in
    subst (λ l. BeginsAt left l at) (sym split ∙ begun) (skip f.1 next)

pub token_step : (text all after at : List ℕ) (i len left less b : ℕ) → all ≡ drop i text → all ≡ b ∷ after → Token (drop len (b ∷ after)) ≡ shape_of (piece b after 0) → left ≡ suc less → BeginsAt less (drop (i + len) text) at → BeginsAt left (drop i text) at
token_step text all behind at i len left less b begun split e count h =
    let f = token_of _ _ e in
    let next = subst (λ l. BeginsAt less l at) (further text all i len begun ∙ ap (drop len) split) h in
    subst (λ n. BeginsAt n (drop i text) at) (sym count) (subst (λ l. BeginsAt (suc less) l at) (sym split ∙ begun) (later f.1 next))

pub token_here : (text all after : List ℕ) (i len left b : ℕ) → all ≡ drop i text → all ≡ b ∷ after → Token (drop len (b ∷ after)) ≡ shape_of (piece b after 0) → left ≡ 0 → BeginsAt left (drop i text) (drop i text)
token_here text all behind i len left b begun split e none =
    let f = token_of _ _ e in
    subst (λ n. BeginsAt n (drop i text) (drop i text)) (sym none) (subst (λ l. BeginsAt 0 l l) (sym split ∙ begun) (here f.1))

-- ---- what stands at the front in another line

shape_comment : (x y : Option (List ℕ × ℕ)) → rest_of x ≡ rest_of y → shape_of (after_comment x) ≡ shape_of (after_comment y)
shape_comment None None e = refl
shape_comment None (Some q) e = absurd (cc)
shape_comment (Some p) None e = absurd (cc)
shape_comment (Some p) (Some q) e = let same : p.0 ≡ q.0 = cc in ap Blank same

shape_front : (newline blank letter and or comment : Bool) (bs : List ℕ) (l m : ℕ) (w x y z : Front) (p q : Option (List ℕ × ℕ)) → rest_of p ≡ rest_of q → shape_of (cond newline (Skip bs (l + 1)) (cond blank (Skip bs l) (cond letter w (cond and x (cond or y (cond comment (after_comment p) z)))))) ≡ shape_of (cond newline (Skip bs (m + 1)) (cond blank (Skip bs m) (cond letter w (cond and x (cond or y (cond comment (after_comment q) z))))))
shape_front true blank letter and or comment bs l m w x y z p q e = refl
shape_front false true letter and or comment bs l m w x y z p q e = refl
shape_front false false true and or comment bs l m w x y z p q e = refl
shape_front false false false true or comment bs l m w x y z p q e = refl
shape_front false false false false true comment bs l m w x y z p q e = refl
shape_front false false false false false true bs l m w x y z p q e = shape_comment p q e
shape_front false false false false false false bs l m w x y z p q e = refl

shape_line : (b : ℕ) (bs : List ℕ) (l m : ℕ) → shape_of (piece b bs l) ≡ shape_of (piece b bs m)
shape_line b bs l m =
    shape_front (b == 10) (is_blank b) (is_letter b) (b == 47 && begins 92 bs) (b == 92 && begins 47 bs) (b == 40 && begins 42 bs) bs l m (Take (word (take (prefix_len is_letter (b ∷ bs)) (b ∷ bs))) (drop (prefix_len is_letter (b ∷ bs)) (b ∷ bs))) (Take (Sign mark.And) (tail bs)) (Take (Sign mark.Or) (tail bs)) (single (mark_of b) bs) (comment_end (tail bs) l) (comment_end (tail bs) m) (any_line (tail bs) l m)

-- ---- how many tokens there are at most

few_blank : (b : ℕ) (bs next : List ℕ) (n : ℕ) → Blank next ≡ shape_of (piece b bs 0) → AreAtMost next n → AreAtMost (b ∷ bs) n
few_blank b bs next n e h line ts closed (skips {next = l} {rest = rest} f g) =
    let same : next ≡ rest = let all = e ∙ shape_line b bs 0 line ∙ ap shape_of f in cc in
    h l ts closed (subst (λ r. AreTokens r l ts closed) (sym same) g)
few_blank b bs next n e h line ts closed (takes f g) = let all = e ∙ shape_line b bs 0 line ∙ ap shape_of f in absurd (cc)
few_blank b bs next n e h line ts closed (unclosed f) = omega arith

few_token : (b : ℕ) (bs next : List ℕ) (n : ℕ) → Token next ≡ shape_of (piece b bs 0) → AreAtMost next n → AreAtMost (b ∷ bs) (suc n)
few_token b bs next n e h line ts closed (skips f g) = let all = e ∙ shape_line b bs 0 line ∙ ap shape_of f in absurd (cc)
few_token b bs next n e h line ts closed (takes {rest = rest} {ts = us} f g) =
    let same : next ≡ rest = let all = e ∙ shape_line b bs 0 line ∙ ap shape_of f in cc in
    let few = h line us closed (subst (λ r. AreTokens r line us closed) (sym same) g) in
    omega (arith, few)
few_token b bs next n e h line ts closed (unclosed f) = omega arith

few_open : (b : ℕ) (bs : List ℕ) (n : ℕ) → Open ≡ shape_of (piece b bs 0) → AreAtMost (b ∷ bs) n
few_open b bs n e line ts closed (skips f g) = let all = e ∙ shape_line b bs 0 line ∙ ap shape_of f in absurd (cc)
few_open b bs n e line ts closed (takes f g) = let all = e ∙ shape_line b bs 0 line ∙ ap shape_of f in absurd (cc)
few_open b bs n e line ts closed (unclosed f) = omega arith

few_none : (bs : List ℕ) (n : ℕ) → length bs ≡ 0 → AreAtMost bs n
few_none [] n e line ts closed no_tokens = omega arith
few_none (b ∷ bs) n e line ts closed h = absurd (cc)

pub blank_few : (text all after : List ℕ) (i len left b : ℕ) → all ≡ drop i text → all ≡ b ∷ after → Blank (drop len (b ∷ after)) ≡ shape_of (piece b after 0) → AreAtMost (drop (i + len) text) left → AreAtMost (drop i text) left
blank_few text all behind i len left b begun split e h =
    let next = subst (λ l. AreAtMost l left) (further text all i len begun ∙ ap (drop len) split) h in
    subst (λ l. AreAtMost l left) (sym split ∙ begun) (few_blank b behind (drop len (b ∷ behind)) left e next)

pub token_few : (text all after : List ℕ) (i len left less b : ℕ) → all ≡ drop i text → all ≡ b ∷ after → Token (drop len (b ∷ after)) ≡ shape_of (piece b after 0) → left ≡ suc less → AreAtMost (drop (i + len) text) less → AreAtMost (drop i text) left
token_few text all behind i len left less b begun split e count h =
    let next = subst (λ l. AreAtMost l less) (further text all i len begun ∙ ap (drop len) split) h in
    subst (λ n. AreAtMost (drop i text) n) (sym count) (subst (λ l. AreAtMost l (suc less)) (sym split ∙ begun) (few_token b behind (drop len (b ∷ behind)) less e next))

pub open_few : (text all after : List ℕ) (i left b : ℕ) → all ≡ drop i text → all ≡ b ∷ after → Open ≡ shape_of (piece b after 0) → AreAtMost (drop i text) left
open_few text all behind i left b begun split e = subst (λ l. AreAtMost l left) (sym split ∙ begun) (few_open b behind left e)

pub end_few : (text all : List ℕ) (i left : ℕ) → all ≡ drop i text → length all ≡ 0 → AreAtMost (drop i text) left
end_few text all i left begun end = subst (λ l. AreAtMost l left) begun (few_none all left end)

-- so many bytes are left
pub bytes_left : (text all after : List ℕ) (i b : ℕ) → all ≡ drop i text → all ≡ b ∷ after → i + (length after + 1) ≤ length text
bytes_left text all behind i b begun split =
    let e : length (drop i text) ≡ length (b ∷ behind) = ap length (sym begun ∙ split) in
    omega (arith, length-drop i text, e)

-- What from_str_radix reads is a numeral.
use Rattle.std.proofs.Common.{◌≡◌, ℕ, ◌<◌, ◌≤◌, ◌^◌, List, [], ◌∷◌, Bool, true, false, ◌&&◌, cond, subst, refl, ap, length, arith, ltb, ltb-true, Option, Some, None, Result, Ok, Err, eqb-true}
use Rattle.std.specs.Char.{digit_value}
use Rattle.std.specs.Result.{result_ok}
use Rattle.std.specs.Str.Parse.{AllDigits, IsNumeral, digits_value, ParsesUnsigned, without_leading_plus}
use Rattle.fs_litmus_tokens.specs.Numbers.{all_digits, is_numeral, numeral, begins_with_plus}
use Rattle.std.proofs.lemmas.Bool.Decides.{nat_tests}

abbrev pub nothing : Option ℕ
nothing = None

and_true : (a b : Bool) → (a && b) ≡ true → (a ≡ true) × (b ≡ true)
and_true true b e = (refl, e)
and_true false b e = absurd (cc)

digits_from : (radix : ℕ) (ds : List ℕ) → all_digits radix ds ≡ true → AllDigits radix ds
digits_from radix [] e = tt
digits_from radix (c ∷ cs) e =
    let both = and_true (ltb (digit_value c) radix) (all_digits radix cs) e in
    (ltb-true _ _ both.0, digits_from radix cs both.1)

digits_to : (radix : ℕ) (ds : List ℕ) → AllDigits radix ds → all_digits radix ds ≡ true
digits_to radix [] h = refl
digits_to radix (c ∷ cs) h =
    let one : ltb (digit_value c) radix ≡ true = grind (arith, nat_tests, h.0) in
    let rest = digits_to radix cs h.1 in
    rw one rest

numeral_from : (radix : ℕ) (ds : List ℕ) → is_numeral radix ds ≡ true → IsNumeral radix ds × (digits_value radix ds < 2 ^ 32)
numeral_from radix ds e =
    let both = and_true _ _ e in
    let more = and_true _ _ both.1 in
    ((ltb-true _ _ both.0, digits_from radix ds more.0), ltb-true _ _ more.1)

pub numeral_to : (radix : ℕ) (ds : List ℕ) → IsNumeral radix ds → digits_value radix ds < 2 ^ 32 → is_numeral radix ds ≡ true
numeral_to radix ds h small =
    let a : ltb 0 (length ds) ≡ true = grind (arith, nat_tests, h.0) in
    let b = digits_to radix ds h.1 in
    let c : ltb (digits_value radix ds) (2 ^ 32) ≡ true = grind (arith, nat_tests, small) in
    rw (a, b) c

no_plus : (bs : List ℕ) → begins_with_plus bs ≡ false → without_leading_plus bs ≡ bs
no_plus [] h = refl
no_plus (c ∷ cs) h = rw h refl

unread : (b : Bool) (v : ℕ) → (b ≡ true → ⊥) → nothing ≡ cond b (Some v) None
unread true v h = absurd (h refl)
unread false v h = refl

pub parsed : {E : Type 0} (radix : ℕ) (bs : List ℕ) (r : Result ℕ E) → begins_with_plus bs ≡ false → ParsesUnsigned 32 radix bs r → result_ok r ≡ numeral radix bs
unfolding numeral
parsed radix bs (Ok n) h p =
    let same = no_plus bs h in
    let q = rw same at p in
    let yes = numeral_to radix bs q.0.0 q.0.1 in
    rw yes (ap Some q.1)
parsed radix bs (Err e) h p =
    let same = no_plus bs h in
    let q = rw same at p in
    unread (is_numeral radix bs) (digits_value radix bs) (λ yes. q (numeral_from radix bs yes))

no_digit : (radix : ℕ) (bs : List ℕ) → radix ≤ 36 → begins_with_plus bs ≡ true → AllDigits radix bs → ⊥
no_digit radix [] small e h = absurd (cc)
no_digit radix (c ∷ cs) small e h =
    let low : digit_value 43 < radix = subst (λ x. digit_value x < radix) (eqb-true c 43 e) h.0 in
    let below : 36 < radix = low in
    omega arith

pub plus : (radix : ℕ) (bs : List ℕ) → radix ≤ 36 → begins_with_plus bs ≡ true → nothing ≡ numeral radix bs
unfolding numeral
plus radix bs small e =
    unread (is_numeral radix bs) (digits_value radix bs) (λ yes. no_digit radix bs small e (numeral_from radix bs yes).0.1)

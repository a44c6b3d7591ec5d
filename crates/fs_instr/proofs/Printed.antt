-- What is printed reads back: registers and numbers.
use Rattle.std.proofs.Common.{◌≡◌, ℕ, ◌<◌, ◌^◌, List, [], ◌∷◌, Some, Bool, true, false, ◌&&◌, refl, sym, ap, subst, arith, eqb, eqb-true}
use borrow.Author.Count.{below_more, below_none}
use Rattle.std.specs.Fmt.{decimal, digits}
use Rattle.std.specs.Prelude.{codes, nat_eq}
use Rattle.std.specs.List.{starts_with}
use Rattle.std.specs.Str.Parse.{AllDigits, digits_value}
use Rattle.std.specs.Char.{digit_value}
use Rattle.std.proofs.lemmas.Fmt.{decimal_is_IsNumeral}
use Rattle.std.proofs.lemmas.Bool.Decides.{nat_tests}
use Rattle.fs_litmus_tokens.specs.Numbers.{number_of, numeral}
use Rattle.fs_instr.specs.Registers.{register_of, low_x, middle_x, high_x, first_names, arguments, last_names}
use Rattle.fs_instr.specs.Writing.{register_text}
use Rattle.fs_litmus_tokens.proofs.Numerals.{numeral_to}

no_hex_two : (p q : Bool) (cs : List ℕ) → (q ≡ true → ⊥) → (p && (q && true)) ≡ false
no_hex_two false q cs h = refl
no_hex_two true false cs h = refl
no_hex_two true true cs h = absurd (h refl)

-- digits don't begin with 0x
no_hex : (ds : List ℕ) → AllDigits 10 ds → starts_with nat_eq ds (codes "0x") ≡ false
no_hex [] h = refl
no_hex (a ∷ []) h = grind (arith, nat_tests)
no_hex (a ∷ b ∷ cs) h = no_hex_two (eqb 48 a) (eqb 120 b) cs (λ e. let low : digit_value 120 < 10 = subst (λ x. digit_value x < 10) (sym (eqb-true 120 b e)) h.1.0 in let bad : 33 < 10 = low in absurd (omega arith))

-- the printed number is a number
pub number_back : (n : ℕ) → n < 2 ^ 32 → number_of (decimal n) ≡ Some n
unfolding number_of numeral
number_back n small =
    let d = decimal_is_IsNumeral n (omega arith) in
    let plain = no_hex (decimal n) d.0.1 in
    let size : digits_value 10 (decimal n) < 2 ^ 32 = subst (λ k. k < 2 ^ 32) (sym d.1) small in
    let yes = numeral_to 10 (decimal n) d.0 size in
    rw (plain, yes) (ap Some d.1)

-- each register is read back
abbrev Back : ℕ → Type 0
Back r = register_of (register_text r) ≡ Some r

pub register_back : (r : ℕ) → r < 32 → Back r
unfolding register_of low_x middle_x high_x first_names arguments last_names digits
register_back =
    below_more Back 31
    (below_more Back 30
    (below_more Back 29
    (below_more Back 28
    (below_more Back 27
    (below_more Back 26
    (below_more Back 25
    (below_more Back 24
    (below_more Back 23
    (below_more Back 22
    (below_more Back 21
    (below_more Back 20
    (below_more Back 19
    (below_more Back 18
    (below_more Back 17
    (below_more Back 16
    (below_more Back 15
    (below_more Back 14
    (below_more Back 13
    (below_more Back 12
    (below_more Back 11
    (below_more Back 10
    (below_more Back 9
    (below_more Back 8
    (below_more Back 7
    (below_more Back 6
    (below_more Back 5
    (below_more Back 4
    (below_more Back 3
    (below_more Back 2
    (below_more Back 1
    (below_more Back 0 (below_none Back) refl)
    refl)
    refl)
    refl)
    refl)
    refl)
    refl)
    refl)
    refl)
    refl)
    refl)
    refl)
    refl)
    refl)
    refl)
    refl)
    refl)
    refl)
    refl)
    refl)
    refl)
    refl)
    refl)
    refl)
    refl)
    refl)
    refl)
    refl)
    refl)
    refl)
    refl)
    refl

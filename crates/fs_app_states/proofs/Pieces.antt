-- Pieces of a line.
use Rattle.std.proofs.Common.{rules, refl, sym, ap, ◌∙◌, ◌≡◌, ◌≢◌, ◌==◌, ◌<◌, ℕ, length, Bool, true, false, Option, Some, None, MatchOption, option_map, option_and_then, Result, Ok, Err, List, [], ◌∷◌, ◌++◌, map, arith}
use denote.Ref.{Bor}
use Rattle.std.specs.Char.{is_ascii_digit}
use Rattle.std.specs.List.{list_all}
use Rattle.std.specs.Result.{result_ok}
use Rattle.std.specs.Str.{trim}
use Rattle.std.specs.Str.Parse.{ParsesUnsigned, digits_value}
use Rattle.std.proofs.Math.Nat.{lt_of_not-le}
use Rattle.std.proofs.lemmas.Bool.Decides.{nat_tests}
use Rattle.std.proofs.lemmas.Str.Parse.{IsNumeralModel, IsDigitsTest, numerals_by_value, parse_digits}
use Rattle.fs_app_states.specs.Lines.{before_last, behind_first, is_number, number_in, item_of, items_in}

-- ---- ends

before_last_ends : (c : ℕ) (front : List ℕ) → before_last c (front ++ c ∷ []) ≡ Some front
before_last_ends c [] = grind (arith, nat_tests)
before_last_ends c (b ∷ []) = grind (arith, nat_tests)
before_last_ends c (b ∷ d ∷ front) = ap (option_map (λ front. b ∷ front)) (before_last_ends c (d ∷ front))

mapped_some : (b : ℕ) (o : Option (List ℕ)) (front : List ℕ) → option_map (λ front. b ∷ front) o ≡ Some front
    → (rest : List ℕ) × (o ≡ Some rest) × (front ≡ b ∷ rest)
mapped_some b None front e = absurd (cc)
mapped_some b (Some rest) front e = (rest, refl, search rules)

before_last_is : (c : ℕ) (bs front : List ℕ) → before_last c bs ≡ Some front → bs ≡ front ++ c ∷ []
before_last_is c [] front e = absurd (cc)
before_last_is c (b ∷ []) front e = grind (arith, nat_tests)
before_last_is c (b ∷ d ∷ bs) front e =
    let m = mapped_some b (before_last c (d ∷ bs)) front e in
    rw m.2 (ap (λ r. b ∷ r) (before_last_is c (d ∷ bs) m.0 m.1))

lacks_end : (c : ℕ) (bs : List ℕ) (o : Option (List ℕ)) → before_last c bs ≡ o → ((front : List ℕ) → bs ≢ front ++ (c ∷ [])) → o ≡ None
lacks_end c bs None e lacks = refl
lacks_end c bs (Some front) e lacks = absurd (lacks front (before_last_is c bs front e))

-- what `strip_suffix` gives
pub stripped : (c : ℕ) (bs : List ℕ) (r : Option (Bor (List ℕ)))
    → MatchOption r ((front : List ℕ) → bs ≢ front ++ (c ∷ [])) (λ x. bs ≡ x.now ++ (c ∷ []))
    → option_map (λ x. x.now) r ≡ before_last c bs
stripped c bs None lacks = sym (lacks_end c bs (before_last c bs) refl lacks)
stripped c bs (Some x) e = rw e (sym (before_last_ends c x.now))

-- what `strip_prefix` gives
pub unprefixed : (c : ℕ) (bs : List ℕ) (r : Option (Bor (List ℕ)))
    → MatchOption r ((rest : List ℕ) → bs ≢ c ∷ rest) (λ x. bs ≡ c ∷ x.now)
    → option_map (λ x. x.now) r ≡ behind_first c bs
unprefixed c [] None lacks = refl
unprefixed c [] (Some x) e = absurd (cc)
unprefixed c (b ∷ bs) None lacks = grind (arith, nat_tests, lacks bs)
unprefixed c (b ∷ bs) (Some x) e = grind (arith, nat_tests)

-- ---- numbers

abbrev pub AreDigits : List ℕ → Type 0
AreDigits ds = list_all is_ascii_digit ds ≡ true

tells_digits : IsDigitsTest AreDigits
tells_digits = record { empty = refl; parts = λ c cs e. grind (arith, nat_tests); more = λ c cs k e. grind (arith, nat_tests) }

own : IsNumeralModel AreDigits (digits_value 10)
own = numerals_by_value AreDigits tells_digits

-- what `parse` reads of digits
pub parsed : {E : Type 0} (bs : List ℕ) (r : Result ℕ E) → ParsesUnsigned 64 10 bs r → AreDigits bs → result_ok r ≡ number_in bs
parsed {E} bs (Ok n) h digits =
    let f = parse_digits own {E = E} 64 bs (Ok n) h digits in
    grind (arith, nat_tests)
parsed {E} bs (Err e) h digits =
    let f = parse_digits own {E = E} 64 bs (Err e) h digits in
    grind (arith, nat_tests)

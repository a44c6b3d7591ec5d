-- Lemmas on names such as `P0:3`.
use Rattle.std.proofs.Common.{false, zero, ◌≡◌, ◌≢◌, ℕ, suc, ◌<◌, ◌≤◌, List, [], ◌∷◌, ◌++◌, true, Option, Some, None, Result, Ok, Err, MatchOption, refl, ap, sym, subst, ◌∙◌, arith, length, get_or, append_assoc}
use Rattle.std.specs.Char.{is_ascii_digit}
use Rattle.std.specs.List.{list_all}
use Rattle.std.specs.Result.{result_ok}
use Rattle.std.specs.Str.Parse.{ParsesUnsigned, digits_value}
use Rattle.std.proofs.Math.Nat.{lt_of_not-le}
use Rattle.std.proofs.lemmas.Bool.Decides.{nat_tests}
use Rattle.std.proofs.lemmas.Str.Parse.{IsNumeralModel, IsDigitsTest, numerals_by_value, parse_digits, not_in_digits}
use Rattle.std.proofs.lemmas.Str.Pattern.{IsSplitOnceResult, split_after}
use denote.Ref.{Bor}
use Rattle.std.specs.Fmt.{decimal}
use Rattle.std.proofs.lemmas.Fmt.{decimal_is_IsNumeral, decimal-digits_value, first_decimal, decimal_digit}
use Rattle.fs_kinds.specs.declared.reason.OperationName.{OperationName as Name}
use Rattle.fs_kinds.specs.declared.slot.Slot.{Slot}
use Rattle.fs_kinds.specs.ReasonText.{operation_name}
use Rattle.fs_kinds.specs.Slot.{place_name, slot_name, IsSlot}
use Rattle.fs_kinds.specs.PlaceNames.{is_padded, is_numeral, Writes, IsOperationName, byte_of}
use Rattle.fs_kinds.proofs.Names.{cut-same}

abbrev pub AreDigits : List ℕ → Type 0
AreDigits ds = list_all is_ascii_digit ds ≡ true

tells_digits : IsDigitsTest AreDigits
tells_digits = record { empty = refl; parts = λ c cs e. grind (arith, nat_tests); more = λ c cs k e. grind (arith, nat_tests) }

own : IsNumeralModel AreDigits (digits_value 10)
own = numerals_by_value AreDigits tells_digits

digits_of : (bs : List ℕ) → is_numeral bs ≡ true → AreDigits bs
digits_of bs numeral = grind arith

le_of_not_lt : {n m : ℕ} → ¬ (n < m) → m ≤ n
le_of_not_lt {n} {m} not_less = let less : m < suc n = lt_of_not-le not_less in omega arith

some_of : (bs : List ℕ) → is_numeral bs ≡ true → 0 < length bs
some_of bs numeral = grind (arith, nat_tests)

pub none_some : {A : Type 0} {x : A} → None ≡ Some x → ⊥
none_some e = absurd (cc)

small : (n : ℕ) → n < 256 → byte_of n ≡ Some n
small n low = grind (arith, nat_tests)

large : (n : ℕ) → 256 ≤ n → byte_of n ≡ None
large n high = grind (arith, nat_tests)

-- what `parse` reads of a number
pub parsed : {E : Type 0} (bs : List ℕ) (r : Result ℕ E) → ParsesUnsigned 8 10 bs r → is_numeral bs ≡ true → result_ok r ≡ byte_of (digits_value 10 bs)
parsed {E} bs (Ok n) h numeral =
    let f = parse_digits own {E = E} 8 bs (Ok n) h (digits_of bs numeral) in
    let low : digits_value 10 bs < 256 = omega arith in
    ap Some f.1 ∙ sym (small (digits_value 10 bs) low)
parsed {E} bs (Err e) h numeral =
    let f = parse_digits own {E = E} 8 bs (Err e) h (digits_of bs numeral) in
    let high : 256 ≤ digits_value 10 bs = le_of_not_lt (λ low. f (some_of bs numeral, low)) in
    sym (large (digits_value 10 bs) high)

-- a name in its parts
pub in_parts : (hart at : List ℕ) → 80 ∷ (hart ++ (58 ∷ []) ++ at) ≡ 80 ∷ (hart ++ (58 ∷ at))
in_parts hart at = ap (λ bs. 80 ∷ bs) (append_assoc hart (58 ∷ []) at)

pub no_colon : (text : List ℕ) (n : ℕ) → Writes text n → (i : ℕ) → i < length text → get_or text i 0 ≢ 58
no_colon text n writes = not_in_digits own text 58 (digits_of text writes.numeral) (λ range. omega arith)

-- a name is cut at its colon
pub name_cut : (text rest hart at : List ℕ) (n : ℕ) (r : Option (Bor (List ℕ) × Bor (List ℕ))) → text ≡ 80 ∷ rest → IsSplitOnceResult 58 rest r → text ≡ 80 ∷ (hart ++ (58 ∷ []) ++ at) → Writes hart n → MatchOption r ⊥ (λ x. (x.0.now ≡ hart) × (x.1.now ≡ at))
name_cut text rest hart at n r begins cut named writes =
    let parts = in_parts hart at in
    let e : rest ≡ hart ++ (58 ∷ at) = cc in
    split_after 58 rest hart at r cut (omega arith) e (no_colon hart n writes)

not_padded : (bs : List ℕ) → 48 < get_or bs 0 0 → is_padded bs ≡ false
not_padded bs more = grind (arith, nat_tests)

decimal-not_padded : (n : ℕ) → n < 256 → is_padded (decimal n) ≡ false
decimal-not_padded zero low = rw (decimal_digit 0 (omega arith)) refl
decimal-not_padded (suc m) low = not_padded (decimal (suc m)) (first_decimal (suc m) (omega arith) (omega arith))

numeral_of : (bs : List ℕ) → 0 < length bs → is_padded bs ≡ false → AreDigits bs → is_numeral bs ≡ true
numeral_of bs some plain digits = grind (arith, nat_tests)

-- a printed number is read as itself
pub decimal-writes : (n : ℕ) → n < 256 → Writes (decimal n) n
decimal-writes n low =
    let d = decimal_is_IsNumeral n (omega arith) in
    record { numeral = numeral_of (decimal n) d.0.0 (decimal-not_padded n low) (own.from (decimal n) d.0.1); value = d.1 }

pub name-printed : (name : Name) → name.hart < 256 → name.at < 256 → IsOperationName (operation_name name) name
name-printed name hart at = (decimal name.hart, decimal name.at, refl, decimal-writes name.hart hart, decimal-writes name.at at)

-- ---- a text names one operation

number-once : (text other : List ℕ) (m n : ℕ) → Writes text m → Writes other n → text ≡ other → m ≡ n
number-once text other m n left right same = let l = left.value in let r = right.value in cc

abbrev named : ℕ → ℕ → Name
named hart at = record { hart = hart; at = at }

pub text-once : (text : List ℕ) (x y : Name) → IsOperationName text x → IsOperationName text y → x ≡ y
text-once text x y left right =
    let parts : left.0 ++ (58 ∷ left.1) ≡ right.0 ++ (58 ∷ right.1) = (let l = left.2 ∙ in_parts left.0 left.1 in let r = right.2 ∙ in_parts right.0 right.1 in cc) in
    let cut = cut-same 58 left.0 right.0 left.1 right.1 (no_colon left.0 x.hart left.3) (no_colon right.0 y.hart right.3) parts in
    let hart : x.hart ≡ y.hart = number-once left.0 right.0 x.hart y.hart left.3 right.3 cut.0 in
    let at : x.at ≡ y.at = number-once left.1 right.1 x.at y.at left.4 right.4 cut.1 in
    ap (λ h. named h x.at) hart ∙ ap (named y.hart) at

-- ---- names of slots

one_zero : (bs : List ℕ) → is_numeral bs ≡ true → get_or bs 0 0 ≡ 48 → length bs ≡ 1
one_zero bs numeral first = grind (arith, nat_tests)

in_byte : (n m : ℕ) → Some m ≡ byte_of n → (m ≡ n) × (n < 256)
in_byte n m is = grind (arith, nat_tests)

-- a number is written as it is printed
writes-decimal : (bs : List ℕ) (n : ℕ) → n < 256 → Writes bs n → bs ≡ decimal n
writes-decimal bs n low writes =
    let numeral = writes.numeral in
    let value = writes.value in
    let printed = decimal-digits_value own bs (digits_of bs numeral) (some_of bs numeral) (one_zero bs numeral) (omega arith) in
    rw (sym value) (sym printed)

pub place-named : (text : List ℕ) (name : Name) (h a : ℕ) → IsOperationName text name → Some h ≡ byte_of name.hart → Some a ≡ byte_of name.at → (text ≡ place_name h a) × (h < 256) × (a < 256)
place-named text name h a is hart at =
    let left = in_byte name.hart h hart in
    let right = in_byte name.at a at in
    let first : is.0 ≡ decimal h = rw left.0 (writes-decimal is.0 name.hart left.1 is.3) in
    let second : is.1 ≡ decimal a = rw right.0 (writes-decimal is.1 name.at right.1 is.4) in
    let begins = is.2 in
    (cc, omega arith, omega arith)

slot-written : (s : Slot) → IsSlot s → IsOperationName (slot_name s) (named s.hart s.at)
slot-written s is = name-printed (named s.hart s.at) is.0 is.1

-- the slot of a name has its numbers
pub slot-numbers : (text : List ℕ) (name : Name) (s : Slot) → IsOperationName text name → IsSlot s → text ≡ slot_name s → (byte_of name.hart ≡ Some s.hart) × (byte_of name.at ≡ Some s.at)
slot-numbers text name s is slot e =
    let same = text-once text name (named s.hart s.at) is (subst (λ bs. IsOperationName bs (named s.hart s.at)) (sym e) (slot-written s slot)) in
    (rw same (small s.hart slot.0), rw same (small s.at slot.1))

pub slot-named : (text : List ℕ) (s : Slot) → IsSlot s → text ≡ slot_name s → IsOperationName text (named s.hart s.at)
slot-named text s is e = subst (λ bs. IsOperationName bs (named s.hart s.at)) (sym e) (slot-written s is)

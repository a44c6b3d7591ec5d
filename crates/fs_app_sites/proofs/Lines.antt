-- The line of a site by its name: a name is cut at its first colon, and that of a slot has one.
use Rattle.std.proofs.Common.{◌≡◌, ◌≢◌, ◌<◌, ◌+◌, ◌==◌, ℕ, zero, suc, nat_lt, not, Bool, true, false, Option, None, Some, List, [], ◌∷◌, ◌++◌, codes, length, get_or, take, drop, cond, refl, sym, ap, subst, ◌∙◌, arith, append_assoc}
use Rattle.std.specs.List.{after_first, before_first, position_or_len, prefix_len}
use Rattle.std.specs.Fmt.{decimal}
use Rattle.std.proofs.lemmas.Bool.Decides.{nat_tests}
use Rattle.std.proofs.lemmas.List.{length-append}
use Rattle.std.proofs.lemmas.Str.Pattern.{IsSplitOnceResult, split_once_first}
use denote.Ref.{Bor}
use Rattle.fs_kinds.specs.declared.kind.Kind.{Kind}
use Rattle.fs_kinds.specs.declared.slot.Slot.{Slot}
use Rattle.fs_kinds.specs.Slot.{IsSlot, place_name, slot_name}
use Rattle.fs_kinds.proofs.Names.{not_in_decimal, place_name-parts}
use Rattle.fs_cert_evidence.specs.Texts.{fence_line}
use Rattle.fs_app_sites.specs.Printed.{has_colon, is_colon, place_text, site_line}

-- ---- cut at the first colon

below : (m n : ℕ) → m < n → nat_lt m n ≡ true
below m n low = grind (arith, nat_tests, low)

-- the parts round the first colon
pub record IsCut (name hart at : List ℕ) : Type 0 where
  pub has : has_colon name ≡ true
  pub before : before_first is_colon name ≡ hart
  pub after : after_first is_colon name ≡ at

pub is-cut : (name : List ℕ) (parts : Bor (List ℕ) × Bor (List ℕ)) → IsSplitOnceResult 58 name (Some parts)
    → IsCut name parts.0.now parts.1.now
is-cut name parts split =
    let cut = split_once_first 58 name (Some parts) split (omega arith) in
    record {
      has = below (position_or_len is_colon name) (length name) cut.0;
      before = sym cut.1;
      after = sym cut.2;
    }

-- ---- the site in words

pub text-alone : (is_alone : Bool) (name hart at : List ℕ) → is_alone ≡ true → IsCut name hart at
    → place_text is_alone name ≡ codes "fence " ++ hart ++ codes " " ++ at
text-alone is_alone name hart at alone cut = rw (alone, cut.has, cut.before, cut.after) refl

-- as it is written
pub text-written : (is_alone : Bool) (name hart at : List ℕ) → is_alone ≡ true → IsCut name hart at
    → place_text is_alone name ≡ codes "fence " ++ (hart ++ 32 ∷ at)
text-written is_alone name hart at alone cut =
    text-alone is_alone name hart at alone cut ∙ append_assoc (codes "fence " ++ hart) (codes " ") at
    ∙ append_assoc (codes "fence ") hart (32 ∷ at)

-- ---- the name of a slot

step : (b : Bool) (n m : ℕ) → b ≡ false → n ≡ m → cond (not b) (1 + n) 0 ≡ suc m
step true n m apart is = absurd (cc)
step false n m apart is = omega (arith, is)

no-colon : (b : ℕ) → b ≢ 58 → is_colon b ≡ false
no-colon b apart = grind (arith, nat_tests, apart)

first-colon : (xs ys : List ℕ) → ((i : ℕ) → i < length xs → get_or xs i 0 ≢ 58) → position_or_len is_colon (xs ++ 58 ∷ ys) ≡ length xs
first-colon [] ys lacks = refl
first-colon (x ∷ xs) ys lacks =
    step (is_colon x) (position_or_len is_colon (xs ++ 58 ∷ ys)) (length xs) (no-colon x (lacks 0 (omega arith)))
    (first-colon xs ys (λ i low. lacks (suc i) (omega arith)))

take-front : (xs ys : List ℕ) → take (length xs) (xs ++ ys) ≡ xs
take-front [] ys = refl
take-front (x ∷ xs) ys = ap (λ (zs : List ℕ). x ∷ zs) (take-front xs ys)

drop-front : (xs ys : List ℕ) (y n : ℕ) → n ≡ suc (length xs) → drop n (xs ++ y ∷ ys) ≡ ys
drop-front [] ys y n is = rw is refl
drop-front (x ∷ xs) ys y n is = rw is (drop-front xs ys y (suc (length xs)) refl)

within : (xs ys : List ℕ) (n : ℕ) → n ≡ length xs → nat_lt n (length (xs ++ 58 ∷ ys)) ≡ true
within xs ys n is =
    let long = length-append xs (58 ∷ ys) in
    below n (length (xs ++ 58 ∷ ys)) (omega (arith, is, long))

cut-at : (xs ys : List ℕ) → ((i : ℕ) → i < length xs → get_or xs i 0 ≢ 58) → IsCut (xs ++ 58 ∷ ys) xs ys
cut-at xs ys lacks =
    let at = first-colon xs ys lacks in
    record {
      has = within xs ys (position_or_len is_colon (xs ++ 58 ∷ ys)) at;
      before = ap (λ n. take n (xs ++ 58 ∷ ys)) at ∙ take-front xs (58 ∷ ys);
      after = drop-front xs ys 58 (position_or_len is_colon (xs ++ 58 ∷ ys) + 1) (omega (arith, at));
    }

lacks-front : (n : ℕ) → n < 256 → (i : ℕ) → i < length (80 ∷ decimal n) → get_or (80 ∷ decimal n) i 0 ≢ 58
lacks-front n low zero less same = omega arith
lacks-front n low (suc i) less same = not_in_decimal n 58 low (omega arith) i (omega arith) same

cut-slot : (s : Slot) → IsSlot s → IsCut (slot_name s) (80 ∷ decimal s.hart) (decimal s.at)
cut-slot s is =
    subst (λ name. IsCut name (80 ∷ decimal s.hart) (decimal s.at)) (sym (place_name-parts s.hart s.at))
    (cut-at (80 ∷ decimal s.hart) (decimal s.at) (lacks-front s.hart is.0))

pub slot-line : (s : Slot) (kind : Option Kind) → IsSlot s → site_line true (slot_name s) kind ≡ fence_line s kind
slot-line s None is = refl
slot-line s (Some kind) is =
    let told = text-alone true (slot_name s) (80 ∷ decimal s.hart) (decimal s.at) refl (cut-slot s is) in
    rw told refl

-- Lemmas on decimal numbers, and on the names of slots and kinds.
use Rattle.std.proofs.Common.{◌≡◌, ◌≢◌, ℕ, suc, zero, ◌<◌, ◌^◌, List, [], ◌∷◌, ◌++◌, Bool, true, Option, Some, None, IfSome, IfNone, MatchOption, codes, refl, ap, sym, subst, ◌∙◌, arith, length, get_or, append_assoc}
use Rattle.std.specs.Fmt.{decimal}
use Rattle.std.specs.Str.Parse.{AllDigits, digits_value}
use Rattle.fs_kinds.specs.Slot.{place_name, slot_name, IsSlot, fence_word}
use Rattle.std.proofs.lemmas.Str.Parse.{IsNumeralModel, numerals_by_value, tells_digits, not_in_digits}
use Rattle.std.proofs.lemmas.Str.Pattern.{IsSplitOnceResult, split_after}
use Rattle.std.proofs.lemmas.Slice.Eq.{bytes_eq-Decides}
use Rattle.std.specs.List.{find}
use Rattle.std.specs.Str.{bytes_eq}
use denote.Ref.{Bor}
use Rattle.fs_kinds.specs.Kind.{word, kind_of, all_kinds, table_index}
use Rattle.fs_kinds.specs.declared.slot.Slot.{Slot}
use Rattle.fs_kinds.specs.declared.kind.Kind.{Kind}
use Rattle.fs_kinds.specs.declared.kind.Kind.TheVariants.{RR, RW, RRw, WR, WW, WRw, RwR, RwW, RwRw, Tso}
use Rattle.std.proofs.lemmas.Fmt.{decimal_is_IsNumeral, decimal_injective}

pub own : IsNumeralModel (AllDigits 10) (digits_value 10)
own = numerals_by_value (AllDigits 10) tells_digits

pub place_name-parts : (h a : ℕ) → place_name h a ≡ 80 ∷ (decimal h ++ (58 ∷ decimal a))
place_name-parts h a = ap (λ bs. 80 ∷ bs) (append_assoc (decimal h) (58 ∷ []) (decimal a))

-- a number has digits alone
pub not_in_decimal : (n c : ℕ) → n < 256 → 57 < c → (i : ℕ) → i < length (decimal n) → get_or (decimal n) i 0 ≢ c
not_in_decimal n c low more i less =
    let small : n < 2 ^ 64 = omega arith in
    not_in_digits own (decimal n) c (decimal_is_IsNumeral n small).0.1 (λ range. omega arith) i less

pub same_bytes : (xs ys : List ℕ) → bytes_eq xs ys ≡ true → xs ≡ ys
same_bytes xs ys same = grind (arith, bytes_eq-Decides xs ys)

-- no byte of the text is c
lacks-append : (c : ℕ) (xs ys : List ℕ) → ((i : ℕ) → i < length xs → get_or xs i 0 ≢ c) → ((i : ℕ) → i < length ys → get_or ys i 0 ≢ c) → (i : ℕ) → i < length (xs ++ ys) → get_or (xs ++ ys) i 0 ≢ c
lacks-append c [] ys left right i low = right i low
lacks-append c (x ∷ xs) ys left right zero low = left 0 (omega arith)
lacks-append c (x ∷ xs) ys left right (suc i) low = lacks-append c xs ys (λ k less. left (suc k) (omega arith)) right i (omega arith)

lacks-cons : (c x : ℕ) (xs : List ℕ) → x ≢ c → ((i : ℕ) → i < length xs → get_or xs i 0 ≢ c) → (i : ℕ) → i < length (x ∷ xs) → get_or (x ∷ xs) i 0 ≢ c
lacks-cons c x xs here rest zero low = here
lacks-cons c x xs here rest (suc i) low = rest i (omega arith)

-- a slot's name has no character between the colon and its letter
pub not_in_name : (c : ℕ) (s : Slot) → IsSlot s → 58 < c → c < 80 → (i : ℕ) → i < length (slot_name s) → get_or (slot_name s) i 0 ≢ c
not_in_name c s is more less =
    let P : List ℕ → Type 0 = λ bs. (i : ℕ) → i < length bs → get_or bs i 0 ≢ c in
    let at : P (58 ∷ decimal s.at) = lacks-cons c 58 (decimal s.at) (λ same. omega arith) (not_in_decimal s.at c is.1 (omega arith)) in
    let numbers : P (decimal s.hart ++ (58 ∷ decimal s.at)) = lacks-append c (decimal s.hart) (58 ∷ decimal s.at) (not_in_decimal s.hart c is.0 (omega arith)) at in
    let all : P (80 ∷ (decimal s.hart ++ (58 ∷ decimal s.at))) = lacks-cons c 80 (decimal s.hart ++ (58 ∷ decimal s.at)) (λ same. omega arith) numbers in
    subst P (sym (place_name-parts s.hart s.at)) all

-- a fence word is cut at its equals sign
pub word_cut : (text : List ℕ) (r : Option (Bor (List ℕ) × Bor (List ℕ))) → IsSplitOnceResult 61 text r → (s : Slot) (kind : Kind) → IsSlot s → text ≡ fence_word s kind → MatchOption r ⊥ (λ x. (x.0.now ≡ slot_name s) × (x.1.now ≡ word kind))
word_cut text r cut s kind is named =
    let e : text ≡ slot_name s ++ (61 ∷ word kind) = named ∙ append_assoc (slot_name s) (61 ∷ []) (word kind) in
    split_after 61 text (slot_name s) (word kind) r cut (omega arith) e (not_in_name 61 s is (omega arith) (omega arith))

pub kind_of-word : (kind : Kind) → kind_of (word kind) ≡ Some kind
unfolding kind_of
kind_of-word RR = refl
kind_of-word RW = refl
kind_of-word RRw = refl
kind_of-word WR = refl
kind_of-word WW = refl
kind_of-word WRw = refl
kind_of-word RwR = refl
kind_of-word RwW = refl
kind_of-word RwRw = refl
kind_of-word Tso = refl

find-passes : {X : Type 0} (test : X → Bool) (xs : List X) (x : X) → find test xs ≡ Some x → test x ≡ true
find-passes test [] x found = absurd (cc)
find-passes test (y ∷ xs) x found = grind (arith, find-passes test xs x)

pub word-kind_of : (text : List ℕ) (kind : Kind) → kind_of text ≡ Some kind → text ≡ word kind
unfolding kind_of
word-kind_of text kind found =
    let same = find-passes (λ k. bytes_eq text (word k)) all_kinds kind found in
    same_bytes text (word kind) same

pub kind_named : (text : List ℕ) (o : Option Kind) → o ≡ kind_of text → IfSome o (λ kind. text ≡ word kind)
kind_named text None is = tt
kind_named text (Some kind) is = word-kind_of text kind (sym is)

pub kind_unnamed : (text : List ℕ) (o : Option Kind) → o ≡ kind_of text → IfNone o ((kind : Kind) → text ≢ word kind)
kind_unnamed text None is = λ kind named.
    let same = ap kind_of named in
    let known = kind_of-word kind in
    cc
kind_unnamed text (Some kind) is = tt

-- a text has one cut at its first c
pub cut-same : (c : ℕ) (xs us ys vs : List ℕ) → ((i : ℕ) → i < length xs → get_or xs i 0 ≢ c) → ((i : ℕ) → i < length us → get_or us i 0 ≢ c) → xs ++ (c ∷ ys) ≡ us ++ (c ∷ vs) → (xs ≡ us) × (ys ≡ vs)
cut-same c [] [] ys vs left right e = (refl, cc)
cut-same c [] (u ∷ us) ys vs left right e = let same : u ≡ c = cc in absurd (right 0 (omega arith) same)
cut-same c (x ∷ xs) [] ys vs left right e = let same : x ≡ c = cc in absurd (left 0 (omega arith) same)
cut-same c (x ∷ xs) (u ∷ us) ys vs left right e =
    let first : x ≡ u = cc in
    let rest : xs ++ (c ∷ ys) ≡ us ++ (c ∷ vs) = cc in
    let same = cut-same c xs us ys vs (λ i low. left (suc i) (omega arith)) (λ i low. right (suc i) (omega arith)) rest in
    let front : xs ≡ us = same.0 in
    (cc, same.1)

abbrev slot_at : ℕ → ℕ → Slot
slot_at h a = record { hart = h; at = a }

pub slot_name-injective : (s t : Slot) → IsSlot s → IsSlot t → slot_name s ≡ slot_name t → s ≡ t
slot_name-injective s t is-s is-t e =
    let left = place_name-parts s.hart s.at in
    let right = place_name-parts t.hart t.at in
    let parts : decimal s.hart ++ (58 ∷ decimal s.at) ≡ decimal t.hart ++ (58 ∷ decimal t.at) = cc in
    let same = cut-same 58 (decimal s.hart) (decimal t.hart) (decimal s.at) (decimal t.at) (not_in_decimal s.hart 58 is-s.0 (omega arith)) (not_in_decimal t.hart 58 is-t.0 (omega arith)) parts in
    let hart : s.hart ≡ t.hart = decimal_injective s.hart t.hart (omega arith) (omega arith) same.0 in
    let at : s.at ≡ t.at = decimal_injective s.at t.at (omega arith) (omega arith) same.1 in
    ap (λ h. slot_at h s.at) hart ∙ ap (slot_at t.hart) at

pub word-injective : (k l : Kind) → word k ≡ word l → k ≡ l
word-injective k l e =
    let same = ap kind_of e in
    let left = kind_of-word k in
    let right = kind_of-word l in
    cc

unknown-weights : kind_of (codes "weights") ≡ None
unfolding kind_of
unknown-weights = refl

pub word-weights : (k : Kind) → word k ≢ codes "weights"
word-weights k e =
    let same = ap kind_of e in
    let left = kind_of-word k in
    let right = unknown-weights in
    cc

table_get : (k : Kind) → get_or all_kinds (table_index k) RR ≡ k
table_get RR = refl
table_get RW = refl
table_get RRw = refl
table_get WR = refl
table_get WW = refl
table_get WRw = refl
table_get RwR = refl
table_get RwW = refl
table_get RwRw = refl
table_get Tso = refl

pub table_index-injective : (k l : Kind) → table_index k ≡ table_index l → k ≡ l
table_index-injective k l e = sym (table_get k) ∙ ap (λ i. get_or all_kinds i RR) e ∙ table_get l

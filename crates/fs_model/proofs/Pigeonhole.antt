-- Items that differ, and are all in a list, are no more than the list has.
use Rattle.std.proofs.Common.{◌≡◌, ◌≢◌, ◌⊎◌, suc, ◌<◌, ◌≤◌, List, [], ◌∷◌, length, refl, ap, sym, subst, ◌∙◌, arith, inl, inr, All}
use Rattle.std.specs.List.{AllPairs}
use Rattle.std.proofs.lemmas.List.Elements.{All-nil, All-cons}
use Rattle.std.proofs.lemmas.List.Kept.{AllPairs-cons}

abbrev pub IsAmong : {A : Type 0} → List A → A → Type 0
IsAmong [] x = ⊥
IsAmong (y ∷ ys) x = (x ≡ y) ⊎ IsAmong ys x

-- the list without x
record Apart {A : Type 0} (ys : List A) (x : A) : Type 0 where
  pub rest : List A
  pub one_less : suc (length rest) ≡ length ys
  pub others : (z : A) → IsAmong ys z → z ≢ x → IsAmong rest z

apart : {A : Type 0} (ys : List A) (x : A) → IsAmong ys x → Apart ys x
apart [] x p = absurd p
apart (y ∷ ys) x p = elim p [
  | inl same ↦ record { rest = ys; one_less = refl; others = (λ z q other. elim q [ inl e ↦ absurd (other (e ∙ sym same)) | inr there ↦ there ]) }
  | inr there ↦ (let less = apart ys x there in record {
    rest = y ∷ less.rest;
    one_less = ap suc less.one_less;
    others = (λ z q other. elim q [ inl e ↦ inl e | inr further ↦ inr (less.others z further other) ]);
  })
]

-- what holds of all holds of each
pub each_among : {A : Type 0} (P : A → Type 0) (xs : List A) (z : A) → All P xs → IsAmong xs z → P z
each_among P [] z all p = absurd p
each_among P (x ∷ xs) z all p = elim p [
  | inl same ↦ subst P (sym same) (all 0 x (omega arith))
  | inr there ↦ each_among P xs z (λ k d l. all (suc k) d (let m : k < length xs = l in omega arith)) there
]

pub all_among : {A : Type 0} (P : A → Type 0) (xs : List A) → ((z : A) → IsAmong xs z → P z) → All P xs
all_among P [] each = All-nil P
all_among P (x ∷ xs) each = All-cons P x xs (each x (inl refl)) (all_among P xs (λ z there. each z (inr there)))

-- ---- each item once

abbrev pub Differ : {A : Type 0} → List A → Type 0
Differ xs = AllPairs (λ x y. x ≢ y) xs

pub none_differ : {A : Type 0} → Differ {A = A} []
none_differ i j d below within = absurd (omega (arith, within))

pub more_differ : {A : Type 0} (x : A) (xs : List A) → ((y : A) → IsAmong xs y → x ≢ y) → Differ xs → Differ (x ∷ xs)
more_differ x xs others rest = AllPairs-cons (λ x y. x ≢ y) x xs (all_among (λ y. x ≢ y) xs others) rest

tail_differs : {A : Type 0} (x : A) (xs : List A) → Differ (x ∷ xs) → Differ xs
tail_differs x xs h = λ i j d below within. h (suc i) (suc j) d (omega arith) (let m : j < length xs = within in omega arith)

head_differs : {A : Type 0} (x : A) (xs : List A) → Differ (x ∷ xs) → All (λ y. x ≢ y) xs
head_differs x xs h = λ j d within. h 0 (suc j) d (omega arith) (let m : j < length xs = within in omega arith)

pub no_more : {A : Type 0} (xs ys : List A) → Differ xs → ((x : A) → IsAmong xs x → IsAmong ys x) → length xs ≤ length ys
no_more [] ys h f = omega arith
no_more (x ∷ xs) ys h f =
    let less = apart ys x (f x (inl refl)) in
    let rest = no_more xs less.rest (tail_differs x xs h)
    (λ z there. less.others z (f z (inr there)) (λ same. each_among (λ y. x ≢ y) xs z (head_differs x xs h) there (sym same))) in
    omega (arith, rest, less.one_less)

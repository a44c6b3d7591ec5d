-- What is among lists that are joined, mapped and branched, and what comes before what.
use Rattle.std.proofs.Common.{◌≡◌, ℕ, suc, ◌+◌, ◌*◌, ◌⊎◌, List, [], ◌∷◌, ◌++◌, map, length, refl, ap, sym, subst, ◌∙◌, arith, inl, inr}
use Rattle.std.specs.List.{AllPairs, flat_map}
use Rattle.std.proofs.Math.Nat.{suc-mul}
use Rattle.std.proofs.lemmas.List.{length-append, length-map}
use Rattle.std.proofs.lemmas.List.Kept.{AllPairs-cons}
use Rattle.fs_cand_listing.specs.Ways.{branches}
use Rattle.fs_model.proofs.Pigeonhole.{IsAmong, all_among}

-- ---- membership

pub among_left : {A : Type 0} (xs ys : List A) (z : A) → IsAmong xs z → IsAmong (xs ++ ys) z
among_left [] ys z p = absurd p
among_left (x ∷ xs) ys z p = elim p [ inl same ↦ inl same | inr later ↦ inr (among_left xs ys z later) ]

pub among_right : {A : Type 0} (xs ys : List A) (z : A) → IsAmong ys z → IsAmong (xs ++ ys) z
among_right [] ys z p = p
among_right (x ∷ xs) ys z p = inr (among_right xs ys z p)

pub among_cases : {A : Type 0} (xs ys : List A) (z : A) → IsAmong (xs ++ ys) z → IsAmong xs z ⊎ IsAmong ys z
among_cases [] ys z p = inr p
among_cases (x ∷ xs) ys z p = elim p [
  | inl same ↦ inl (inl same)
  | inr later ↦ elim (among_cases xs ys z later) [ inl first ↦ inl (inr first) | inr second ↦ inr second ]
]

pub among-map : {A B : Type 0} (f : A → B) (xs : List A) (x : A) → IsAmong xs x → IsAmong (map f xs) (f x)
among-map f [] x p = absurd p
among-map f (y ∷ ys) x p = elim p [ inl same ↦ inl (ap f same) | inr later ↦ inr (among-map f ys x later) ]

pub map-among : {A B : Type 0} (f : A → B) (xs : List A) (z : B) → IsAmong (map f xs) z → (x : A) × IsAmong xs x × (z ≡ f x)
map-among f [] z p = absurd p
map-among f (y ∷ ys) z p = elim p [
  | inl same ↦ (y, inl refl, same)
  | inr later ↦ (let rest = map-among f ys z later in (rest.0, inr rest.1, rest.2))
]

pub among-flat_map : {A B : Type 0} (f : A → List B) (xs : List A) (x : A) (z : B) → IsAmong xs x → IsAmong (f x) z
    → IsAmong (flat_map f xs) z
among-flat_map f [] x z p q = absurd p
among-flat_map f (y ∷ ys) x z p q = elim p [
  | inl same ↦ among_left (f y) (flat_map f ys) z (subst (λ w. IsAmong (f w) z) same q)
  | inr later ↦ among_right (f y) (flat_map f ys) z (among-flat_map f ys x z later q)
]

pub flat_map-among : {A B : Type 0} (f : A → List B) (xs : List A) (z : B) → IsAmong (flat_map f xs) z
    → (x : A) × IsAmong xs x × IsAmong (f x) z
flat_map-among f [] z p = absurd p
flat_map-among f (y ∷ ys) z p = elim (among_cases (f y) (flat_map f ys) z p) [
  | inl here ↦ (y, inl refl, here)
  | inr later ↦ (let rest = flat_map-among f ys z later in (rest.0, inr rest.1, rest.2))
]

pub among-branches : {A : Type 0} (rest : A → List (List A)) (xs : List A) (y : A) (ys : List A)
    → IsAmong xs y → IsAmong (rest y) ys → IsAmong (branches rest xs) (y ∷ ys)
among-branches rest xs y ys p q =
    among-flat_map (λ x. map (λ zs. x ∷ zs) (rest x)) xs y (y ∷ ys) p (among-map (λ zs. y ∷ zs) (rest y) ys q)

pub branches-among : {A : Type 0} (rest : A → List (List A)) (xs : List A) (zs : List A) → IsAmong (branches rest xs) zs
    → (y : A) × (ys : List A) × (zs ≡ y ∷ ys) × IsAmong xs y × IsAmong (rest y) ys
branches-among rest xs zs p =
    let first = flat_map-among (λ x. map (λ ys. x ∷ ys) (rest x)) xs zs p in
    let second = map-among (λ ys. first.0 ∷ ys) (rest first.0) zs first.2 in
    (first.0, second.0, second.2, first.1, second.1)

-- ---- lengths

pub length-even : {A B : Type 0} (f : A → List B) (m : ℕ) (xs : List A) → ((x : A) → IsAmong xs x → length (f x) ≡ m)
    → length (flat_map f xs) ≡ length xs * m
length-even f m [] each = omega arith
length-even f m (x ∷ xs) each =
    let here = each x (inl refl) in
    let later = length-even f m xs (λ y there. each y (inr there)) in
    let parts = length-append (f x) (flat_map f xs) in
    let more : suc (length xs) * m ≡ m + length xs * m = suc-mul (length xs) m ∙ omega arith in
    parts ∙ omega (arith, here, later) ∙ sym more

pub length-branches : {A : Type 0} (rest : A → List (List A)) (m : ℕ) (xs : List A)
    → ((x : A) → IsAmong xs x → length (rest x) ≡ m) → length (branches rest xs) ≡ length xs * m
length-branches rest m xs each =
    length-even (λ x. map (λ ys. x ∷ ys) (rest x)) m xs (λ x there. length-map (rest x) (λ ys. x ∷ ys) ∙ each x there)

-- ---- each comes before all later ones

abbrev pub Ascends : {A : Type 0} → (A → A → Type 0) → List A → Type 0
Ascends R [] = Unit {0}
Ascends R (x ∷ xs) = ((y : _) → IsAmong xs y → R x y) × Ascends R xs

module _ {A : Type 0} (R : A → A → Type 0) where
  pub ascends-append : (xs ys : List A) → Ascends R xs → Ascends R ys → ((x y : A) → IsAmong xs x → IsAmong ys y → R x y)
      → Ascends R (xs ++ ys)
  ascends-append [] ys first second across = second
  ascends-append (x ∷ xs) ys first second across = (
    (λ y there. elim (among_cases xs ys y there) [
      | inl here ↦ first.0 y here
      | inr later ↦ across x y (inl refl) later
    ]),
    ascends-append xs ys first.1 second (λ z y here later. across z y (inr here) later),
  )

  pub pairs_ascend : (xs : List A) → Ascends R xs → AllPairs R xs
  pairs_ascend [] h = λ i j d before within. absurd (omega (arith, within))
  pairs_ascend (x ∷ xs) h = AllPairs-cons R x xs (all_among (R x) xs h.0) (pairs_ascend xs h.1)

pub ascends-map : {A B : Type 0} (R : A → A → Type 0) (S : B → B → Type 0) (f : A → B) → ((x y : A) → R x y → S (f x) (f y))
    → (xs : List A) → Ascends R xs → Ascends S (map f xs)
ascends-map R S f keeps [] h = tt
ascends-map R S f keeps (x ∷ xs) h = (
  (λ y there. let from = map-among f xs y there in subst (S (f x)) (sym from.2) (keeps x from.0 (h.0 from.0 from.1))),
  ascends-map R S f keeps xs h.1,
)

pub ascends-flat_map : {A B : Type 0} (R : A → A → Type 0) (S : B → B → Type 0) (f : A → List B)
    → ((x y : A) (z w : B) → R x y → IsAmong (f x) z → IsAmong (f y) w → S z w)
    → (xs : List A) → Ascends R xs → ((x : A) → IsAmong xs x → Ascends S (f x)) → Ascends S (flat_map f xs)
ascends-flat_map R S f keeps [] h each = tt
ascends-flat_map R S f keeps (x ∷ xs) h each =
    ascends-append S (f x) (flat_map f xs) (each x (inl refl)) (ascends-flat_map R S f keeps xs h.1 (λ y there. each y (inr there)))
    (λ z w here later. let from = flat_map-among f xs w later in keeps x from.0 z w (h.0 from.0 from.1) here from.2)

-- the lists behind an item have the order S, and those of different items that of their items
pub ascends-branches : {A : Type 0} (R : A → A → Type 0) (S : List A → List A → Type 0) (rest : A → List (List A))
    → ((x y : A) (xs ys : List A) → R x y → S (x ∷ xs) (y ∷ ys))
    → ((x : A) (xs ys : List A) → S xs ys → S (x ∷ xs) (x ∷ ys))
    → (xs : List A) → Ascends R xs → ((x : A) → IsAmong xs x → Ascends S (rest x)) → Ascends S (branches rest xs)
ascends-branches R S rest first later xs h each =
    ascends-flat_map R S (λ x. map (λ ys. x ∷ ys) (rest x)) (λ x y z w before here there.
    let from = map-among (λ ys. x ∷ ys) (rest x) z here in
    let to = map-among (λ ys. y ∷ ys) (rest y) w there in
    subst (λ v. S v w) (sym from.2) (subst (S (x ∷ from.0)) (sym to.2) (first x y from.0 to.0 before)))
    xs h (λ x there. ascends-map S S (λ ys. x ∷ ys) (later x) (rest x) (each x there))

-- When two lists are the same, and two witnesses.
use Rattle.std.proofs.Common.{rules, ◌≡◌, ℕ, zero, suc, ◌<◌, Bool, true, ◌==◌, IsTrue, List, [], ◌∷◌, map, length, get_or, refl, ap, ap₂, sym, subst, ◌∙◌, arith}
use Rattle.std.specs.Cmp.Lexicographic.{pointwise}
use Rattle.std.proofs.lemmas.Bool.{and_parts, and_from, false≢true}
use Rattle.fs_model.specs.declared.step.Choice.{Choice}
use Rattle.fs_model.specs.declared.step.Choice.TheVariants.{Word, Success, Failure}
use Rattle.fs_model.specs.contracts.step.ChoicePartialEq.TheImpl as choice_test
use Rattle.fs_model.specs.Witness.{Witness}

-- ---- lists

-- where the first list has ended, the other one is the same where it has ended too
pub at_end : {X : Type 0} (xs ys : List X) (b : Bool) → length xs < 1 → b ≡ (length ys == 0) → xs ≡ ys → IsTrue b
at_end xs [] b l e i = subst IsTrue (sym e) refl
at_end xs (y ∷ ys) b l e i = let n = ap length i in absurd (omega arith)

-- items at one place of lists with the same images have the same image
pub map_at : {X Y : Type 0} (f : X → Y) (xs ys : List X) (i : ℕ) (x y : X) → map f xs ≡ map f ys → x ≡ get_or xs i x → y ≡ get_or ys i y
    → i < length xs → f x ≡ f y
map_at f [] ys i x y same left right within = absurd (omega arith)
map_at f (a ∷ xs) [] i x y same left right within = let n = ap length same in absurd (omega arith)
map_at f (a ∷ xs) (b ∷ ys) zero x y same left right within = let first : f a ≡ f b = cc in ap f left ∙ (first ∙ sym (ap f right))
map_at f (a ∷ xs) (b ∷ ys) (suc i) x y same left right within =
    let rest : map f xs ≡ map f ys = cc in
    map_at f xs ys i x y rest left right (omega arith)

-- ---- witnesses

same_choice : (a b : Choice) → choice_test.eq-value.it a b ≡ true → a ≡ b
same_choice (Word v) (Word w) e = search rules
same_choice Success Success e = refl
same_choice Failure Failure e = refl
same_choice a b e = absurd (false≢true e)

pointwise_same : {X : Type 0} (E : X → X → Bool) → ((x y : X) → E x y ≡ true → x ≡ y) → (xs ys : List X) → pointwise E xs ys ≡ true → xs ≡ ys
pointwise_same E same [] [] e = refl
pointwise_same E same [] (y ∷ ys) e = absurd (false≢true e)
pointwise_same E same (x ∷ xs) [] e = absurd (false≢true e)
pointwise_same E same (x ∷ xs) (y ∷ ys) e =
    let parts = and_parts (E x y) (pointwise E xs ys) e in
    ap₂ (λ u us. u ∷ us) (same x y parts.0) (pointwise_same E same xs ys parts.1)

pub lists_same : (xs ys : List (List Choice)) → pointwise (pointwise choice_test.eq-value.it) xs ys ≡ true → xs ≡ ys
lists_same xs ys e = pointwise_same (pointwise choice_test.eq-value.it) (pointwise_same choice_test.eq-value.it same_choice) xs ys e

choice_itself : (a : Choice) → choice_test.eq-value.it a a ≡ true
choice_itself (Word w) = search rules
choice_itself Success = refl
choice_itself Failure = refl

pointwise_itself : {X : Type 0} (E : X → X → Bool) → ((x : X) → E x x ≡ true) → (xs : List X) → pointwise E xs xs ≡ true
pointwise_itself E itself [] = refl
pointwise_itself E itself (x ∷ xs) = and_from _ _ (itself x) (pointwise_itself E itself xs)

pub lists_itself : (xs ys : List (List Choice)) → xs ≡ ys → pointwise (pointwise choice_test.eq-value.it) xs ys ≡ true
lists_itself xs ys same =
    subst (λ zs. pointwise (pointwise choice_test.eq-value.it) xs zs ≡ true) same
    (pointwise_itself (pointwise choice_test.eq-value.it) (pointwise_itself choice_test.eq-value.it choice_itself) xs)

pub same_witness : (v w : Witness) → v.choices ≡ w.choices → v.order ≡ w.order → v ≡ w
same_witness v w choices order = ap₂ (λ cs ns. record { choices = cs; order = ns }) choices order

pub same_of_witness : (v w : Witness) → v ≡ w → (v.choices ≡ w.choices) × (v.order ≡ w.order)
same_of_witness v w same = (ap (λ (u : Witness). u.choices) same, ap (λ (u : Witness). u.order) same)

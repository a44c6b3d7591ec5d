-- Choice order: it is transitive, and no list comes before itself.
use Rattle.std.proofs.Common.{List, [], ◌∷◌, sym, subst, ◌∙◌, inl, inr, arith}
use Rattle.fs_model.specs.declared.step.Choice.{Choice}
use Rattle.fs_model.specs.declared.step.Choice.TheVariants.{Word, Success, Failure}
use Rattle.fs_model.specs.Choices.{IsBefore, ComesBefore}

before_trans : (x y z : Choice) → IsBefore x y → IsBefore y z → IsBefore x z
before_trans (Word a) (Word b) (Word c) p q = omega (arith, p, q)
before_trans (Word a) (Word b) Success p q = absurd q
before_trans (Word a) (Word b) Failure p q = absurd q
before_trans Success Failure (Word c) p q = absurd q
before_trans Success Failure Success p q = absurd q
before_trans Success Failure Failure p q = absurd q
before_trans _ _ _ p q = absurd p

not_itself : (x : Choice) → IsBefore x x → ⊥
not_itself (Word a) p = omega (arith, p)
not_itself Success p = p
not_itself Failure p = p

pub comes_trans : (xs ys zs : List Choice) → ComesBefore xs ys → ComesBefore ys zs → ComesBefore xs zs
comes_trans [] [] zs p q = absurd p
comes_trans [] (y ∷ ys) [] p q = absurd q
comes_trans [] (y ∷ ys) (z ∷ zs) p q = tt
comes_trans (x ∷ xs) [] zs p q = absurd p
comes_trans (x ∷ xs) (y ∷ ys) [] p q = absurd q
comes_trans (x ∷ xs) (y ∷ ys) (z ∷ zs) p q = elim p [
  | inl first ↦ elim q [
    | inl second ↦ inl (before_trans x y z first second)
    | inr same ↦ inl (subst (IsBefore x) same.0 first)
  ]
  | inr here ↦ elim q [
    | inl second ↦ inl (subst (λ c. IsBefore c z) (sym here.0) second)
    | inr same ↦ inr (here.0 ∙ same.0, comes_trans xs ys zs here.1 same.1)
  ]
]

pub comes_not_itself : (xs : List Choice) → ComesBefore xs xs → ⊥
comes_not_itself [] p = p
comes_not_itself (x ∷ xs) p = elim p [ inl first ↦ not_itself x first | inr same ↦ comes_not_itself xs same.1 ]

pub not_both : (xs ys : List Choice) → ComesBefore xs ys → ComesBefore ys xs → ⊥
not_both xs ys p q = comes_not_itself xs (comes_trans xs ys xs p q)

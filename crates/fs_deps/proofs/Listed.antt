-- The masks that the loop over a run has listed.
use Rattle.std.proofs.Common.{◌≡◌, ◌⊎◌, ℕ, zero, suc, ◌<◌, List, [], ◌∷◌, ◌++◌, length, Some, refl, sym, ap, subst, ◌∙◌, inl, inr, arith}
use Rattle.std.specs.Prelude.{slice_get, slice_index_or}
use Rattle.std.proofs.lemmas.Option.{slice_get-get_or, slice_get_within, same_Some, none-some}
use Rattle.fs_model.specs.declared.step.Step.{Step}
use Rattle.fs_deps.specs.declared.deps.Masks.{Masks}
use Rattle.fs_deps.specs.Masks.{mask_test, IsDepsOf}
use Rattle.fs_deps.specs.Tracker.{AreMasks}

-- each is that of its step
abbrev pub EachIsMasks : List Step → List Masks → Type 0
EachIsMasks steps masks = (k : ℕ) (m : Masks) → slice_get masks k ≡ Some m → AreMasks steps k m

pushed : (xs : List Masks) (x m : Masks) (k : ℕ) → slice_get (xs ++ x ∷ []) k ≡ Some m
    → (slice_get xs k ≡ Some m) ⊎ ((k ≡ length xs) × (x ≡ m))
pushed [] x m zero e = inr (refl, same_Some x m e)
pushed [] x m (suc k) e = absurd (none-some m e)
pushed (y ∷ xs) x m zero e = inl e
pushed (y ∷ xs) x m (suc k) e = elim (pushed xs x m k e) [
  | inl before ↦ inl before
  | inr last ↦ inr (ap suc last.0, last.1)
]

pub each_more : (steps : List Step) (masks : List Masks) (x : Masks) → EachIsMasks steps masks
    → AreMasks steps (length masks) x → EachIsMasks steps (masks ++ x ∷ [])
each_more steps masks x each last k m e = elim (pushed masks x m k e) [
  | inl before ↦ each k m before
  | inr here ↦ subst (λ (n : ℕ). AreMasks steps n m) (sym here.0)
      (subst (λ (y : Masks). AreMasks steps (length masks) y) here.1 last)
]

pub each_none : (steps : List Step) → EachIsMasks steps []
each_none steps k m e = let within = slice_get_within [] k m e in absurd (omega (arith, within))

pub deps_of : (steps : List Step) (masks : List Masks) → length masks ≡ length steps → EachIsMasks steps masks
    → IsDepsOf steps masks
deps_of steps masks whole each = record {
  whole = whole;
  address = λ i j h. ap (λ o. mask_test (λ x. x.address) o i) (there j h) ∙ (each j _ (there j h)).address i;
  «data» = λ i j h. ap (λ o. mask_test (λ x. x.«data») o i) (there j h) ∙ (each j _ (there j h)).«data» i;
  control = λ i j h. ap (λ o. mask_test (λ x. x.control) o i) (there j h) ∙ (each j _ (there j h)).control i;
}
  where
    blank : Masks
    blank = record { address = 0; «data» = 0; control = 0 }

    there : (j : ℕ) → j < length steps → slice_get masks j ≡ Some (slice_index_or masks j blank)
    there j h = slice_get-get_or masks j blank (omega (arith, whole, h))

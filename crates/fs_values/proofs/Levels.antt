-- Operations level by level: on the first the initial stores, and on each further one what rests on sources of the one
-- before.
use Rattle.std.proofs.Common.{◌≡◌, ◌⊎◌, ◌||◌, not, ℕ, zero, suc, ◌<◌, length, Bool, true, false, Option, Some, None, is_some, refl, ap, subst, inl, inr}
use Rattle.std.specs.List.{list_all}
use Rattle.std.proofs.lemmas.Bool.{cases_Bool, both_ways, or_cases, or_left, or_right, not_from_false, not-true}
use Rattle.fs_model.specs.Numbers.{numbers_below}
use Rattle.fs_model.specs.Operations.{PreExecution, accesses, operation}
use Rattle.fs_model.proofs.Ranges.{each_below}
use Rattle.fs_model.proofs.RangeTests.{all_below}
use Rattle.fs_values.specs.ThinAir.{rests}

module _ (x : PreExecution) (rf : ℕ → Option ℕ) where
  abbrev source_is : (ℕ → Bool) → Option ℕ → Bool
  source_is f None = true
  source_is f (Some s) = f s

  -- at first the initial stores; at each level the operations that rest on loads whose sources are on the one before
  pub settled : ℕ → ℕ → Bool
  settled zero s = not (is_some (operation x s).hart)
  settled (suc n) s =
      settled n s || list_all (λ a. not (rests x s a) || source_is (λ r. settled n r) (rf a)) (numbers_below (length (accesses x)))

  pub settled_grows : (n s : ℕ) → settled n s ≡ true → settled (suc n) s ≡ true
  unfolding settled
  settled_grows n s h = or_left (settled n s) _ h

  pub settled_at_once : (n s : ℕ) → (operation x s).hart ≡ None → settled n s ≡ true
  unfolding settled
  settled_at_once zero s h = not_from_false _ (ap is_some h)
  settled_at_once (suc n) s h = or_left (settled n s) _ (settled_at_once n s h)

  pub settled_start : (s : ℕ) → settled zero s ≡ true → is_some (operation x s).hart ≡ false
  unfolding settled
  settled_start s h = not-true _ h

  if_rests : (n s a : ℕ) → ((r : ℕ) → rests x s a ≡ true → rf a ≡ Some r → settled n r ≡ true)
      → (not (rests x s a) || source_is (λ r. settled n r) (rf a)) ≡ true
  if_rests n s a h = elim (cases_Bool (rests x s a)) [
    | inr other ↦ or_left _ _ (not_from_false _ other)
    | inl rest ↦ or_right (not (rests x s a)) _ (by_source rest (rf a) refl)
  ]
    where
      by_source : rests x s a ≡ true → (o : Option ℕ) → rf a ≡ o → source_is (λ r. settled n r) o ≡ true
      by_source rest None e = refl
      by_source rest (Some r) e = h r rest e

  pub settled_more : (n s : ℕ) → ((a r : ℕ) → rests x s a ≡ true → rf a ≡ Some r → settled n r ≡ true) → settled (suc n) s ≡ true
  unfolding settled
  settled_more n s h = or_right (settled n s) _ (all_below _ (length (accesses x)) (λ a low. if_rests n s a (λ r rest e. h a r rest e)))

  pub settled_parts : (n s : ℕ) → settled (suc n) s ≡ true
      → (settled n s ≡ true) ⊎ ((a r : ℕ) → a < length (accesses x) → rests x s a ≡ true → rf a ≡ Some r → settled n r ≡ true)
  unfolding settled
  settled_parts n s h = elim (or_cases (settled n s) _ h) [
    | inl before ↦ inl before
    | inr all ↦ inr (λ a r low rest e.
        let at = each_below (λ a. not (rests x s a) || source_is (λ r. settled n r) (rf a)) (length (accesses x)) a all low in
        elim (or_cases _ _ at) [
          | inl no_rest ↦ absurd (both_ways (rests x s a) (not-true _ no_rest) rest)
          | inr source ↦ subst (λ o. source_is (λ r. settled n r) o ≡ true) e source
        ])
  ]

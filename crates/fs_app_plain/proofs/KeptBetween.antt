-- Pairs of lr.w and sc.w, and fences, between steps without the turn are pairs and fences in the whole list.
use Rattle.std.proofs.Common.{◌≡◌, inl, inr, ℕ, zero, suc, ◌+◌, ◌-◌, ◌<◌, ◌≤◌, List, [], ◌∷◌, length, Bool, true, false, ◌||◌, Option, refl, sym, ap, ◌∙◌, arith}
use Rattle.std.specs.Prelude.{slice_get}
use Rattle.std.specs.List.{list_any}
use Rattle.std.proofs.lemmas.Bool.{cases_Bool, or_left, or_right, or_parts, and_parts, and_from, not-true, not_from_false, both_ways, false≢true, ltb-true, lt-ltb}
use Rattle.fs_instr.specs.declared.instr.Instr.{Instr}
use Rattle.fs_instr.specs.Roles.{is_lr, is_sc}
use Rattle.fs_model.specs.declared.step.Step.{Step}
use Rattle.fs_model.specs.Operations.{between, instr_at, are_paired}
use Rattle.fs_app_plain.specs.Turns.{tries_first, reserves}
use Rattle.fs_app_plain.proofs.Cut.{whole, short, place_there}
use Rattle.fs_app_plain.proofs.KeptPlaces.{step_there, instr_there, instr_after, place_there_lt, none_between_from, any_there, any_there_up_to, none_there}

-- an sc.w before which there is no lr.w
tried_at : (ss : List Step) (k : ℕ) → is_sc (instr_at ss k) ≡ true → ((m : ℕ) → m < k → is_lr (instr_at ss m) ≡ false)
    → tries_first ss ≡ true
tried_at [] k e none = absurd (false≢true e)
tried_at (s ∷ ss) zero e none = or_left (is_sc s.instr) _ e
tried_at (s ∷ ss) (suc k) e none =
    or_right (is_sc s.instr) _ (and_from _ _ (not_from_false _ (none 0 (omega arith)))
    (tried_at ss k e (λ m low. none (suc m) (omega (arith, low)))))

-- a step of a turn without lr.w and sc.w is neither
in_turn : (before turn after : List Step) (m : ℕ) → list_any reserves turn ≡ false → length before ≤ m
    → m < length before + length turn
    → (is_lr (instr_at (whole before turn after) m) || is_sc (instr_at (whole before turn after) m)) ≡ false
in_turn [] [] after m quiet above below = absurd (omega (arith, below))
in_turn [] (s ∷ turn) after zero quiet above below = (or_parts (reserves s) (list_any reserves turn) quiet).0
in_turn [] (s ∷ turn) after (suc m) quiet above below =
    in_turn [] turn after m (or_parts (reserves s) (list_any reserves turn) quiet).1 (omega arith)
    (omega (arith, below))
in_turn (b ∷ before) turn after zero quiet above below = absurd (omega (arith, above))
in_turn (b ∷ before) turn after (suc m) quiet above below =
    in_turn before turn after m quiet (omega (arith, above)) (omega (arith, below))

module _ (before turn after : List Step) where
  abbrev to : ℕ → ℕ
  to = place_there before turn after

  abbrev out : List Step
  out = short before turn after

  abbrev all : List Step
  all = whole before turn after

  -- ---- fences

  pub fence_there : (test : Instr → Bool) (i j : ℕ) → list_any (λ k. test (instr_at out k)) (between i j) ≡ true
      → list_any (λ k. test (instr_at all k)) (between (to i) (to j)) ≡ true
  fence_there test i j h =
      any_there before turn after (λ k. test (instr_at out k)) (λ k. test (instr_at all k))
      (λ k e. ap test (sym (instr_there before turn after k)) ∙ e) i j h

  -- placed ones, one right before the last step too
  pub placed_there : (test : Option Step → Bool) (i j : ℕ)
      → list_any (λ k. test (slice_get out k)) (between i (j + 1)) ≡ true
      → list_any (λ k. test (slice_get all k)) (between (to i) (to j + 1)) ≡ true
  placed_there test i j h =
      any_there_up_to before turn after (λ k. test (slice_get out k)) (λ k. test (slice_get all k))
      (λ k e. ap test (sym (step_there before turn after k)) ∙ e) i j h

  -- ---- pairs

  abbrev reserves_at : List Step → ℕ → Bool
  reserves_at ss k = is_lr (instr_at ss k) || is_sc (instr_at ss k)

  -- of a pair both are before the turn, or both after it
  not_across : tries_first after ≡ false → (i j : ℕ) → i < length before → length before ≤ j
      → is_sc (instr_at out j) ≡ true → list_any (reserves_at out) (between i j) ≡ false → ⊥
  not_across untried i j early late sc none =
      let k = j - length before in
      let here = instr_after before turn after j k (omega (arith, late)) in
      both_ways _ untried (tried_at after k (ap is_sc (sym here) ∙ sc) (λ l less.
      let place = l + length before in
      let quiet = none_between_from (reserves_at out) i j place none (omega (arith, early)) (omega (arith, less, late)) in
      ap is_lr (sym (instr_after before turn after place l refl)) ∙ (or_parts _ _ quiet).0))

  -- none of the turn stands between, where it has one
  crossed : (list_any reserves turn ≡ true → tries_first after ≡ false) → (i j : ℕ) → is_sc (instr_at out j) ≡ true
      → list_any (reserves_at out) (between i j) ≡ false → i < length before → length before ≤ j → (m : ℕ)
      → length before ≤ m → m < length before + length turn → reserves_at all m ≡ false
  crossed untried i j sc none early late m above below = elim (cases_Bool (list_any reserves turn)) [
    | inl some ↦ absurd (not_across (untried some) i j early late sc none)
    | inr quiet ↦ in_turn before turn after m quiet above below
  ]

  pub paired_there : (list_any reserves turn ≡ true → tries_first after ≡ false) → (i j : ℕ) → are_paired out i j ≡ true
      → are_paired all (to i) (to j) ≡ true
  paired_there untried i j h =
      let parts = and_parts _ _ h in
      let both = and_parts _ _ parts.0 in
      let first = and_parts _ _ both.0 in
      let alone = not-true _ parts.1 in
      let none = none_there before turn after (reserves_at out) (reserves_at all)
      (λ k. ap (λ x. is_lr x || is_sc x) (sym (instr_there before turn after k))) i j
      (crossed untried i j both.1 alone) alone in
      and_from _ _
      (and_from _ _
      (and_from _ _ (lt-ltb (to i) (to j) (place_there_lt before turn after i j (ltb-true i j first.0)))
      (ap is_lr (sym (instr_there before turn after i)) ∙ first.1))
      (ap is_sc (sym (instr_there before turn after j)) ∙ both.1))
      (not_from_false _ none)

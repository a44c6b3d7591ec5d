-- Where the steps of a run stand among those of the fenced run.
use Rattle.std.proofs.Common.{◌≡◌, ℕ, zero, suc, ◌+◌, Bool, List, [], ◌∷◌, ◌++◌, Option, None, Some, refl, ap, ◌∙◌, arith}
use Rattle.std.specs.Prelude.{is_some, option_map, option_and_then, unwrap_or, slice_get}
use Rattle.fs_kinds.specs.declared.kind.Kind.{Kind}
use Rattle.fs_kinds.specs.declared.placement.Entry.{Entry}
use Rattle.fs_kinds.specs.Placement.{kind_at}
use Rattle.fs_model.specs.Slots.{slot_at}
use Rattle.fs_model.specs.Fenced.{is_filled, moved, fence_of}
use Rattle.fs_model.proofs.FencedPlaces.{bit}
use Rattle.fs_model.specs.declared.step.Step.{Step}
use Rattle.fs_instr.specs.Instructions.{nop}
use Rattle.fs_model.specs.Operations.{instr_at}
use Rattle.fs_model_laws.specs.Fenced.{fence_step, fence_steps, moved_step, fenced_steps}

module _ (p : List Entry) (hart : ℕ) where
  -- the kind of the fence right before step k of the run
  abbrev pub kind_before : List Step → ℕ → Option Kind
  kind_before steps k = option_and_then (λ s. kind_at (slot_at hart s.at) p) (slice_get steps k)

  abbrev pub has_before : List Step → ℕ → Bool
  has_before steps k = is_some (kind_before steps k)

  -- the place of step k among the steps of the fenced run
  abbrev pub fenced_place : List Step → ℕ → ℕ
  fenced_place [] k = k
  fenced_place (s ∷ ss) zero = bit (is_filled p hart s.at)
  fenced_place (s ∷ ss) (suc k) = bit (is_filled p hart s.at) + 1 + fenced_place ss k

  pub next_place : (steps : List Step) (k : ℕ)
      → fenced_place steps (suc k) ≡ fenced_place steps k + 1 + bit (has_before steps (suc k))
  next_place [] k = omega arith
  next_place (s ∷ []) zero = omega arith
  next_place (s ∷ u ∷ us) zero = refl
  next_place (s ∷ ss) (suc k) = let rest = next_place ss k in omega (arith, rest)

  -- ---- a step and its fence

  at_step : (o : Option Kind) (at : ℕ) (m : Step) (rest : List Step) (j : ℕ) → j ≡ bit (is_some o)
      → slice_get ((fence_steps p hart at o ++ m ∷ []) ++ rest) j ≡ Some m
  at_step None at m rest j e = ap (slice_get (m ∷ rest)) e
  at_step (Some kind) at m rest j e = ap (slice_get (fence_step p hart at kind ∷ m ∷ rest)) e

  at_fence : (o : Option Kind) (kind : Kind) (at : ℕ) (m : Step) (rest : List Step) → o ≡ Some kind
      → slice_get ((fence_steps p hart at o ++ m ∷ []) ++ rest) 0 ≡ Some (fence_step p hart at kind)
  at_fence None kind at m rest e = absurd (cc)
  at_fence (Some k) kind at m rest e = let same : k ≡ kind = cc in ap (λ x. Some (fence_step p hart at x)) same

  past_step : (o : Option Kind) (at : ℕ) (m : Step) (rest : List Step) (j k : ℕ) → j ≡ bit (is_some o) + 1 + k
      → slice_get ((fence_steps p hart at o ++ m ∷ []) ++ rest) j ≡ slice_get rest k
  past_step None at m rest j k e = let same : j ≡ suc k = omega (arith, e) in ap (slice_get (m ∷ rest)) same
  past_step (Some kind) at m rest j k e =
      let same : j ≡ suc (suc k) = omega (arith, e) in ap (slice_get (fence_step p hart at kind ∷ m ∷ rest)) same

  abbrev kind_of : Step → Option Kind
  kind_of s = kind_at (slot_at hart s.at) p

  -- ---- the steps of the fenced run

  pub step_there : (steps : List Step) (k : ℕ)
      → slice_get (fenced_steps p (hart, steps)) (fenced_place steps k) ≡ option_map (moved_step p hart) (slice_get steps k)
  step_there [] k = refl
  step_there (s ∷ ss) zero =
      at_step (kind_of s) s.at (moved_step p hart s) (fenced_steps p (hart, ss)) (bit (is_filled p hart s.at)) refl
  step_there (s ∷ ss) (suc k) =
      past_step (kind_of s) s.at (moved_step p hart s) (fenced_steps p (hart, ss))
      (bit (is_filled p hart s.at) + 1 + fenced_place ss k) (fenced_place ss k) refl
      ∙ step_there ss k

  no_kind : (kind : Kind) {X : Type 0} → None ≡ Some kind → X
  no_kind kind e = absurd (cc)

  pub fence_there : (steps : List Step) (k : ℕ) (kind : Kind) → kind_before steps (suc k) ≡ Some kind
      → option_map (λ s. s.instr) (slice_get (fenced_steps p (hart, steps)) (fenced_place steps k + 1)) ≡ Some (fence_of kind)
  fence_there [] k kind e = no_kind kind e
  fence_there (s ∷ []) zero kind e = no_kind kind e
  fence_there (s ∷ u ∷ us) zero kind e =
      ap (option_map (λ s. s.instr))
      (past_step (kind_of s) s.at (moved_step p hart s) (fenced_steps p (hart, u ∷ us)) (bit (is_filled p hart s.at) + 1) 0
      (omega arith)
      ∙ at_fence (kind_of u) kind u.at (moved_step p hart u) (fenced_steps p (hart, us)) e)
  fence_there (s ∷ ss) (suc k) kind e =
      ap (option_map (λ s. s.instr))
      (past_step (kind_of s) s.at (moved_step p hart s) (fenced_steps p (hart, ss))
      (bit (is_filled p hart s.at) + 1 + fenced_place ss k + 1) (fenced_place ss k + 1) (omega arith))
      ∙ fence_there ss k kind e

  instr_moved : (o : Option Step)
      → unwrap_or (option_map (λ s. s.instr) (option_map (moved_step p hart) o)) nop ≡ moved p hart
      (unwrap_or (option_map (λ s. s.instr) o) nop)
  instr_moved None = refl
  instr_moved (Some s) = refl

  pub instr_there : (steps : List Step) (k : ℕ)
      → instr_at (fenced_steps p (hart, steps)) (fenced_place steps k) ≡ moved p hart (instr_at steps k)
  instr_there steps k =
      ap (λ o. unwrap_or (option_map (λ s. s.instr) o) nop) (step_there steps k) ∙ instr_moved (slice_get steps k)

  pub fence_instr_there : (steps : List Step) (k : ℕ) (kind : Kind) → kind_before steps (suc k) ≡ Some kind
      → instr_at (fenced_steps p (hart, steps)) (fenced_place steps k + 1) ≡ fence_of kind
  fence_instr_there steps k kind e = ap (λ o. unwrap_or o nop) (fence_there steps k kind e)

-- The test of a dependency as a relation, and what one more step does to it.
use Rattle.std.proofs.Common.{◌≡◌, ◌⊎◌, ◌&&◌, ℕ, zero, suc, ◌-◌, ◌<◌, ◌≤◌, List, [], ◌∷◌, Bool, true, false, Option, refl, sym, subst, inl, inr, arith}
use Rattle.std.specs.List.{list_any}
use Rattle.std.proofs.lemmas.Bool.{or_cases, or_left, or_right, and_parts, and_from, cases_eq, false≢true, not-true, not_from_false, ltb-true, lt-ltb, both_ways}
use Rattle.fs_instr.specs.Instructions.{sources_of, carries_of}
use Rattle.fs_model.specs.declared.step.Step.{Step}
use Rattle.fs_model.specs.Operations.{instr_at}
use Rattle.fs_model.specs.Dependencies.{writes, depends, depends_within}
use Rattle.fs_deps.proofs.Between.{any_between_from, any_between_to, none_between_from, none_between_to}

-- the register is in one of the places
abbrev pub IsIn : List (Option ℕ) → Option ℕ → Type 0
IsIn [] register = ⊥
IsIn (r ∷ rs) register = (r ≡ register) ⊎ IsIn rs register

pub has_from : (f : Option ℕ → Bool) (rs : List (Option ℕ)) → list_any f rs ≡ true → (p : Option ℕ) × IsIn rs p × (f p ≡ true)
has_from f [] h = absurd (false≢true h)
has_from f (r ∷ rs) h = elim (or_cases (f r) (list_any f rs) h) [
  | inl e ↦ (r, inl refl, e)
  | inr later ↦ (let p = has_from f rs later in (p.0, inr p.1, p.2))
]

pub has_to : (f : Option ℕ → Bool) (rs : List (Option ℕ)) (p : Option ℕ) → IsIn rs p → f p ≡ true → list_any f rs ≡ true
has_to f [] p h e = absurd h
has_to f (r ∷ rs) p (inl here) e = or_left (f r) _ (subst (λ (x : Option ℕ). f x ≡ true) (sym here) e)
has_to f (r ∷ rs) p (inr later) e = or_right (f r) _ (has_to f rs p later e)

-- Step j depends on step i through its source `register`.
pub data Depends (steps : List Step) : ℕ → ℕ → Option ℕ → Type 0 where
  Directly : {i j : ℕ} {r : Option ℕ} → i < j → writes steps i r ≡ true
      → ((m : ℕ) → i < m → m < j → writes steps m r ≡ false) → Depends steps i j r
  Through : {i m j : ℕ} {p r : Option ℕ} → carries_of (instr_at steps m) ≡ true → IsIn (sources_of (instr_at steps m)) p
      → Depends steps i m p → Depends steps m j r → Depends steps i j r

module _ (steps : List Step) where
  pub depends_forward : (i j : ℕ) (r : Option ℕ) → Depends steps i j r → i < j
  depends_forward i j r (Directly low w k) = low
  depends_forward i j r (Through c s before after) =
      let first = depends_forward i _ _ before in
      let second = depends_forward _ j r after in
      omega arith

  sound : (d i j : ℕ) (r : Option ℕ) → i < j → depends_within d steps i j r ≡ true → Depends steps i j r
  sound zero i j r low h = absurd (false≢true h)
  sound (suc d) i j r low h = elim (or_cases _ _ h) [
    | inl direct ↦ (
        let parts = and_parts _ _ direct in
        Directly low parts.0
        (λ m after before. none_between_from (λ m. writes steps m r) i j m (not-true _ parts.1) after before))
    | inr through ↦ (
        let m = any_between_from _ i j through in
        let parts = and_parts _ _ m.3 in
        let carried = and_parts _ _ parts.0 in
        let p = has_from (depends_within d steps i m.0) (sources_of (instr_at steps m.0)) carried.1 in
        Through carried.0 p.1 (sound d i m.0 p.0 m.1 p.2) (sound d m.0 j r m.2 parts.1))
  ]

  complete : (i j : ℕ) (r : Option ℕ) (d : ℕ) → Depends steps i j r → j - i ≤ d → depends_within d steps i j r ≡ true
  complete i j r zero h near = let low = depends_forward i j r h in absurd (omega arith)
  complete i j r (suc d) (Directly low w kept) near =
      or_left _ _ (and_from _ _ w (not_from_false _ (none_between_to (λ m. writes steps m r) i j kept)))
  complete i j r (suc d) (Through {m = m} {p = p} c s before after) near =
      let first = depends_forward i m p before in
      let second = depends_forward m j r after in
      or_right _ _ (any_between_to
      (λ m. carries_of (instr_at steps m) && list_any (depends_within d steps i m) (sources_of (instr_at steps m))
      && depends_within d steps m j r) i j m first second
      (and_from _ _ (and_from _ _ c (has_to (depends_within d steps i m) _ p s (complete i m p d before (omega arith))))
      (complete m j r d after (omega arith))))

  pub depends_from : (i j : ℕ) (r : Option ℕ) → depends steps i j r ≡ true → Depends steps i j r
  depends_from i j r h = let parts = and_parts _ _ h in sound (j - i) i j r (ltb-true i j parts.0) parts.1

  pub depends_to : (i j : ℕ) (r : Option ℕ) → Depends steps i j r → depends steps i j r ≡ true
  depends_to i j r h = and_from _ _ (lt-ltb i j (depends_forward i j r h)) (complete i j r (j - i) h (omega arith))

  -- step j depends on step i through one of its sources
  abbrev pub Reaches : ℕ → ℕ → Type 0
  Reaches i j = (p : Option ℕ) × IsIn (sources_of (instr_at steps j)) p × Depends steps i j p

  -- after a step that writes r: it itself, or what it carries on
  pub after_write : (i j : ℕ) (r : Option ℕ) → writes steps j r ≡ true → Depends steps i (suc j) r
      → (i ≡ j) ⊎ ((carries_of (instr_at steps j) ≡ true) × Reaches i j)
  after_write i j r written (Directly low w kept) = elim (cases_eq i j) [
    | inl e ↦ inl e
    | inr ne ↦ absurd (both_ways _ (kept j (omega arith) (omega arith)) written)
  ]
  after_write i j r written (Through {m = m} {p = p} c s before after) = elim (after_write m j r written after) [
    | inl e ↦ inr (subst (λ (x : ℕ). (carries_of (instr_at steps x) ≡ true) × Reaches i x) e (c, (p, s, before)))
    | inr on ↦ inr (on.0, (on.1.0, on.1.1, Through c s before on.1.2))
  ]

  pub write_itself : (j : ℕ) (r : Option ℕ) → writes steps j r ≡ true → Depends steps j (suc j) r
  write_itself j r written = Directly (omega arith) written (λ m after before. absurd (omega arith))

  pub write_carries : (i j : ℕ) (r : Option ℕ) → writes steps j r ≡ true → carries_of (instr_at steps j) ≡ true → Reaches i j
      → Depends steps i (suc j) r
  write_carries i j r written c reach = Through c reach.1 reach.2 (write_itself j r written)

  -- after a step that doesn't: what was before
  pub after_other : (i j : ℕ) (r : Option ℕ) → writes steps j r ≡ false → Depends steps i (suc j) r → Depends steps i j r
  after_other i j r other (Directly low w kept) = elim (cases_eq i j) [
    | inl e ↦ absurd (both_ways _ other (subst (λ (x : ℕ). writes steps x r ≡ true) e w))
    | inr ne ↦ Directly (omega arith) w (λ m after before. kept m after (omega arith))
  ]
  after_other i j r other (Through {m = m} {p = p} c s before after) = Through c s before (after_other m j r other after)

  still : (i j : ℕ) (r : Option ℕ) → writes steps j r ≡ false → ((m : ℕ) → i < m → m < j → writes steps m r ≡ false)
      → (m : ℕ) → i < m → m < suc j → writes steps m r ≡ false
  still i j r other kept m after before = elim (cases_eq m j) [
    | inl e ↦ subst (λ (x : ℕ). writes steps x r ≡ false) (sym e) other
    | inr ne ↦ kept m after (omega arith)
  ]

  pub other_keeps : (i j : ℕ) (r : Option ℕ) → writes steps j r ≡ false → Depends steps i j r → Depends steps i (suc j) r
  other_keeps i j r other (Directly low w kept) = Directly (omega arith) w (still i j r other kept)
  other_keeps i j r other (Through {m = m} {p = p} c s before after) = Through c s before (other_keeps m j r other after)

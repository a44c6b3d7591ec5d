-- What one more step does to the dependencies, by the definitions.
use Rattle.std.proofs.Common.{◌≡◌, ◌||◌, ◌&&◌, ◌==◌, ℕ, suc, List, Bool, true, false, Option, sym, subst, inl, inr, arith}
use Rattle.std.specs.List.{list_any}
use Rattle.std.proofs.lemmas.Bool.{or_cases, or_left, or_right, and_parts, and_from, cases_eq, eqb-true, eq-eqb, false_from_ne_true}
use Rattle.fs_instr.specs.declared.instr.Instr.{Instr}
use Rattle.fs_instr.specs.Instructions.{sources_of, carries_of, is_conditional}
use Rattle.fs_model.specs.declared.step.Step.{Step}
use Rattle.fs_model.specs.Operations.{instr_at}
use Rattle.fs_model.specs.Dependencies.{writes, depends, control_depends}
use Rattle.fs_deps.proofs.Between.{any_between_from, any_between_to}
use Rattle.fs_deps.proofs.Bits.{same_bool}
use Rattle.fs_deps.proofs.Chains.{Depends, depends_from, depends_to, depends_forward, after_write, write_itself, write_carries, has_from, has_to, after_other, other_keeps, Reaches}

module _ (steps : List Step) (j : ℕ) where
  abbrev now : Instr
  now = instr_at steps j

  -- step j depends on step i through one of its sources
  abbrev pub reads : ℕ → Bool
  reads i = list_any (depends steps i j) (sources_of now)

  to_reach : (i : ℕ) → reads i ≡ true → Reaches steps i j
  to_reach i h = let p = has_from (depends steps i j) (sources_of now) h in (p.0, p.1, depends_from steps i j p.0 p.2)

  from_reach : (i : ℕ) → Reaches steps i j → reads i ≡ true
  from_reach i reach = has_to (depends steps i j) (sources_of now) reach.0 reach.1 (depends_to steps i j reach.0 reach.2)

  -- a register that step j writes
  pub written : (i : ℕ) (r : Option ℕ) → writes steps j r ≡ true
      → ((carries_of now && reads i) || (i == j)) ≡ depends steps i (suc j) r
  written i r w = same_bool _ _
      (λ h. depends_to steps i (suc j) r (elim (or_cases _ _ h) [
        | inl on ↦ (let parts = and_parts _ _ on in write_carries steps i j r w parts.0 (to_reach i parts.1))
        | inr itself ↦ subst (λ (x : ℕ). Depends steps x (suc j) r) (sym (eqb-true i j itself)) (write_itself steps j r w)
      ]))
      (λ h. elim (after_write steps i j r w (depends_from steps i (suc j) r h)) [
        | inl e ↦ or_right _ _ (eq-eqb i j e)
        | inr on ↦ or_left _ _ (and_from _ _ on.0 (from_reach i on.1))
      ])

  -- one that it doesn't
  pub unwritten : (i : ℕ) (r : Option ℕ) → writes steps j r ≡ false → depends steps i j r ≡ depends steps i (suc j) r
  unwritten i r other = same_bool _ _
      (λ h. depends_to steps i (suc j) r (other_keeps steps i j r other (depends_from steps i j r h)))
      (λ h. depends_to steps i j r (after_other steps i j r other (depends_from steps i (suc j) r h)))

  -- step m is a branch that depends on step i
  abbrev branch : ℕ → ℕ → Bool
  branch i m = is_conditional (instr_at steps m) && list_any (depends steps i m) (sources_of (instr_at steps m))

  pub control_more : (i : ℕ) → (control_depends steps i j || branch i j) ≡ control_depends steps i (suc j)
  control_more i = same_bool _ _
      (λ h. elim (or_cases _ _ h) [
        | inl before ↦ (
            let m = any_between_from (branch i) i j before in
            any_between_to (branch i) i (suc j) m.0 m.1 (omega (arith, m.2)) m.3)
        | inr here ↦ (
            let reach = to_reach i (and_parts (is_conditional now) (reads i) here).1 in
            any_between_to (branch i) i (suc j) j (depends_forward steps i j reach.0 reach.2) (omega arith) here)
      ])
      (λ h. let m = any_between_from (branch i) i (suc j) h in
      elim (cases_eq m.0 j) [
        | inl e ↦ or_right _ _ (subst (λ (x : ℕ). branch i x ≡ true) e m.3)
        | inr ne ↦ or_left _ _ (any_between_to (branch i) i j m.0 m.1 (omega (arith, m.2)) m.3)
      ])

-- nothing depends on anything before the first step
module _ (steps : List Step) where
  pub depends_none : (i : ℕ) (r : Option ℕ) → depends steps i 0 r ≡ false
  depends_none i r = false_from_ne_true _ (λ h.
      let low = depends_forward steps i 0 r (depends_from steps i 0 r h) in absurd (omega arith))

  pub control_none : (i : ℕ) → control_depends steps i 0 ≡ false
  control_none i = false_from_ne_true _ (λ h. let m = any_between_from (branch steps 0 i) i 0 h in absurd (omega (arith, m.2)))

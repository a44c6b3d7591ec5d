-- The dependencies of the first runs, one run after the other.
use Rattle.std.proofs.Common.{◌≡◌, ℕ, zero, suc, ◌+◌, ◌<◌, List, [], ◌∷◌, ◌++◌, length, get_or, sym, ap, subst, inl, inr, arith}
use Rattle.std.specs.List.{slice_index_or}
use Rattle.std.proofs.lemmas.Bool.{cases_lt}
use Rattle.std.proofs.lemmas.List.{length-append}
use Rattle.std.proofs.Math.ListN.{get_or-append}
use Rattle.std.proofs.Math.Seq.{get_or-append_seam}
use Rattle.fs_model.specs.declared.step.Step.{Step}
use Rattle.fs_model.specs.Operations.{steps_of}
use Rattle.fs_hart.specs.declared.trace.Trace.{Trace}
use Rattle.fs_deps.specs.declared.deps.Masks.{Masks}
use Rattle.fs_deps.specs.Masks.{IsDepsOf}
use Rattle.fs_hart.specs.Steps.{steps_in}

-- these are the dependencies of the first so many runs
pub record AreDepsBelow (traces : List Trace) (deps : List (List Masks)) (n : ℕ) : Type 0 where
  pub harts : length deps ≡ n
  pub each : (hart : ℕ) → hart < n → IsDepsOf (steps_of (steps_in traces) hart) (slice_index_or deps hart [])

steps_at : (traces : List Trace) (i : ℕ) (t : Trace) → i < length traces → t ≡ get_or traces i t → steps_of (steps_in traces) i ≡ t.steps
steps_at [] i t l is = absurd (omega (arith, l))
steps_at (u ∷ us) zero t l is = ap (λ (r : Trace). r.steps) (sym is)
steps_at (u ∷ us) (suc i) t l is = steps_at us i t (omega (arith, l)) is

pub deps_more : (traces : List Trace) (deps : List (List Masks)) (i : ℕ) (t : Trace) (d : List Masks) → AreDepsBelow traces deps i → i < length traces
    → t ≡ get_or traces i t → IsDepsOf t.steps d → AreDepsBelow traces (deps ++ d ∷ []) (i + 1)
deps_more traces deps i t d h l is made = record {
  harts = omega (arith, length-append deps (d ∷ []), h.harts);
  each = λ hart below. elim (cases_lt hart i) [
    | inl earlier ↦ subst (IsDepsOf (steps_of (steps_in traces) hart)) (sym (get_or-append deps (d ∷ []) [] hart (omega (arith, h.harts, earlier)))) (h.each hart earlier)
    | inr last ↦ (
        let here : length deps ≡ hart = omega (arith, h.harts, last, below) in
        let same : i ≡ hart = omega (arith, last, below) in
        let steps = steps_at traces i t l is in
        let now = subst (λ (s : List Step). IsDepsOf s d) (sym steps) made in
        let read = subst (IsDepsOf (steps_of (steps_in traces) i)) (sym (get_or-append_seam deps d [] [])) now in
        let at = subst (λ (k : ℕ). IsDepsOf (steps_of (steps_in traces) i) (slice_index_or (deps ++ d ∷ []) k [])) here read in
        subst (λ (k : ℕ). IsDepsOf (steps_of (steps_in traces) k) (slice_index_or (deps ++ d ∷ []) hart [])) same at)
  ];
}

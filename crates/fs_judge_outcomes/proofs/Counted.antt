-- How many lists of runs there are, counted up to a limit.
use Rattle.std.proofs.Common.{◌≡◌, ℕ, suc, ◌+◌, ◌*◌, ◌≤◌, List, [], length, sym, ◌∙◌, ap, subst, arith, mul-le-mul}
use Rattle.std.specs.List.{slice_index_or}
use Rattle.std.proofs.lemmas.List.{length-map}
use Rattle.fs_model.specs.declared.step.Step.{Step}
use Rattle.fs_region_refutation.specs.Alone.{RunOf}
use Rattle.fs_region_refutation.specs.Runs.{runs_over}
use Rattle.fs_judge_outcomes.specs.Vacuous.{lists_of}

lists_more : (runs : ℕ → List (List Step)) (n : ℕ) → lists_of runs (n + 1) ≡ lists_of runs n * length (runs n)
lists_more runs n = let next : n + 1 ≡ suc n = omega arith in ap (lists_of runs) next

-- a further hart
pub one_hart : (runs : List (List RunOf)) (n lists count next : ℕ) → lists ≤ lists_of (runs_over runs) n → count ≡ length (slice_index_or runs n [])
    → next ≤ lists * count → next ≤ lists_of (runs_over runs) (n + 1)
one_hart runs n lists count next before is low =
    let same : length (runs_over runs n) ≡ count = length-map (slice_index_or runs n []) (λ (run : RunOf). run.steps) ∙ sym is in
    let all : ℕ = lists_of (runs_over runs) n * length (runs_over runs n) in
    let grown : lists * count ≤ all = mul-le-mul before (let size = same in omega (arith, size)) in
    let reached : next ≤ all = omega (arith, low, grown) in
    subst (λ k. next ≤ k) (sym (lists_more (runs_over runs) n)) reached

-- An execution of a witness that is told is its own, or it reordered.
use Rattle.std.proofs.Common.{◌≡◌, ◌∙◌, ℕ, ◌<◌, true, Option, None, Some, List, [], length, refl, sym, ap, subst, arith}
use Rattle.std.proofs.lemmas.Bool.{and_parts, eqb-true, false≢true}
use Rattle.std.proofs.lemmas.List.{ext_get_or}
use Rattle.std.proofs.lemmas.List.FromFn.{get_or-map-range_with_len}
use Rattle.std.specs.List.{slice_index_or}
use Rattle.fs_kinds.specs.declared.placement.Entry.{Entry}
use Rattle.fs_model.specs.declared.test.Test.{Test}
use Rattle.fs_model.specs.declared.step.Choice.{Choice}
use Rattle.fs_model.specs.declared.step.Step.{Step}
use Rattle.fs_model.specs.Execution.{Execution, pre_execution, code_of, registers_of}
use Rattle.fs_model.specs.Operations.{PreExecution, operations, steps_of}
use Rattle.fs_model.specs.Source.{source_in}
use Rattle.fs_model.specs.Witness.{Witness, Chooses, IsOfWitness}
use Rattle.fs_model.proofs.Ranges.{each_below, each_two_below, implies_at}
use Rattle.fs_model.proofs.Runs.{run_once}
use Rattle.fs_cert_evidence.specs.Shown.{ShowsAs}
use Rattle.fs_app_why.specs.Alike.{comes_first, is_alike, is_same_source, keeps_coherence, keeps_first, keeps_source, keeps_sources}
use Rattle.fs_app_why.specs.Reordered.{IsReordered, IsToldOf, co}
use Rattle.fs_app_why.specs.Executions.{source_at, told_of}

-- ---- what the tests say

same_source : (s r : Option ℕ) → is_same_source s r ≡ true → r ≡ s
same_source None None e = refl
same_source None (Some r) e = absurd (false≢true e)
same_source (Some s) None e = absurd (false≢true e)
same_source (Some s) (Some r) e = ap (λ n. Some n) (sym (eqb-true s r e))

module _ (x : PreExecution) (first second : List ℕ) (alike : is_alike (told_of x first) (told_of x second) ≡ true) where
  parts : (keeps_sources (told_of x first) (told_of x second) ≡ true) × (keeps_coherence (told_of x first) (told_of x second) ≡ true)
  parts = and_parts _ _ alike

  source_told : (order : List ℕ) (a : ℕ) → a < length (operations x) → source_at (told_of x order) a ≡ source_in x order a
  source_told order a low = get_or-map-range_with_len (source_in x order) 0 (length (operations x)) a a None low (omega arith)

  sources_kept : (a : ℕ) → a < length (operations x) → source_in x second a ≡ source_in x first a
  sources_kept a low =
      sym (source_told second a low)
      ∙ same_source (source_at (told_of x first) a) (source_at (told_of x second) a)
      (each_below (keeps_source (told_of x first) (told_of x second)) (length (operations x)) a parts.0 low)
      ∙ source_told first a low

  coherence_kept : (a b : ℕ) → a < length (operations x) → b < length (operations x) → co x first a b ≡ true → co x second a b ≡ true
  coherence_kept a b low high =
      implies_at (comes_first (told_of x first) a b) (comes_first (told_of x second) a b)
      (each_two_below (keeps_first (told_of x first) (told_of x second)) (length (operations x)) a b parts.1 low high)

reordered : (t : Test) (e f : Execution) → f.traces ≡ e.traces
    → is_alike (told_of (pre_execution t e.traces) e.order) (told_of (pre_execution t f.traces) f.order) ≡ true → IsReordered t e f
reordered t e f runs alike =
    let x = pre_execution t e.traces in
    let here : is_alike (told_of x e.order) (told_of x f.order) ≡ true =
    subst (λ (traces : List (List Step)). is_alike (told_of x e.order) (told_of (pre_execution t traces) f.order) ≡ true) runs alike in
    record {
      runs = runs;
      sources = sources_kept x e.order f.order here;
      coherence = coherence_kept x e.order f.order here;
    }

-- ---- the same choices make the same runs

same_runs : (t : Test) (w v : Witness) (e f : Execution) → w.choices ≡ v.choices → IsOfWitness t w e → IsOfWitness t v f → f.traces ≡ e.traces
same_runs t w v e f same h k = ext_get_or [] f.traces e.traces (k.harts ∙ sym h.harts) (λ hart low.
    let there : hart < length t.codes = omega (arith, low, k.harts) in
    run_once (length t.locations) (code_of t hart) (registers_of t hart) (slice_index_or w.choices hart []) _ _
    (subst (λ (lists : List (List Choice)). Chooses t hart (slice_index_or lists hart []) (steps_of f.traces hart)) (sym same) (k.runs hart there))
    (h.runs hart there))

-- ---- what is told

pub itself_told : (t : Test) (p : List Entry) (w : Witness) (e : Execution) → ShowsAs t p w e → IsToldOf t p w e
itself_told t p w e shown = record {
  given = e;
  is_given = shown;
  shows = shown.1;
  reordered = record { runs = refl; sources = λ a low. refl; coherence = λ a b low high first. first };
}

pub reordered_told : (t : Test) (p : List Entry) (w v : Witness) (e f : Execution) → w.choices ≡ v.choices → ShowsAs t p w e → ShowsAs t p v f
    → is_alike (told_of (pre_execution t e.traces) e.order) (told_of (pre_execution t f.traces) f.order) ≡ true → IsToldOf t p w f
reordered_told t p w v e f same shown others alike = record {
  given = e;
  is_given = shown;
  shows = others.1;
  reordered = reordered t e f (same_runs t w v e f same shown.0 others.0) alike;
}

-- The candidate of an execution.
use Rattle.std.proofs.Common.{◌≡◌, ℕ, ◌<◌, inl, inr, true, false, Option, None, is_some, filter, List, [], length, refl, sym, ◌∙◌, ap, arith}
use Rattle.std.specs.Prelude.{if◌then◌else◌}
use Rattle.std.proofs.lemmas.Bool.{cases_lt}
use Rattle.std.proofs.lemmas.List.{get_or_past}
use Rattle.std.proofs.lemmas.List.FromFn.{get_or-map-range_with_len, length-map-range_with_len}
use Rattle.fs_model.specs.declared.test.Test.{Test}
use Rattle.fs_model.specs.Operations.{PreExecution, operations, is_load}
use Rattle.fs_model.specs.Source.{gmo, source_in}
use Rattle.fs_model.specs.Shows.{is_store_to}
use Rattle.fs_model.specs.Execution.{Execution, pre_execution}
use Rattle.fs_cert_evidence.specs.Candidates.{rf, stores_to}
use Rattle.fs_model.proofs.Ranges.{past_last}
use Rattle.fs_verdict_laws.specs.Decide.{candidate_of}

-- the runs of the execution
abbrev pub runs : Test → Execution → PreExecution
runs t e = pre_execution t e.traces

-- what the order gives for the source of a, where that loads
abbrev pub source_at : Test → Execution → ℕ → Option ℕ
source_at t e a = if is_load (runs t e) a then source_in (runs t e) e.order a else None

-- the stores to a location in the order
abbrev pub stores_at : Test → Execution → ℕ → List ℕ
stores_at t e k = filter (is_store_to (runs t e) k) (gmo (runs t e) e.order)

module _ (t : Test) (e : Execution) where
  pub sources_many : length (candidate_of t e).source ≡ length (operations (runs t e))
  sources_many = length-map-range_with_len (source_at t e) 0 (length (operations (runs t e)))

  pub rf_at : (a : ℕ) → rf (candidate_of t e) a ≡ source_at t e a
  rf_at a = elim (cases_lt a (length (operations (runs t e)))) [
    | inl low ↦ get_or-map-range_with_len (source_at t e) 0 (length (operations (runs t e))) a a None low (omega arith)
    | inr past ↦ (
        let long = sources_many in
        let none : is_load (runs t e) a ≡ false = ap (λ o. is_some o.loaded) (past_last (runs t e) a past) in
        get_or_past (candidate_of t e).source a None (omega (arith, past, long)) ∙ sym (rw none refl))
  ]

  pub rf_load : (a : ℕ) → is_load (runs t e) a ≡ true → rf (candidate_of t e) a ≡ source_in (runs t e) e.order a
  rf_load a loads = rf_at a ∙ rw loads refl

  pub rf_none : (a : ℕ) → is_load (runs t e) a ≡ false → rf (candidate_of t e) a ≡ None
  rf_none a quiet = rf_at a ∙ rw quiet refl

  pub stores_is : (k : ℕ) → k < length t.locations → stores_to (candidate_of t e) k ≡ stores_at t e k
  stores_is k low = get_or-map-range_with_len (stores_at t e) 0 (length t.locations) k k [] low (omega arith)

  pub stores_many : length (candidate_of t e).store_order ≡ length t.locations
  stores_many = length-map-range_with_len (stores_at t e) 0 (length t.locations)

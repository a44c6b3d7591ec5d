-- The final registers of listed runs.
use Rattle.std.proofs.Common.{◌≡◌, ◌∙◌, ℕ, ◌<◌, List, [], map, length, get_or, sym, ap, arith}
use Rattle.std.proofs.lemmas.List.{get_or-map}
use Rattle.fs_model.specs.declared.test.Test.{Test}
use Rattle.fs_model.specs.Test.{IsBounded}
use Rattle.fs_model.proofs.Pigeonhole.{IsAmong, each_among}
use Rattle.fs_hart.specs.declared.trace.Trace.{Trace}
use Rattle.fs_hart.specs.Runs.{registers_after}
use Rattle.fs_hart.specs.Steps.{steps_in}
use Rattle.fs_model_axioms.specs.Final.{AreFinal}
use Rattle.fs_values.specs.AllRuns.{HaveFinal}
use Rattle.fs_cand_listing.specs.Ways.{products, product_of_lengths}
use Rattle.fs_cand_listing.specs.RawCandidates.{AreAllRuns}
use Rattle.fs_cand_listing.proofs.Choosing.{length-products, listed_taken, index_taken}
use Rattle.fs_cand_listing.proofs.Stepwise.{among_at}
use Rattle.fs_cand_listing.proofs.Totals.{harts_are}

module _ (t : Test) (lists : List (List Trace)) (bounded : IsBounded t) (all : AreAllRuns t (map steps_in lists)) (finals : HaveFinal t lists)
    (n : ℕ) (low : n < product_of_lengths lists) where
  abbrev runs : List Trace
  runs = get_or (products lists) n []

  no_trace : Trace
  no_trace = record { steps = []; registers = [] }

  taken : (length runs ≡ length lists) × ((k : ℕ) → k < length lists → IsAmong (get_or lists k []) (get_or runs k no_trace))
  taken =
      index_taken no_trace lists runs
      (listed_taken lists runs (among_at (products lists) n [] (let long = length-products lists in omega (arith, low, long))))

  pub runs_final : AreFinal t runs
  runs_final = record {
    harts = harts_are t lists bounded all n low ∙ sym bounded.starts;
    registers = λ hart within.
        let long = taken.0 in
        let here : hart < length lists = omega (arith, within, long) in
        get_or-map (λ (trace : Trace). trace.registers) runs hart no_trace [] within
        ∙ each_among (λ trace. trace.registers ≡ registers_after t hart trace.steps) (get_or lists hart []) (get_or runs hart no_trace)
        (finals hart here) (taken.1 hart here)
        ∙ ap (registers_after t hart) (sym (get_or-map (λ (trace : Trace). trace.steps) runs hart no_trace [] within));
  }

-- The listed runs of all harts over the value sets are all runs, in choice order.
use Rattle.std.proofs.Common.{◌≡◌, ◌∙◌, ℕ, ◌<◌, ◌≤◌, List, [], ◌∷◌, map, length, refl, sym, ap, subst, arith, Fits, w8}
use Rattle.std.specs.Prelude.{◌↔◌}
use Rattle.std.specs.List.{AllPairs, Contains, slice_index_or}
use Rattle.std.proofs.lemmas.List.{get_or-map, length-map}
use Rattle.fs_model.specs.declared.test.Test.{Test}
use Rattle.fs_model.specs.Choices.{choices_of, ComesBefore}
use Rattle.fs_model.specs.Execution.{IsTrace}
use Rattle.fs_model.specs.Values.{IsValue, LoadsFrom}
use Rattle.fs_hart.specs.declared.trace.Trace.{Trace}
use Rattle.fs_hart.specs.Listing.{End, IsEarlier, AreTraces, trace_at}
use Rattle.fs_hart.specs.Steps.{steps_in}
use Rattle.fs_values.specs.Sets.{AreValues}
use Rattle.fs_values.specs.AllRuns.{AreListed}
use Rattle.fs_values.proofs.Listed.{has_all}
use Rattle.fs_cand_listing.specs.RawCandidates.{AreAllRuns}
use Rattle.fs_cand_listing.proofs.Among.{ascends-map, pairs_ascend}
use Rattle.fs_cand_listing.proofs.Rising.{ascends_pairs}

module _ (t : Test) (sets : List (List ℕ)) (values : AreValues t sets) where
  pub are_all_runs : (lists : List (List Trace)) → length lists ≡ length t.codes → AreListed t sets lists → AreAllRuns t (map steps_in lists)
  are_all_runs lists long listed = record {
    harts = length-map lists steps_in ∙ long;
    each = λ hart low steps.
        let here = get_or-map steps_in lists hart [] [] (omega (arith, low, long)) in
        subst (λ ss. Contains ss steps ↔ IsTrace t hart steps × LoadsFrom (IsValue t) steps) (sym here)
        ((has_all t sets values lists long listed hart low).exact steps);
    rising = λ hart low.
        let within : hart < length lists = omega (arith, low, long) in
        let here = get_or-map steps_in lists hart [] [] within in
        subst (AllPairs (λ s u. ComesBefore (choices_of s) (choices_of u))) (sym here)
        (has_all t sets values lists long listed hart low).rising;
  }

-- ---- over plain numbers, so that nothing else is read

pub count_fits : (n m : ℕ) → n ≡ m → m ≤ 8 → Fits w8 n
count_fits n m is few = omega arith

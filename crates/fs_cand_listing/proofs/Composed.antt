-- The listing of a test, put together from what its parts say.
use Rattle.std.proofs.Common.{◌≡◌, ◌∙◌, ℕ, ◌<◌, Some, List, map, length, get_or, sym, ap, subst, inl, inr, Result, Ok, Err, IfOk}
use Rattle.std.specs.Prelude.{slice_get, option_map}
use Rattle.std.proofs.lemmas.Bool.{cases_lt}
use Rattle.std.proofs.lemmas.Option.{slice_get-map, slice_get-get_or}
use Rattle.fs_kinds.specs.declared.fault.Fault.{Fault}
use Rattle.fs_model.specs.declared.test.Test.{Test}
use Rattle.fs_model.specs.Test.{IsBounded}
use Rattle.fs_hart.specs.declared.trace.Trace.{Trace}
use Rattle.fs_hart.specs.Steps.{steps_in}
use Rattle.fs_cert_evidence.specs.CandidateFaults.{most_candidates, HasTooMany}
use Rattle.fs_cand.specs.declared.candidate.Candidate.{Candidate}
use Rattle.fs_cand.specs.Candidates.{candidate_of}
use Rattle.fs_values.specs.Sets.{AreValues}
use Rattle.fs_cand_listing.specs.declared.place.Place.{Place}
use Rattle.fs_values.specs.AllRuns.{AreListed, HaveFinal}
use Rattle.fs_cand_listing.specs.Ways.{product_of_lengths}
use Rattle.fs_cand_listing.specs.RawCandidates.{AreAllRuns}
use Rattle.fs_cand_listing.specs.inner.Places.{runs_at, numbered_with, candidate_at, places_below, AreListable}
use Rattle.fs_cand_listing.proofs.AllRuns.{are_all_runs}
use Rattle.fs_values.proofs.Listed.{have_final}
use Rattle.fs_cand_listing.proofs.Totals.{too_many_runs}

pub all_of : (t u : Test) (sets values : List (List ℕ)) (lists : List (List Trace)) → t ≡ u → sets ≡ values → AreValues u values
    → length lists ≡ length t.codes → AreListed t sets lists → AreAllRuns u (map steps_in lists)
all_of t u sets values lists same is are long listed =
    are_all_runs u values are lists (long ∙ ap (λ (v : Test). length v.codes) same)
    (subst (λ ss. AreListed u ss lists) is (subst (λ v. AreListed v sets lists) same listed))

pub final_of : (t u : Test) (sets : List (List ℕ)) (lists : List (List Trace)) → t ≡ u → AreListed t sets lists → HaveFinal u lists
final_of t u sets lists same listed = subst (λ v. HaveFinal v lists) same (have_final t sets lists listed)

pub listable : (t : Test) (lists : List (List Trace)) → IsBounded t → AreAllRuns t (map steps_in lists) → HaveFinal t lists → (HasTooMany t → ⊥)
    → AreListable t lists
listable t lists bounded all final not_many = record {
  bounded = bounded;
  all = all;
  final = final;
  few = elim (cases_lt most_candidates (product_of_lengths lists)) [
    | inl many ↦ absurd (not_many (too_many_runs t lists all many))
    | inr fits ↦ fits
  ];
}

pub same_places : (t u : Test) (ls ms : List (List Trace)) (kept : List Place) → t ≡ u → ls ≡ ms
    → kept ≡ places_below t ls (product_of_lengths ls) → kept ≡ places_below u ms (product_of_lengths ms)
same_places t u ls ms kept same is so =
    so ∙ ap (λ v. places_below v ls (product_of_lengths ls)) same ∙ ap (λ l. places_below u l (product_of_lengths l)) is

-- the candidate of a number
pub got : (t : Test) (lists : List (List Trace)) (kept : List Place) (k : ℕ) (p : Place) (traces : List Trace) (r : Result Candidate Fault)
    → k < length kept → p ≡ get_or kept k p → traces ≡ runs_at lists p.runs
    → IfOk r (λ c. candidate_of c ≡ numbered_with t traces p.chosen)
    → IfOk r (λ c. slice_get (map (candidate_at t lists) kept) k ≡ Some (candidate_of c))
got t lists kept k p traces (Ok c) low at is made =
    slice_get-map (candidate_at t lists) kept k
    ∙ ap (λ o. option_map (candidate_at t lists) o) (slice_get-get_or kept k p low)
    ∙ ap (λ q. Some (candidate_at t lists q)) (sym at)
    ∙ ap Some (ap (λ ts. numbered_with t ts p.chosen) (sym is) ∙ sym made)
got t lists kept k p traces (Err f) low at is made = tt

pub listable_of : (t u w : Test) (sets values : List (List ℕ)) (lists : List (List Trace)) → t ≡ u → w ≡ u → sets ≡ values → IsBounded u
    → AreValues u values → length lists ≡ length t.codes → AreListed t sets lists → (HasTooMany w → ⊥) → AreListable u lists
listable_of t u w sets values lists same other is bounded are long listed not_many =
    listable u lists bounded (all_of t u sets values lists same is are long listed) (final_of t u sets lists same listed)
    (subst (λ (v : Test). HasTooMany v → ⊥) other not_many)

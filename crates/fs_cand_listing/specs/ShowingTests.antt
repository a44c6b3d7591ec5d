-- What makes a raw candidate show the outcome, as tests of one operation or of two.
use Rattle.std.specs.Prelude.{ℕ, Bool, true, ◌&&◌, ◌||◌, not, Option, None, Some, List, length, filter}
use Rattle.std.specs.List.{list_any, list_all}
use Rattle.fs_model.specs.declared.test.Test.{Test}
use Rattle.fs_model.specs.Condition.{condition_of}
use Rattle.fs_model.specs.declared.step.Step.{Step}
use Rattle.fs_model.specs.Numbers.{numbers_below}
use Rattle.fs_model.specs.Operations.{PreExecution, operations, is_store, same_word, same_hart, po, paired}
use Rattle.fs_model.specs.Shows.{holds, is_outcome, final_register}
use Rattle.fs_cert_evidence.specs.Candidates.{Candidate, runs_of, rf, co, last_word}
use Rattle.fs_cand_listing.specs.RawCandidates.{raw_candidates}

-- m is a store to the word of a that precedes it in program order, later than s in coherence order
abbrev pub is_newer : PreExecution → Candidate → (a s m : ℕ) → Bool
is_newer x c a s m = is_store x m && same_word x m a && po x m a && co c s m

-- s is no later store of the load's own hart, and the hart has no newer one before the load
abbrev pub is_coherent : PreExecution → Candidate → ℕ → Option ℕ → Bool
is_coherent x c a None = true
is_coherent x c a (Some s) =
    (not (same_hart x s a) || po x s a) && not (list_any (is_newer x c a s) (numbers_below (length (operations x))))

-- m is of another hart than w, after s and before w in coherence order
abbrev pub is_foreign_between : PreExecution → Candidate → (s w m : ℕ) → Bool
is_foreign_between x c s w m = not (same_hart x m w) && co c s m && co c m w

abbrev pub follows_closely : PreExecution → Candidate → Option ℕ → ℕ → Bool
follows_closely x c None w = true
follows_closely x c (Some s) w =
    co c s w && not (list_any (is_foreign_between x c s w) (numbers_below (length (operations x))))

abbrev pub is_atomic : PreExecution → Candidate → (r w : ℕ) → Bool
is_atomic x c r w = not (po x r w && paired x r w) || follows_closely x c (rf c r) w

abbrev pub has_outcome : Test → Candidate → Bool
has_outcome t c = is_outcome t.quantifier (holds (final_register t c.traces) (last_word t c) (condition_of t.condition))

abbrev pub are_coherent : PreExecution → Candidate → Bool
are_coherent x c = list_all (λ a. is_coherent x c a (rf c a)) (numbers_below (length (operations x)))

abbrev pub are_atomic : PreExecution → Candidate → Bool
are_atomic x c =
    list_all (λ r. list_all (is_atomic x c r) (numbers_below (length (operations x)))) (numbers_below (length (operations x)))

-- the tests together
abbrev pub shows : Test → Candidate → Bool
shows t c = has_outcome t c && (are_coherent (runs_of t c) c && are_atomic (runs_of t c) c)

-- the candidates that show it, where these are the runs of each hart
abbrev pub showing_candidates : Test → List (List (List Step)) → List Candidate
showing_candidates t lists = filter (shows t) (raw_candidates t lists)

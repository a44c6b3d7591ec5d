-- The states that a log has, against those that are allowed.
use Rattle.std.proofs.Common.{◌≡◌, ◌∙◌, ap, sym, refl, ℕ, List, [], ◌∷◌, Bool, true, false, not, ◌||◌, cond, Option, Some, None, is_some, map}
use Rattle.std.specs.Prelude.{fold}
use Rattle.std.specs.List.{filter, list_any}
use Rattle.std.specs.Map.{keys_of}
use Rattle.std.proofs.lemmas.List.Elements.{filter_agree}
use Rattle.fs_judge_outcomes.specs.declared.state.State.{State}
use Rattle.fs_judge_outcomes.specs.States.{words_of}
use Rattle.fs_app_states.specs.Compared.{is_among, is_lacking}
use Rattle.fs_app_states.specs.Tallies.{Counted, is_of, more_often, IsTally}

some_one : (b : Bool) (found : Option (Option ℕ)) (times : Option ℕ) (rest : Bool)
    → (is_some (cond b (Some (more_often found times)) found) || rest) ≡ (is_some found || (b || rest))
some_one true None times rest = refl
some_one true (Some n) times rest = refl
some_one false None times rest = refl
some_one false (Some n) times rest = refl

or_false : (b : Bool) → (b || false) ≡ b
or_false true = refl
or_false false = refl

some_from : (s : List ℕ) (found : Option (Option ℕ)) (rows : List Counted)
    → is_some (fold (λ found row. cond (is_of s row.0) (Some (more_often found row.1)) found) found rows)
    ≡ (is_some found || list_any (is_of s) (keys_of rows))
some_from s found [] = sym (or_false (is_some found))
some_from s found (row ∷ rows) =
    some_from s (cond (is_of s row.0) (Some (more_often found row.1)) found) rows
    ∙ some_one (is_of s row.0) found row.1 (list_any (is_of s) (keys_of rows))

-- a state lacks in a tally exactly where no row has it
lacking_is : (rows tally : List Counted) → IsTally rows tally → (s : List ℕ) → is_lacking tally s ≡ not (is_among (keys_of rows) s)
lacking_is rows tally is s = ap (λ (found : Option (Option ℕ)). not (is_some found)) (is.exact s) ∙ ap not (some_from s None rows)

keys_allowed : (states : List State) → keys_of {X = Option ℕ} (map (λ state. (state.words, None)) states) ≡ words_of states
keys_allowed [] = refl
keys_allowed (state ∷ states) = ap (λ (ws : List (List ℕ)). state.words ∷ ws) (keys_allowed states)

pub forbidden_are : (states : List State) (allowed tally : List Counted) → IsTally (map (λ state. (state.words, None)) states) allowed
    → filter (λ row. is_lacking allowed row.0) tally ≡ filter (λ row. not (is_among (words_of states) row.0)) tally
forbidden_are states allowed tally is =
    filter_agree (λ row. is_lacking allowed row.0) (λ row. not (is_among (words_of states) row.0))
    (λ row. lacking_is _ allowed is row.0 ∙ ap (λ (ws : List (List ℕ)). not (is_among ws row.0)) (keys_allowed states)) tally

pub not_seen_are : (rows tally : List Counted) → IsTally rows tally → (states : List (List ℕ))
    → filter (is_lacking tally) states ≡ filter (λ state. not (is_among (keys_of rows) state)) states
not_seen_are rows tally is states = filter_agree (is_lacking tally) (λ state. not (is_among (keys_of rows) state)) (lacking_is rows tally is) states

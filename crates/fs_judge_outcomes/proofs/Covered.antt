-- How far a listing is, step by step.
use Rattle.std.proofs.Common.{◌≡◌, ◌∙◌, ap, sym, refl, subst, ℕ, ◌-◌, ◌<◌, true, Some, List, [], ◌∷◌, ◌++◌, All, length, take, inl, inr}
use Rattle.std.specs.Prelude.{◌⊎◌}
use Rattle.std.specs.List.{Contains}
use Rattle.std.specs.List.Sorted.{IsStrictlySortedBy}
use Rattle.std.specs.Ordering.{nat_cmp}
use Rattle.std.specs.Cmp.Lexicographic.{slice_cmp}
use Rattle.std.proofs.lemmas.Bool.{false≢true}
use Rattle.std.proofs.lemmas.List.{length-map}
use Rattle.std.proofs.lemmas.List.Elements.{All-nil, All-cons, All-contains, All-map, All-pop, All-weaker}
use Rattle.fs_kinds.specs.declared.placement.Entry.{Entry}
use Rattle.fs_model.specs.declared.test.Test.{Test}
use Rattle.fs_judge_outcomes.specs.declared.part.Atom.{Atom}
use Rattle.fs_judge_outcomes.specs.declared.place.Place.{Place}
use Rattle.fs_judge_outcomes.specs.declared.state.State.{State}
use Rattle.fs_judge_outcomes.specs.States.{AreStates, IsShownState, IsState, word_at, words_of}
use Rattle.fs_judge_outcomes.specs.inner.Parts.{is_in, IsFoundIn, IsListed, IsPartOf, SplitsBy}
use Rattle.fs_judge_outcomes.proofs.Halves.{left_cases}

module _ (t : Test) (p : List Entry) (places : List Place) where
  pub begins : IsListed t p places [] ([] ∷ [])
  unfolding IsStrictlySortedBy
  begins = record {
    rising = tt;
    shown = All-nil (IsShownState t p places);
    asked = All-cons (IsPartOf (length places)) [] [] (All-nil (λ atom. atom.index < length places)) (All-nil (IsPartOf (length places)));
    covered = λ s h. inr refl;
  }

  -- ---- at the end

  shown_state : (state : State) → IsShownState t p places state → IsState t p places state.words
  shown_state state h = (h.0, h.2, h.3)

  pub ends : (known : List State) → IsListed t p places known [] → AreStates t p places (words_of known)
  ends known h = record {
    rising = h.rising;
    exact =
        λ s. (
          λ listed. All-contains (IsState t p places) (words_of known) s
              (All-map (IsState t p places) (λ state. state.words) known (All-weaker (IsShownState t p places) (λ state. IsState t p places state.words) shown_state known h.shown))
              listed,
          λ is. elim (h.covered s is) [ inl there ↦ there | inr left ↦ absurd (false≢true left) ],
        );
  }

  module _ (known : List State) (parts : List (List Atom)) (part : List Atom) (h : IsListed t p places known (parts ++ part ∷ [])) where
    asked_before : All (IsPartOf (length places)) parts × IsPartOf (length places) part
    asked_before = All-pop (IsPartOf (length places)) (parts ++ part ∷ []) parts (Some part) refl h.asked

    -- no state is in the part
    pub dropped : ((s : List ℕ) → IsState t p places s → is_in part s ≡ true → ⊥) → IsListed t p places known parts
    dropped none = record {
      rising = h.rising;
      shown = h.shown;
      asked = asked_before.0;
      covered =
          λ s is. elim (h.covered s is) [
            | inl there ↦ inl there
            | inr left ↦ elim (left_cases parts part s left) [ inl before ↦ inr before | inr inside ↦ absurd (none s is inside) ]
          ];
    }

    long_state : (s : List ℕ) → IsState t p places s → length s ≡ length places
    long_state s is = sym (ap length is.2) ∙ length-map places (word_at t is.0)

    -- a state in the part is known, and what is left of the part is asked later
    module _ (state : State) (found : IsFoundIn t p places part state) where
      long_found : length state.words ≡ length places
      long_found = long_state state.words (shown_state state found.0)

      pub own_places : IsPartOf (length state.words) part
      own_places = subst (λ n. IsPartOf n part) (sym long_found) asked_before.1

      pub extended : (new : List State) (later : List (List Atom)) → SplitsBy part state.words parts later
          → IsStrictlySortedBy (slice_cmp nat_cmp) (words_of new)
          → All (λ one. Contains known one ⊎ (one ≡ state)) new
          → ((s : List ℕ) → Contains (words_of known) s → Contains (words_of new) s)
          → Contains (words_of new) state.words
          → IsListed t p places new later
      extended new later splits rising each old there = record {
        rising = rising;
        shown =
            All-weaker (λ one. Contains known one ⊎ (one ≡ state)) (IsShownState t p places)
            (λ one from. elim from [
              | inl before ↦ All-contains (IsShownState t p places) known one h.shown before
              | inr same ↦ subst (IsShownState t p places) (sym same) found.0
            ]) new each;
        asked = subst (λ n. All (IsPartOf n) later) long_found (splits.parts (subst (λ n. All (IsPartOf n) parts) (sym long_found) asked_before.0));
        covered =
            λ s is. elim (h.covered s is) [
              | inl listed ↦ inl (old s listed)
              | inr left ↦ elim (left_cases parts part s left) [
                | inl before ↦ inr (splits.kept s before)
                | inr inside ↦ elim (splits.halves s (long_state s is ∙ sym long_found) inside) [
                  | inl same ↦ inl (subst (Contains (words_of new)) (sym same) there)
                  | inr later_on ↦ inr later_on
                ]
              ]
            ];
      }

pub none_left : (parts rest : List (List Atom)) (n : ℕ) → n ≡ 0 → rest ≡ take (n - 1) parts → parts ≡ rest ++ [] → parts ≡ []
none_left parts rest n none before all =
    all ∙ ap (λ (xs : List (List Atom)). xs ++ []) (before ∙ ap (λ k. take (k - 1) parts) none)

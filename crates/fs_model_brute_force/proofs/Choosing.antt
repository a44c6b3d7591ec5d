-- From the tuples of runs that begin with some to those that begin with one more.
use Rattle.std.proofs.Common.{◌≡◌, ℕ, ◌+◌, ◌<◌, ◌≤◌, inl, inr, Bool, true, false, Result, Ok, Err, IfOk, OnOk, List, []}
use Rattle.std.proofs.Common.{◌∷◌, ◌++◌, length, sym, ap, subst, ◌∙◌, arith, append_assoc}
use Rattle.std.specs.List.{Contains, slice_index_or}
use Rattle.std.proofs.lemmas.Bool.{cases_eq}
use Rattle.std.proofs.lemmas.List.{append-nil, get_or_default}
use Rattle.fs_kinds.specs.declared.placement.Entry.{Entry}
use Rattle.fs_model.specs.declared.test.Test.{Test}
use Rattle.fs_hart.specs.declared.trace.Trace.{Trace}
use Rattle.fs_model_brute_force.specs.Decisions.{Decides}
use Rattle.fs_model_brute_force.specs.Allowing.{AreChosen, AreWhole, ShowsAmong, ShowsFrom}

module _ (t : Test) (p : List Entry) where
  -- none of the first j runs of the list shows it, with one out of each later list
  abbrev pub NoneBefore : List (List Trace) → List Trace → List Trace → ℕ → Type 0
  NoneBefore rest traces list j =
      (i : ℕ) (x : Trace) → i < j → slice_index_or list i x ≡ x → ShowsAmong t p rest (traces ++ x ∷ []) → ⊥

  -- no list is left
  pub last_shows : (traces : List Trace) → ShowsFrom t p traces [] → ShowsAmong t p [] traces
  last_shows traces shows = ([], tt, subst (λ ts. ShowsFrom t p ts []) (sym (append-nil traces)) shows)

  pub last_showed : (traces : List Trace) → ShowsAmong t p [] traces → ShowsFrom t p traces []
  last_showed traces (chosen, are, shows) = by_chosen chosen are shows
    where
      by_chosen : (chosen : List Trace) → AreChosen [] chosen → ShowsFrom t p (traces ++ chosen) [] → ShowsFrom t p traces []
      by_chosen [] are shows = subst (λ ts. ShowsFrom t p ts []) (append-nil traces) shows
      by_chosen (x ∷ xs) are shows = absurd are

  -- this run of the list shows it
  pub next_shows : (list : List Trace) (rest : List (List Trace)) (traces : List Trace) (x : Trace) → Contains list x
      → ShowsAmong t p rest (traces ++ x ∷ []) → ShowsAmong t p (list ∷ rest) traces
  next_shows list rest traces x has shows =
      (x ∷ shows.0, (has, shows.1), subst (λ ts. ShowsFrom t p ts []) (append_assoc traces (x ∷ []) shows.0) shows.2)

  pub none_more : (list : List Trace) (rest : List (List Trace)) (traces : List Trace) (j : ℕ) (x : Trace)
      → slice_index_or list j x ≡ x → j < length list → (ShowsAmong t p rest (traces ++ x ∷ []) → ⊥)
      → NoneBefore rest traces list j → NoneBefore rest traces list (j + 1)
  none_more list rest traces j x here inside fails none i y low at shows = elim (cases_eq i j) [
    | inl same ↦ fails (subst (λ z. ShowsAmong t p rest (traces ++ z ∷ []))
        (sym at ∙ ap (λ k. slice_index_or list k y) same ∙ get_or_default list j y x inside ∙ here) shows)
    | inr other ↦ none i y (omega (arith, low, other)) at shows
  ]

  -- no run of the list is left
  pub none_shows : (list : List Trace) (rest : List (List Trace)) (traces : List Trace) (j : ℕ) → length list ≤ j
      → NoneBefore rest traces list j → ShowsAmong t p (list ∷ rest) traces → ⊥
  none_shows list rest traces j all none (chosen, are, shows) = by_chosen chosen are shows
    where
      by_chosen : (chosen : List Trace) → AreChosen (list ∷ rest) chosen → ShowsFrom t p (traces ++ chosen) [] → ⊥
      by_chosen [] are shows = absurd are
      by_chosen (x ∷ xs) are shows =
          none are.0.0 x (omega (arith, all, are.0.1)) are.0.2
          (xs, are.1, subst (λ ts. ShowsFrom t p ts []) (sym (append_assoc traces (x ∷ []) xs)) shows)

module _ (t : Test) where
  -- whole runs, whichever are chosen
  abbrev pub WholeHowever : List (List Trace) → List Trace → Type 0
  WholeHowever lists traces = (chosen : List Trace) → AreChosen lists chosen → AreWhole t (traces ++ chosen)

  pub whole_next : (list : List Trace) (rest : List (List Trace)) (traces : List Trace) (x : Trace) → Contains list x
      → WholeHowever (list ∷ rest) traces → WholeHowever rest (traces ++ x ∷ [])
  whole_next list rest traces x has whole chosen are =
      subst (AreWhole t) (sym (append_assoc traces (x ∷ []) chosen)) (whole (x ∷ chosen) (has, are))

  pub whole_last : (traces : List Trace) → WholeHowever [] traces → AreWhole t traces
  whole_last traces whole = subst (AreWhole t) (append-nil traces) (whole [] tt)

-- ---- answers

-- what decides P decides what is the same
pub answered : {E : Type 0} (P Q : Type 0) (r : Result Bool E) → (P → Q) → (Q → P)
    → IfOk r (λ b. Decides b P) → IfOk r (λ b. Decides b Q)
answered P Q (Ok true) f g d = f d
answered P Q (Ok false) f g d = λ q. d (g q)
answered P Q (Err e) f g d = tt

pub on_ok : {T E : Type 0} (P : Type 0) (r : Result T E) → P → OnOk r P
on_ok P (Ok x) p = p
on_ok P (Err e) p = tt

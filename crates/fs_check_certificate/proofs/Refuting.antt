-- What is kept of witnesses says what they show with the fences of a part.
use Rattle.std.proofs.Common.{◌≡◌, ◌⊎◌, ℕ, zero, suc, Bool, true, false, ◌&&◌, not, Option, None, Some, List, [], ◌∷◌, map, refl, sym, ap, ap₂, ◌∙◌, subst, inl, inr}
use Rattle.std.specs.Prelude.{unwrap_or, cond, slice_get, All}
use Rattle.std.specs.List.{AllZip, AllByRecursion, find}
use Rattle.std.proofs.lemmas.Bool.{false≢true}
use Rattle.std.proofs.lemmas.List.Elements.{All-from_recursion, recursion_from_All}
use Rattle.fs_kinds.specs.declared.kind.Kind.{Kind}
use Rattle.fs_kinds.specs.declared.placement.Entry.{Entry}
use Rattle.fs_kinds.specs.Placement.{slots_of}
use Rattle.fs_board_offers.specs.Offers.{Offers}
use Rattle.fs_kinds.specs.declared.slot.Slot.{Slot}
use Rattle.fs_kinds.specs.Slot.{is_rising}
use Rattle.fs_model.specs.declared.test.Test.{Test}
use Rattle.fs_model.specs.Test.{IsBounded}
use Rattle.fs_model.specs.Slots.{slots}
use Rattle.fs_model.proofs.Rising.{rising-slots_from}
use Rattle.fs_model.specs.Allows.{Shows}
use Rattle.fs_model.specs.Execution.{Execution}
use Rattle.fs_model.specs.Witness.{Witness}
use Rattle.fs_cert_evidence.specs.Widths.{Width, width, is_within_width}
use Rattle.fs_board_offers.specs.Parts.{Part, floor, filled_with, slots_in_part}
use Rattle.fs_board_offers.specs.Pruning.{is_pruned}
use Rattle.fs_cert_evidence.specs.Refusals.{IsFirstUnshown}
use Rattle.fs_cert_evidence.specs.Shown.{ShowsAs}
use Rattle.fs_board_offers.specs.Valid.{Refutes, RefutesBy, Bounds}
use Rattle.fs_cert_evidence.specs.declared.evidence.Pairs.{Pairs}
use Rattle.fs_cert_evidence.specs.Evidence.{pairs_at, widths_of}
use Rattle.fs_model_laws.proofs.ExactWidths.{exact}
use Rattle.fs_model_laws.proofs.Weakening.{execution-weaker}
use Rattle.fs_check.proofs.Shown.{one_shown}
use Rattle.fs_board_offers.specs.Breaks.{fits, is_kept}
use Rattle.fs_check_certificate.specs.Breaks.{is_shown_with, is_shown_under, widths_in, breaks_of, all_breaks, breaks_at, is_bounded}
use Rattle.fs_check_certificate.specs.Leaves.{Decides, ShowsWidths, AreShown}
use Rattle.fs_check_certificate.proofs.Pruned.{breaks_on, same_pruned}

-- ---- deciding

decides : (b : Bool) (P : Type 0) → (b ≡ true → P) → (P → b ≡ true) → Decides b P
decides true P holds shows = holds refl
decides false P holds shows = λ p. false≢true (shows p)

holds_where : (b : Bool) (P : Type 0) → Decides b P → b ≡ true → P
holds_where true P d e = d
holds_where false P d e = absurd (false≢true e)

some_is : {A : Type 0} (x y : A) → Some x ≡ Some y → x ≡ y
some_is x y h = cc

-- ---- two lists of one length

got_both : {A B : Type 0} (R : A → B → Type 0) (xs : List A) (ys : List B) (k : ℕ) → AllZip R xs ys
    → ((slice_get xs k ≡ None) × (slice_get ys k ≡ None)) ⊎ ((x : A) × (y : B) × (slice_get xs k ≡ Some x) × (slice_get ys k ≡ Some y) × R x y)
got_both R [] [] k h = inl (refl, refl)
got_both R [] (y ∷ ys) k h = absurd h
got_both R (x ∷ xs) [] k h = absurd h
got_both R (x ∷ xs) (y ∷ ys) zero h = inr (x, y, refl, refl, h.0)
got_both R (x ∷ xs) (y ∷ ys) (suc k) h = got_both R xs ys k h.1

-- what it costs to break a witness, where its widths are known
got_breaks : (offers : Offers) (ss : List Slot) (shown : List (Option (List Pairs))) (j : ℕ) (widths : List Pairs) → slice_get shown j ≡ Some (Some widths)
    → breaks_at (all_breaks offers ss shown) j ≡ breaks_of offers ss widths
got_breaks offers ss [] j widths at = absurd (cc)
got_breaks offers ss (kept ∷ shown) zero widths at = ap (λ k. breaks_of offers ss (widths_in k)) (some_is kept (Some widths) at)
got_breaks offers ss (kept ∷ shown) (suc j) widths at = got_breaks offers ss shown j widths at

-- ---- the slots of a part

slots_filled : (kind : Option Kind) (part : Part) → slots_of (filled_with kind part) ≡ slots_in_part part
slots_filled kind [] = refl
slots_filled kind (d ∷ part) = ap (λ ss. d.slot ∷ ss) (slots_filled kind part)

-- each slot is within the width, where the width is the one at the slots of the part
abbrev is_within : Width → List Entry → Bool
is_within w [] = true
is_within w (e ∷ p) = fits (pairs_at w e.slot) e.kind && is_within w p

kept_within : (kind : Option Kind) (w : Width) (part : Part) → is_kept kind part (widths_of w (slots_in_part part)) ≡ is_within w (filled_with kind part)
kept_within kind w [] = refl
kept_within kind w (d ∷ part) = ap (λ b. fits (pairs_at w d.slot) (unwrap_or d.decided kind) && b) (kept_within kind w part)

within_width : (t : Test) (e : Execution) (p : List Entry) → is_within (width t e) p ≡ is_within_width t e p
within_width t e [] = refl
within_width t e (entry ∷ p) = ap (λ b. fits (pairs_at (width t e) entry.slot) entry.kind && b) (within_width t e p)

module _ (t : Test) (bounded : IsBounded t) (part : Part) (same : slots_in_part part ≡ slots t) (kind : Option Kind) where
  abbrev p : List Entry
  p = filled_with kind part

  rising : is_rising (slots_of p) ≡ true
  rising = ap is_rising (slots_filled kind part ∙ same) ∙ rising-slots_from 0 t.codes

  kept_is : (e : Execution) (widths : List Pairs) → widths ≡ widths_of (width t e) (slots t) → is_kept kind part widths ≡ is_within_width t e p
  kept_is e widths is =
      ap (is_kept kind part) (is ∙ ap (widths_of (width t e)) (sym same)) ∙ (kept_within kind (width t e) part ∙ within_width t e p)

  bare : (e : Execution) → Shows t p e → Shows t [] e
  bare e shown = record {
    execution = execution-weaker t [] p e (λ s pair kept. absurd (false≢true kept)) shown.execution;
    outcome = shown.outcome;
  }

  module _ (ws : List Witness) (j : ℕ) (w : Witness) (at : slice_get ws j ≡ Some w) where
    of_kept : (kept : Option (List Pairs)) → ShowsWidths t w kept → Decides (is_shown_with kind part (Some kept)) (Refutes t ws p j)
    of_kept None none = λ (e, (v, at_v, (of, shown))).
        let one : v ≡ w = some_is v w (sym at_v ∙ at) in
        none (e, subst (λ u. ShowsAs t [] u e) one (of, bare e shown))
    of_kept (Some widths) (e, (of, shown), is) =
        decides (is_kept kind part widths) (Refutes t ws p j)
        (λ kept. (
          e,
          (
            w,
            at,
            (
              of,
              record {
                execution = (exact t e shown.execution p rising).0 (sym (kept_is e widths is) ∙ kept);
                outcome = shown.outcome;
              },
            ),
          ),
        ))
        (λ (f, (v, at_v, (of_v, shown_v))).
        let one : v ≡ w = some_is v w (sym at_v ∙ at) in
        let same_one : f ≡ e = one_shown t p [] w f e bounded.forward (subst (λ u. ShowsAs t p u f) one (of_v, shown_v)) (of, shown) in
        kept_is e widths is ∙ (exact t e shown.execution p rising).1 (subst (λ g. Shows t p g) same_one shown_v).execution)

  module _ (ws : List Witness) (shown : List (Option (List Pairs))) (are : AreShown t ws shown) where
    pub refuted : (j : ℕ) → Decides (is_shown_under kind part shown j) (Refutes t ws p j)
    refuted j = elim (got_both (ShowsWidths t) ws shown j are) [
      | inl (no_witness, no_kept) ↦ subst (λ kept. Decides (is_shown_with kind part kept) (Refutes t ws p j)) (sym no_kept) (λ (e, (w, at, rest)).
          let both : None ≡ Some w = sym no_witness ∙ at in absurd (cc))
      | inr (w, kept, at, at_kept, shows) ↦ subst (λ kept. Decides (is_shown_with kind part kept) (Refutes t ws p j)) (sym at_kept) (of_kept ws j w at kept shows)
    ]

    -- its execution, and the widths that are kept
    pub known : (j : ℕ) → is_shown_under kind part shown j ≡ true
        → (e : Execution) × RefutesBy t ws p j e × (slice_get shown j ≡ Some (Some (widths_of (width t e) (slots t))))
    known j is = elim (got_both (ShowsWidths t) ws shown j are) [
      | inl (no_witness, no_kept) ↦ (let both : false ≡ true = sym (ap (is_shown_with kind part) no_kept) ∙ is in absurd (cc))
      | inr (w, kept, at, at_kept, shows) ↦ of_shown w kept at at_kept shows
    ]
      where
        of_shown : (w : Witness) (kept : Option (List Pairs)) → slice_get ws j ≡ Some w → slice_get shown j ≡ Some kept → ShowsWidths t w kept
            → (e : Execution) × RefutesBy t ws p j e × (slice_get shown j ≡ Some (Some (widths_of (width t e) (slots t))))
        of_shown w None at at_kept none = let both : false ≡ true = sym (ap (is_shown_with kind part) at_kept) ∙ is in absurd (cc)
        of_shown w (Some widths) at at_kept (e, (of, shows), are_widths) = (
          e,
          (
            w,
            at,
            (
              of,
              record {
                execution = (exact t e shows.execution p rising).0 (sym (kept_is e widths are_widths) ∙ (sym (ap (is_shown_with kind part) at_kept) ∙ is));
                outcome = shows.outcome;
              },
            ),
          ),
          at_kept ∙ ap (λ ps. Some (Some ps)) are_widths,
        )

-- ---- a leaf that witnesses are to bound

module _ (t : Test) (bounded : IsBounded t) (part : Part) (same : slots_in_part part ≡ slots t) (ws : List Witness) (shown : List (Option (List Pairs)))
    (are : AreShown t ws shown) where
  abbrev fails : ℕ → Bool
  fails j = not (is_shown_under None part shown j)

  refuted_by : (j : ℕ) → Decides (is_shown_under None part shown j) (Refutes t ws (floor part) j)
  refuted_by = refuted t bounded part same None ws shown are

  first_one : (x : ℕ) (xs : List ℕ) (j : ℕ) (b : Bool) → Decides b (Refutes t ws (floor part) x) → cond (not b) (Some x) (find fails xs) ≡ Some j
      → (find fails xs ≡ Some j → IsFirstUnshown t ws (floor part) xs j) → IsFirstUnshown t ws (floor part) (x ∷ xs) j
  first_one x xs j false unshown e later =
      let here : x ≡ j = some_is x j e in
      ([], xs, ap (λ k. k ∷ xs) here, All-from_recursion (Refutes t ws (floor part)) [] tt, λ r. unshown (subst (Refutes t ws (floor part)) (sym here) r))
  first_one x xs j true shows e later =
      let rest = later e in (
        x ∷ rest.0,
        rest.1,
        ap (λ ks. x ∷ ks) rest.2,
        all_more (Refutes t ws (floor part)) x rest.0 shows rest.3,
        rest.4,
      )
    where
      all_more : (P : ℕ → Type 0) (x : ℕ) (xs : List ℕ) → P x → All P xs → All P (x ∷ xs)
      all_more P x xs h hs = All-from_recursion P (x ∷ xs) (h, recursion_from_All P xs hs)

  pub first_unshown : (js : List ℕ) (j : ℕ) → find fails js ≡ Some j → IsFirstUnshown t ws (floor part) js j
  first_unshown [] j e = absurd (cc)
  first_unshown (x ∷ xs) j e = first_one x xs j (is_shown_under None part shown x) (refuted_by x) e (first_unshown xs j)

  shown_first : (b : Bool) (x : ℕ) (rest : Option ℕ) → cond (not b) (Some x) rest ≡ None → (b ≡ true) × (rest ≡ None)
  shown_first true x rest e = (refl, e)
  shown_first false x rest e = absurd (cc)

  all_by : (js : List ℕ) → find fails js ≡ None → AllByRecursion (Refutes t ws (floor part)) js
  all_by [] e = tt
  all_by (x ∷ xs) e =
      let split = shown_first (is_shown_under None part shown x) x (find fails xs) e in
      (holds_where (is_shown_under None part shown x) (Refutes t ws (floor part) x) (refuted_by x) split.0, all_by xs split.1)

  pub all_shown : (js : List ℕ) → find fails js ≡ None → All (Refutes t ws (floor part)) js
  all_shown js e = All-from_recursion (Refutes t ws (floor part)) js (all_by js e)

  -- their executions, and what it costs to break them
  each : (offers : Offers) (js : List ℕ) → find fails js ≡ None
      → (es : List Execution) × AllZip (RefutesBy t ws (floor part)) js es
      × (map (breaks_at (all_breaks offers (slots t) shown)) js ≡ map (breaks_on offers (slots_in_part part)) (map (width t) es))
  each offers [] e = ([], tt, refl)
  each offers (x ∷ xs) none =
      let split = shown_first (is_shown_under None part shown x) x (find fails xs) none in
      let one = known t bounded part same None ws shown are x split.0 in
      let rest = each offers xs split.1 in (
        one.0 ∷ rest.0,
        (one.1, rest.1),
        ap₂ (λ v vs. v ∷ vs)
            (got_breaks offers (slots t) shown x (widths_of (width t one.0) (slots t)) one.2 ∙ ap (λ ss. breaks_on offers ss (width t one.0)) (sym same))
            rest.2,
      )

  one_by : (j : ℕ) (e f : Execution) → RefutesBy t ws (floor part) j e → RefutesBy t ws (floor part) j f → e ≡ f
  one_by j e f (w, at, (of, shows)) (v, at_v, (of_v, shows_v)) =
      let one : v ≡ w = some_is v w (sym at_v ∙ at) in
      one_shown t (floor part) (floor part) w e f bounded.forward (of, shows) (subst (λ u. ShowsAs t (floor part) u f) one (of_v, shows_v))

  one_each : (js : List ℕ) (es fs : List Execution) → AllZip (RefutesBy t ws (floor part)) js es → AllZip (RefutesBy t ws (floor part)) js fs → es ≡ fs
  one_each [] [] [] h k = refl
  one_each [] (e ∷ es) fs h k = absurd h
  one_each [] [] (f ∷ fs) h k = absurd k
  one_each (j ∷ js) [] fs h k = absurd h
  one_each (j ∷ js) (e ∷ es) [] h k = absurd k
  one_each (j ∷ js) (e ∷ es) (f ∷ fs) h k = ap₂ (λ x xs. x ∷ xs) (one_by j e f h.0 k.0) (one_each js es fs h.1 k.1)

  module _ (offers : Offers) (p : List Entry) (js : List ℕ) (none : find fails js ≡ None)
      (breaks : List (List (Option ℕ))) (are_breaks : breaks ≡ all_breaks offers (slots t) shown) where
    abbrev bounds : Bool
    bounds = is_bounded offers (Some p) part (map (breaks_at breaks) js)

    pruned_is : bounds ≡ is_pruned offers (Some p) part (map (width t) (each offers js none).0)
    pruned_is =
        ap (λ bs. is_bounded offers (Some p) part (map (breaks_at bs) js)) are_breaks
        ∙ (ap (is_bounded offers (Some p) part) (each offers js none).2 ∙ same_pruned offers (Some p) part (map (width t) (each offers js none).0))

    pub bound_holds : bounds ≡ true → Bounds t offers ws p part js
    bound_holds is = ((each offers js none).0, (each offers js none).1, sym pruned_is ∙ is)

    pub bound_fails : bounds ≡ false → Bounds t offers ws p part js → ⊥
    bound_fails is (es, by, pruned) =
        let same_es = one_each js es (each offers js none).0 by (each offers js none).1 in
        let both : true ≡ false = sym pruned ∙ (ap (λ fs. is_pruned offers (Some p) part (map (width t) fs)) same_es ∙ (sym pruned_is ∙ is)) in
        cc

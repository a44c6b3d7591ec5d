-- The faults of a hart, by the ends of its choice lists: too many of them, and the first that goes astray.
use Rattle.std.proofs.Common.{◌≡◌, ◌≢◌, ℕ, ◌<◌, ◌≤◌, Option, None, Some, List, [], ◌∷◌, ◌++◌, map, length, refl, ap, sym, subst, ◌∙◌, arith, inl, inr, All}
use Rattle.std.proofs.lemmas.List.{length-map}
use Rattle.std.proofs.lemmas.List.Elements.{All-map}
use Rattle.std.proofs.lemmas.List.Kept.{AllPairs-cons}
use Rattle.fs_model.specs.declared.test.Test.{Test}
use Rattle.fs_model.specs.declared.step.Step.{Step}
use Rattle.fs_model.specs.declared.step.Choice.{Choice}
use Rattle.fs_model.specs.Choices.{ComesBefore, choices_of}
use Rattle.fs_model.specs.Values.{LoadsFrom}
use Rattle.fs_model.specs.TooMany.{AreMoreThan, Ends, EndsAstray, most_choice_lists}
use Rattle.fs_model.proofs.ChoiceOrder.{comes_not_itself, not_both}
use Rattle.fs_model.proofs.Pigeonhole.{IsAmong, Differ, each_among, no_more}
use Rattle.fs_hart.specs.Listing.{End, EndsSo, IsEnd, IsEarlier, IsOffered}
use Rattle.fs_hart.specs.inner.Walking.{Rises, IsOf}
use Rattle.fs_hart.proofs.Ends.{all_of, all_head, all_tail, of_all}

abbrev pub choices_at : End → List Choice
choices_at e = choices_of e.steps

-- ---- ends and choice lists

module _ (t : Test) (hart : ℕ) (sets : List (List ℕ)) where
  abbrev EndsOver : List Choice → Type 0
  EndsOver choices = Ends t (IsOffered sets) hart choices

  ends_by : (steps : List Step) (astray : Option ℕ) → EndsSo t hart (choices_of steps) steps astray → LoadsFrom (IsOffered sets) steps → EndsOver (choices_of steps)
  ends_by steps None made loads = inl (steps, made, loads)
  ends_by steps (Some at) made loads = inr (at, record { steps = steps; astray = made; all_taken = refl; loads = loads })

  pub ends_over : (e : End) → IsEnd t hart sets e → EndsOver (choices_at e)
  ends_over e f = ends_by e.steps e.astray f.ends f.offered

  astray_end : (choices : List Choice) (at : ℕ) (a : EndsAstray t (IsOffered sets) hart choices at) → IsEnd t hart sets (record { steps = a.steps; astray = Some at })
  astray_end choices at a = record { ends = subst (λ cs. EndsSo t hart cs a.steps (Some at)) a.all_taken a.astray; offered = a.loads }

  record EndOf (choices : List Choice) : Type 0 where
    pub end : End
    pub is_end : IsEnd t hart sets end
    pub choices_are : choices ≡ choices_at end

  end_of : (choices : List Choice) → EndsOver choices → EndOf choices
  end_of choices p = elim p [
    | inl whole ↦ record {
      end = record { steps = whole.0; astray = None };
      is_end = record { ends = subst (λ cs. EndsSo t hart cs whole.0 None) whole.1.1 whole.1; offered = whole.2 };
      choices_are = whole.1.1;
    }
    | inr astray ↦ record {
      end = record { steps = astray.1.steps; astray = Some astray.0 };
      is_end = astray_end choices astray.0 astray.1;
      choices_are = astray.1.all_taken;
    }
  ]

  -- ---- too many

  differ : (ends : List End) → Rises ends → Differ (map choices_at ends)
  differ [] r = λ i j d l m. absurd (omega arith)
  differ (e ∷ es) r =
      AllPairs-cons (λ x y. x ≢ y) (choices_at e) (map choices_at es)
      (All-map (λ y. choices_at e ≢ y) choices_at es (all_of (λ b. choices_at e ≢ choices_at b) es (λ b p same. behind b (of_all (IsEarlier e) es b r.0 p) same)))
      (differ es r.1)
    where
      behind : (b : End) → IsEarlier e b → choices_at e ≡ choices_at b → ⊥
      behind b before same =
          comes_not_itself (choices_at e) (subst (ComesBefore (choices_at e)) (sym same) before)

  pub more_lists : (ends : List End) → Rises ends → All (IsEnd t hart sets) ends → most_choice_lists < length ends → AreMoreThan most_choice_lists EndsOver
  more_lists ends r each many = (
    map choices_at ends,
    differ ends r,
    All-map EndsOver choices_at ends (all_of (λ e. EndsOver (choices_at e)) ends (λ e p. ends_over e (of_all (IsEnd t hart sets) ends e each p))),
    subst (λ n. most_choice_lists < n) (sym (length-map ends choices_at)) many,
  )

  among_ends : (ends : List End) (e : End) → IsOf ends e → IsAmong (map choices_at ends) (choices_at e)
  among_ends [] e p = absurd p
  among_ends (x ∷ xs) e p = elim p [ inl q ↦ inl (ap choices_at q) | inr q ↦ inr (among_ends xs e q) ]

  -- all ends are these, which are few
  pub no_more_lists : (ends : List End) → ((e : End) → IsEnd t hart sets e → IsOf ends e) → length ends ≤ most_choice_lists → AreMoreThan most_choice_lists EndsOver → ⊥
  no_more_lists ends all few more =
      let inside : (x : List Choice) → IsAmong more.0 x → IsAmong (map choices_at ends) x =
      (λ x p. let it = end_of x (each_among EndsOver more.0 x more.2 p) in
      subst (IsAmong (map choices_at ends)) (sym it.choices_are) (among_ends ends it.end (all it.end it.is_end))) in
      let size : length (map choices_at ends) ≡ length ends = length-map ends choices_at in
      let most = no_more more.0 (map choices_at ends) more.1 inside in
      let many = more.3 in
      omega (arith, size, most, many, few)

  -- ---- the first that goes astray

  first_of : (before : List End) (here : End) (later : List End) (e : End) (k : ℕ) → Rises (before ++ here ∷ later) → All (λ b. b.astray ≡ None) before
      → IsOf (before ++ here ∷ later) e → e.astray ≡ Some k → IsEarlier e here → ⊥
  first_of [] here later e k r whole p astray early = elim p [
    | inl same ↦ comes_not_itself (choices_at here) (subst (λ d. IsEarlier d here) same early)
    | inr q ↦ not_both (choices_at e) (choices_at here) early (of_all (IsEarlier here) later e r.0 q)
  ]
  first_of (b ∷ bs) here later e k r whole p astray early = elim p [
    | inl same ↦ (let none : b.astray ≡ None = all_head (λ d. d.astray ≡ None) b bs whole in let both : None ≡ Some k = sym none ∙ ap (λ (d : End). d.astray) (sym same) ∙ astray in cc)
    | inr q ↦ first_of bs here later e k r.1 (all_tail (λ d. d.astray ≡ None) b bs whole) q astray early
  ]

  pub none_sooner : (before : List End) (here : End) (later : List End) → Rises (before ++ here ∷ later) → All (λ b. b.astray ≡ None) before
      → ((e : End) → IsEnd t hart sets e → IsOf (before ++ here ∷ later) e)
      → (others : List Choice) (k : ℕ) → EndsAstray t (IsOffered sets) hart others k → ComesBefore others (choices_at here) → ⊥
  none_sooner before here later r whole all others k a early =
      let e : End = record { steps = a.steps; astray = Some k } in
      first_of before here later e k r whole (all e (astray_end others k a)) refl (subst (λ cs. ComesBefore cs (choices_at here)) a.all_taken early)

  pub astray_by : (e : End) (at : ℕ) → IsEnd t hart sets e → e.astray ≡ Some at → EndsAstray t (IsOffered sets) hart (choices_at e) at
  astray_by e at f is = record {
    steps = e.steps;
    astray = subst (EndsSo t hart (choices_at e) e.steps) is f.ends;
    all_taken = refl;
    loads = f.offered;
  }

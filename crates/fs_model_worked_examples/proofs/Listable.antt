-- The runs of store buffering, and of a pair and a store, can be listed: they are few, and none goes astray. So what
-- their trees refute is forbidden.
use Rattle.std.proofs.Common.{◌≡◌, ◌⊎◌, ℕ, zero, suc, ◌<◌, ◌≤◌, ◌^◌, None, Some, List, [], ◌∷◌, length, inl, inr, refl, sym, ◌∙◌, ap, subst, arith, lit<, lit≤, pos}
use Rattle.std.specs.Prelude.{All, slice_get}
use Rattle.std.proofs.lemmas.Bool.{false≢true}
use Rattle.std.proofs.lemmas.List.Elements.{All-nil, All-cons}
use Rattle.fs_kinds.specs.declared.fault.Fault.{Fault}
use Rattle.fs_kinds.specs.declared.fault.Fault.TheVariants as fault
use Rattle.fs_kinds.specs.declared.kind.Kind.TheVariants.{WR}
use Rattle.fs_kinds.specs.declared.placement.Entry.{Entry}
use Rattle.fs_instr.specs.declared.instr.Instr.{Instr}
use Rattle.fs_instr.specs.declared.instr.Instr.TheVariants.{Lw, Sw, Lr, Sc}
use Rattle.fs_model.specs.declared.test.Test.{Test}
use Rattle.fs_model.specs.declared.hart.Hart.{Hart}
use Rattle.fs_model.specs.declared.step.Step.{Step}
use Rattle.fs_model.specs.declared.step.Choice.{Choice}
use Rattle.fs_model.specs.declared.step.Choice.TheVariants.{Word, Success, Failure}
use Rattle.fs_model.specs.declared.step.Stop.TheVariants.{Astray}
use Rattle.fs_model.specs.Allows.{Allows}
use Rattle.fs_model.specs.Choices.{choices_of, GoesAstray, StopsIn}
use Rattle.fs_model.specs.Execute.{address_in, executed, next_after}
use Rattle.fs_model.specs.Execution.{IsTrace, code_of, registers_of}
use Rattle.fs_model.specs.Test.{GoesForward, IsBounded}
use Rattle.fs_model.specs.TooMany.{Ends, IsHartFault, most_choice_lists}
use Rattle.fs_model.specs.Trace.{IsDeclared, AreSteps, after_step, hart_after, start_with}
use Rattle.fs_model.specs.Values.{IsValueAfter, LoadsFrom}
use Rattle.fs_model.proofs.Pigeonhole.{IsAmong, each_among, no_more}
use Rattle.fs_model.proofs.Runs.{same_instr}
use Rattle.fs_model.proofs.Tested.{GoesForward-all_reach}
use Rattle.fs_values.specs.ThinAir.{CanBeListed}
use Rattle.fs_verdict_laws.proofs.Covering.{forbids}
use Rattle.fs_verdict_laws.proofs.Stronger.{unfenced_refutes}
use Rattle.fs_model_worked_examples.specs.Small.{Place, x, y, lw, plain, sb, parted}
use Rattle.fs_model_worked_examples.specs.Refutations.{fences, sb_tree, parted_tree}
use Rattle.fs_model_worked_examples.proofs.AllRuns.{first_is, second_is, value_is, pair_is, behind_is, Is_small, Is_pair, loaded_small, sb_refuted, parted_refuted}

-- ---- codes without branches

no_instr : (i : Instr) → None ≡ Some i → ⊥
no_instr i e = absurd cc

-- of one instruction
one_never_astray : (n : ℕ) (i : Instr) (h : Hart) → h.at ≡ 0 → ((s : Step) → s.instr ≡ i → (after_step h s).at ≡ 1)
    → (GoesAstray n h i → ⊥) → (ss : List Step) (rest : List Choice) (at : ℕ)
    → AreSteps n (i ∷ []) h ss → StopsIn n (i ∷ []) (hart_after h ss) rest (Astray at) → ⊥
one_never_astray n i h e f a [] rest at steps stop =
    a (subst (GoesAstray n h) (same_instr (sym stop.1 ∙ ap (slice_get (i ∷ [])) e)) stop.2.1)
one_never_astray n i h e f a (s ∷ []) rest at steps stop =
    let is = same_instr (sym steps.0.1 ∙ ap (slice_get (i ∷ [])) e) in
    no_instr stop.0 (sym (ap (slice_get (i ∷ [])) (f s is)) ∙ stop.1)
one_never_astray n i h e f a (s ∷ u ∷ ss) rest at steps stop =
    let is = same_instr (sym steps.0.1 ∙ ap (slice_get (i ∷ [])) e) in
    no_instr u.instr (sym (ap (slice_get (i ∷ [])) (f s is)) ∙ steps.1.0.1)

-- of two
two_never_astray : (n : ℕ) (i j : Instr) (h : Hart) → h.at ≡ 0 → ((s : Step) → s.instr ≡ i → (after_step h s).at ≡ 1)
    → ((s u : Step) → s.instr ≡ i → u.instr ≡ j → (after_step (after_step h s) u).at ≡ 2)
    → (GoesAstray n h i → ⊥) → ((s : Step) → s.instr ≡ i → GoesAstray n (after_step h s) j → ⊥)
    → (ss : List Step) (rest : List Choice) (at : ℕ)
    → AreSteps n (i ∷ j ∷ []) h ss → StopsIn n (i ∷ j ∷ []) (hart_after h ss) rest (Astray at) → ⊥
two_never_astray n i j h e f g a b [] rest at steps stop =
    a (subst (GoesAstray n h) (same_instr (sym stop.1 ∙ ap (slice_get (i ∷ j ∷ [])) e)) stop.2.1)
two_never_astray n i j h e f g a b (s ∷ []) rest at steps stop =
    let is = same_instr (sym steps.0.1 ∙ ap (slice_get (i ∷ j ∷ [])) e) in
    b s is (subst (GoesAstray n (after_step h s)) (same_instr (sym stop.1 ∙ ap (slice_get (i ∷ j ∷ [])) (f s is))) stop.2.1)
two_never_astray n i j h e f g a b (s ∷ u ∷ []) rest at steps stop =
    let is = same_instr (sym steps.0.1 ∙ ap (slice_get (i ∷ j ∷ [])) e) in
    let then = same_instr (sym steps.1.0.1 ∙ ap (slice_get (i ∷ j ∷ [])) (f s is)) in
    no_instr stop.0 (sym (ap (slice_get (i ∷ j ∷ [])) (g s u is then)) ∙ stop.1)
two_never_astray n i j h e f g a b (s ∷ u ∷ v ∷ ss) rest at steps stop =
    let is = same_instr (sym steps.0.1 ∙ ap (slice_get (i ∷ j ∷ [])) e) in
    let then = same_instr (sym steps.1.0.1 ∙ ap (slice_get (i ∷ j ∷ [])) (f s is)) in
    no_instr v.instr (sym (ap (slice_get (i ∷ j ∷ [])) (g s u is then)) ∙ steps.1.1.0.1)

-- ---- a hart whose whole runs choose one of a few lists, and of which none goes astray

module _ (t : Test) (V : ℕ → ℕ → Type 0) (hart : ℕ) (lists : List (List Choice)) (few : length lists ≤ most_choice_lists)
    (each : (ss : List Step) → IsTrace t hart ss → LoadsFrom V ss → IsAmong lists (choices_of ss))
    (never : (ss : List Step) (rest : List Choice) (at : ℕ) → AreSteps (length t.locations) (code_of t hart) (start_with (registers_of t hart)) ss
    → StopsIn (length t.locations) (code_of t hart) (hart_after (start_with (registers_of t hart)) ss) rest (Astray at) → ⊥) where
  chosen : (choices : List Choice) → Ends t V hart choices → IsAmong lists choices
  chosen choices (inl (ss, whole, loads)) = subst (IsAmong lists) (sym whole.1) (each ss whole.0 loads)
  chosen choices (inr (at, astray)) = absurd (never astray.steps astray.astray.1.0 at astray.astray.0 astray.astray.1.2)

  no_hart_fault : (f : Fault) → IsHartFault t V hart f → ⊥
  no_hart_fault fault.TooManyTraces many =
      let most = no_more many.0 lists many.1 (λ choices there. chosen choices (each_among (Ends t V hart) many.0 choices many.2 there)) in
      let over = many.3 in
      omega (arith, most, over, few)
  no_hart_fault (fault.Astray h at) found =
      let astray = found.2.1 in never astray.steps astray.astray.1.0 at astray.astray.0 astray.astray.1.2
  no_hart_fault other none = none

-- ---- store buffering

module _ (b : Place) where
  abbrev t : Test
  t = sb b

  sb_words : All (λ location. location.word < 2 ^ 32) t.locations
  sb_words zero d low = lit< tt
  sb_words (suc zero) d low = lit< tt
  sb_words (suc (suc k)) d low = absurd (omega (arith, low))

  sb_bounded : IsBounded t
  sb_bounded = record {
    starts = refl;
    forward = All-cons GoesForward (code_of t 0) (code_of t 1 ∷ []) (GoesForward-all_reach (code_of t 0) refl)
        (All-cons GoesForward (code_of t 1) [] (GoesForward-all_reach (code_of t 1) refl) (All-nil GoesForward));
    atoms = ((lit< tt, lit< tt, lit< tt), (lit< tt, lit< tt, lit< tt));
    harts = lit≤ tt;
    lengths = All-cons (λ code. length code ≤ 32) (code_of t 0) (code_of t 1 ∷ []) (lit≤ tt)
        (All-cons (λ code. length code ≤ 32) (code_of t 1) [] (lit≤ tt) (All-nil (λ code. length code ≤ 32)));
    accesses = lit≤ tt;
    locations = lit≤ tt;
    depth = lit≤ tt;
  }

  abbrev two_lists : List (List Choice)
  two_lists = (Word 0 ∷ []) ∷ (Word 1 ∷ []) ∷ []

  in_two_lists : (l : ℕ) → (l ≡ 0) ⊎ (l ≡ 1) → IsAmong two_lists (Word l ∷ [])
  in_two_lists l (inl e) = inl (ap (λ w. Word w ∷ []) e)
  in_two_lists l (inr e) = inr (inl (ap (λ w. Word w ∷ []) e))

  abbrev start : ℕ → Hart
  start hart = start_with (registers_of t hart)

  sb_no_fault : (n hart : ℕ) → hart < 2 → (f : Fault) → IsHartFault t (IsValueAfter t n) hart f → ⊥
  sb_no_fault n zero low =
      no_hart_fault t (IsValueAfter t n) 0 two_lists (lit≤ tt)
      (λ ss run loads.
      let is = first_is b ss run in
      let l = subst (LoadsFrom (IsValueAfter t n)) is.1 loads 1 (lw 1 7 y is.0) (lit< tt) 1 is.0 refl refl in
      subst (λ us. IsAmong two_lists (choices_of us)) (sym is.1) (in_two_lists is.0 (value_is b n 1 is.0 l)))
      (two_never_astray 2 (Sw plain 5 6 (pos 0)) (Lw plain 7 8 (pos 0)) (start 0) refl (λ s is. ap (next_after (start 0).registers 0) is)
      (λ s u is then. ap (next_after (after_step (start 0) s).registers (after_step (start 0) s).at) then
      ∙ ap (λ i. next_after (start 0).registers (next_after (start 0).registers 0 i) (Lw plain 7 8 (pos 0))) is)
      (λ astray. astray.1 (0, lit< tt, refl))
      (λ s is astray. subst (λ i. IsDeclared 2 (address_in (executed (start 0).registers s.loaded s.stored i) (Lw plain 7 8 (pos 0))) → ⊥) is astray.1 (1, lit< tt, refl)))
  sb_no_fault n (suc zero) low =
      no_hart_fault t (IsValueAfter t n) 1 two_lists (lit≤ tt)
      (λ ss run loads.
      let is = second_is b ss run in
      let l = subst (LoadsFrom (IsValueAfter t n)) is.1 loads 1 (lw 1 7 x is.0) (lit< tt) 0 is.0 refl refl in
      subst (λ us. IsAmong two_lists (choices_of us)) (sym is.1) (in_two_lists is.0 (value_is b n 0 is.0 l)))
      (two_never_astray 2 (Sw plain 5 8 (pos 0)) (Lw plain 7 6 (pos 0)) (start 1) refl (λ s is. ap (next_after (start 1).registers 0) is)
      (λ s u is then. ap (next_after (after_step (start 1) s).registers (after_step (start 1) s).at) then
      ∙ ap (λ i. next_after (start 1).registers (next_after (start 1).registers 0 i) (Lw plain 7 6 (pos 0))) is)
      (λ astray. astray.1 (1, lit< tt, refl))
      (λ s is astray. subst (λ i. IsDeclared 2 (address_in (executed (start 1).registers s.loaded s.stored i) (Lw plain 7 6 (pos 0))) → ⊥) is astray.1 (0, lit< tt, refl)))
  sb_no_fault n (suc (suc hart)) low = absurd (omega (arith, low))

  sb_listable : CanBeListed t
  sb_listable = record {
    bounded = sb_bounded;
    words = sb_words;
    no_fault = λ f run. sb_no_fault run.round run.hart run.hart_of_test f run.met;
  }

  pub sb_forbidden : Allows (sb b) (fences WR WR) → ⊥
  sb_forbidden = forbids (sb b) sb_listable (fences WR WR) sb_tree (sb_refuted b)

-- ---- a pair and a store

module _ (b : Place) where
  abbrev pair : Test
  pair = parted b

  pair_words : All (λ location. location.word < 2 ^ 32) pair.locations
  pair_words zero d low = lit< tt
  pair_words (suc zero) d low = lit< tt
  pair_words (suc (suc k)) d low = absurd (omega (arith, low))

  pair_bounded : IsBounded pair
  pair_bounded = record {
    starts = refl;
    forward = All-cons GoesForward (code_of pair 0) (code_of pair 1 ∷ []) (GoesForward-all_reach (code_of pair 0) refl)
        (All-cons GoesForward (code_of pair 1) [] (GoesForward-all_reach (code_of pair 1) refl) (All-nil GoesForward));
    atoms = ((lit< tt, lit< tt, lit< tt), ((lit< tt, lit< tt, lit< tt), (lit< tt, lit< tt)));
    harts = lit≤ tt;
    lengths = All-cons (λ code. length code ≤ 32) (code_of pair 0) (code_of pair 1 ∷ []) (lit≤ tt)
        (All-cons (λ code. length code ≤ 32) (code_of pair 1) [] (lit≤ tt) (All-nil (λ code. length code ≤ 32)));
    accesses = lit≤ tt;
    locations = lit≤ tt;
    depth = lit≤ tt;
  }

  abbrev begins : ℕ → Hart
  begins hart = start_with (registers_of pair hart)

  abbrev pair_lists : List (List Choice)
  pair_lists =
      (Word 0 ∷ Success ∷ []) ∷ (Word 0 ∷ Failure ∷ []) ∷ (Word 1 ∷ Success ∷ []) ∷ (Word 1 ∷ Failure ∷ [])
      ∷ (Word 2 ∷ Success ∷ []) ∷ (Word 2 ∷ Failure ∷ []) ∷ []

  in_pair_lists : (ss : List Step) (l : ℕ) → Is_small b l → Is_pair b l ss → IsAmong pair_lists (choices_of ss)
  in_pair_lists ss l (inl e) (inl is) = inl (ap choices_of is ∙ ap (λ w. Word w ∷ Success ∷ []) e)
  in_pair_lists ss l (inl e) (inr is) = inr (inl (ap choices_of is ∙ ap (λ w. Word w ∷ Failure ∷ []) e))
  in_pair_lists ss l (inr (inl e)) (inl is) = inr (inr (inl (ap choices_of is ∙ ap (λ w. Word w ∷ Success ∷ []) e)))
  in_pair_lists ss l (inr (inl e)) (inr is) = inr (inr (inr (inl (ap choices_of is ∙ ap (λ w. Word w ∷ Failure ∷ []) e))))
  in_pair_lists ss l (inr (inr e)) (inl is) = inr (inr (inr (inr (inl (ap choices_of is ∙ ap (λ w. Word w ∷ Success ∷ []) e)))))
  in_pair_lists ss l (inr (inr e)) (inr is) = inr (inr (inr (inr (inr (inl (ap choices_of is ∙ ap (λ w. Word w ∷ Failure ∷ []) e))))))

  pair_no_fault : (n hart : ℕ) → hart < 2 → (f : Fault) → IsHartFault pair (IsValueAfter pair n) hart f → ⊥
  pair_no_fault n zero low =
      no_hart_fault pair (IsValueAfter pair n) 0 pair_lists (lit≤ tt)
      (λ ss run loads. let is = pair_is b ss run in in_pair_lists ss is.0 (loaded_small b n ss is.0 is.1 loads) is.1)
      (two_never_astray 2 (Lr plain 7 6) (Sc plain 9 5 6) (begins 0) refl (λ s is. ap (next_after (begins 0).registers 0) is)
      (λ s u is then. ap (next_after (after_step (begins 0) s).registers (after_step (begins 0) s).at) then
      ∙ ap (λ i. next_after (begins 0).registers (next_after (begins 0).registers 0 i) (Sc plain 9 5 6)) is)
      (λ astray. astray.1 (0, lit< tt, refl))
      (λ s is astray. false≢true astray.0))
  pair_no_fault n (suc zero) low =
      no_hart_fault pair (IsValueAfter pair n) 1 ([] ∷ []) (lit≤ tt)
      (λ ss run loads. inl (ap choices_of (behind_is b ss run)))
      (one_never_astray 2 (Sw plain 10 6 (pos 0)) (begins 1) refl (λ s is. ap (next_after (begins 1).registers 0) is)
      (λ astray. astray.1 (0, lit< tt, refl)))
  pair_no_fault n (suc (suc hart)) low = absurd (omega (arith, low))

  pair_listable : CanBeListed pair
  pair_listable = record {
    bounded = pair_bounded;
    words = pair_words;
    no_fault = λ f run. pair_no_fault run.round run.hart run.hart_of_test f run.met;
  }

  pub parted_forbidden : (p : List Entry) → Allows (parted b) p → ⊥
  parted_forbidden p =
      forbids (parted b) pair_listable p parted_tree ((unfenced_refutes (parted b) p).refuted parted_tree (parted_refuted b))

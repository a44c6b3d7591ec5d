-- The runs of the fenced code are the runs of the code, with the placed fences as steps.
use Rattle.std.proofs.Common.{◌≡◌, ℕ, zero, suc, ◌<◌, ◌≤◌, ◌⊎◌, List, [], ◌∷◌, ◌++◌, length, get_or, Option, None, Some, refl, ap, sym, subst, ◌∙◌, arith, inl, inr}
use Rattle.std.specs.Prelude.{slice_get}
use Rattle.std.proofs.lemmas.Bool.{cases_lt}
use Rattle.std.proofs.lemmas.Option.{slice_get_past, slice_get_within, slice_get-get_or}
use Rattle.fs_instr.specs.declared.instr.Instr.{Instr}
use Rattle.fs_kinds.specs.declared.kind.Kind.{Kind}
use Rattle.fs_kinds.specs.declared.placement.Entry.{Entry}
use Rattle.fs_kinds.specs.Placement.{kind_at}
use Rattle.fs_model.specs.Slots.{slot_at}
use Rattle.fs_model.specs.Fenced.{position, moved, fence_of, fenced_code}
use Rattle.fs_model.specs.Moved.{place}
use Rattle.fs_model.proofs.FencedTest.{ahead, no_further}
use Rattle.fs_model.specs.declared.hart.Hart.{Hart}
use Rattle.fs_model.specs.declared.step.Step.{Step}
use Rattle.fs_model.specs.Trace.{Accesses, IsStep, AreSteps, Runs, after_step, hart_after, start_with}
use Rattle.fs_model_laws.specs.Fenced.{fence_step, fence_steps, moved_step, fenced_steps}
use Rattle.fs_model_laws.proofs.FencedCode.{label_hart, placed_hart, label_plain, fence_passed, step_passed, fence_at, instruction_at, length_out, place_plain, place_after_fence, accesses_there, accesses_back, nothing_by_fence, fence_accesses}

-- an option holds nothing or something
pub maybe : {A : Type 0} (o : Option A) → (o ≡ None) ⊎ ((a : A) × (o ≡ Some a))
maybe None = inl refl
maybe (Some a) = inr (a, refl)

same_instr : {i j : Instr} → Some i ≡ Some j → i ≡ j
same_instr e = cc

same_step : (s u : Step) → s.at ≡ u.at → s.instr ≡ u.instr → s.address ≡ u.address → s.loaded ≡ u.loaded → s.stored ≡ u.stored
    → s ≡ u
same_step s u e f g k l =
    let whole : record { at = s.at; instr = s.instr; address = s.address; loaded = s.loaded; stored = s.stored }
    ≡ record { at = u.at; instr = u.instr; address = u.address; loaded = u.loaded; stored = u.stored } = cc in
    whole

module _ (p : List Entry) (hart n : ℕ) (code : List Instr) where
  abbrev out : List Instr
  out = fenced_code p (hart, code)

  abbrev kind_of : ℕ → Option Kind
  kind_of at = kind_at (slot_at hart at) p

  -- ---- from a run to the fenced run

  placed_step : (h : Hart) (s : Step) → IsStep n code h s → IsStep n out (placed_hart p hart h) (moved_step p hart s)
  placed_step h s r =
      (ap (place p hart) r.0, instruction_at p hart code h.at s.instr r.1, accesses_there p hart n h s s.instr r.2)

  fence_is_step : (h : Hart) (at : ℕ) (kind : Kind) → at ≡ h.at → h.at < length code → kind_of h.at ≡ Some kind
      → IsStep n out (label_hart p hart h) (fence_step p hart at kind)
  fence_is_step h at kind e low there = (
    ap (position p hart) e,
    fence_at p hart code h.at kind low there,
    fence_accesses n (label_hart p hart h)
        (fence_step p hart at kind) kind (refl, refl, refl),
  )

  -- the step with its fence, and then others
  with_fence_there : (h : Hart) (s : Step) (rest : List Step) (o : Option Kind) → IsStep n code h s → kind_of s.at ≡ o
      → AreSteps n out (label_hart p hart (after_step h s)) rest
      → AreSteps n out (label_hart p hart h) ((fence_steps p hart s.at o ++ moved_step p hart s ∷ []) ++ rest)
  with_fence_there h s rest None r e more =
      let plain = label_plain p hart h (ap kind_of (sym r.0) ∙ e) in
      let after = subst (λ k. AreSteps n out k rest) (sym (step_passed p hart h s)) more in
      subst (λ k. AreSteps n out k (moved_step p hart s ∷ rest)) (sym plain) (placed_step h s r, after)
  with_fence_there h s rest (Some kind) r e more =
      let there = ap kind_of (sym r.0) ∙ e in
      let after = subst (λ k. AreSteps n out k rest) (sym (step_passed p hart h s)) more in (
        fence_is_step h s.at kind r.0 (slice_get_within code h.at s.instr r.1) there,
        subst
            (λ k. AreSteps n out k (moved_step p hart s ∷ rest)) (sym (fence_passed p hart h s.at kind there))
            (placed_step h s r, after),
      )

  with_fence_after : (h : Hart) (s : Step) (rest : List Step) (o : Option Kind) → s.at ≡ h.at → kind_of s.at ≡ o
      → hart_after (label_hart p hart h) ((fence_steps p hart s.at o ++ moved_step p hart s ∷ []) ++ rest) ≡ hart_after
      (label_hart p hart (after_step h s)) rest
  with_fence_after h s rest None r e =
      ap (λ k. hart_after (after_step k (moved_step p hart s)) rest) (label_plain p hart h (ap kind_of (sym r) ∙ e))
      ∙ ap (λ k. hart_after k rest) (step_passed p hart h s)
  with_fence_after h s rest (Some kind) r e =
      ap (λ k. hart_after (after_step k (moved_step p hart s)) rest) (fence_passed p hart h s.at kind (ap kind_of (sym r) ∙ e))
      ∙ ap (λ k. hart_after k rest) (step_passed p hart h s)

  steps_there : (h : Hart) (ss : List Step) → AreSteps n code h ss
      → AreSteps n out (label_hart p hart h) (fenced_steps p (hart, ss))
  steps_there h [] r = tt
  steps_there h (s ∷ ss) r =
      with_fence_there h s (fenced_steps p (hart, ss)) (kind_of s.at) r.0 refl (steps_there (after_step h s) ss r.1)

  end_there : (h : Hart) (ss : List Step) → AreSteps n code h ss
      → hart_after (label_hart p hart h) (fenced_steps p (hart, ss)) ≡ label_hart p hart (hart_after h ss)
  end_there h [] r = refl
  end_there h (s ∷ ss) r =
      with_fence_after h s (fenced_steps p (hart, ss)) (kind_of s.at) r.0.0 refl ∙ end_there (after_step h s) ss r.1

  pub run_there : (registers : List ℕ) (ss : List Step) → Runs n code registers ss
      → Runs n out registers (fenced_steps p (hart, ss))
  run_there registers ss r =
      let final = ap (λ h. h.at) (end_there (start_with registers) ss r.0) in
      let whole = length_out p hart code in
      let late = no_further p hart (length code) (hart_after (start_with registers) ss).at r.1 in
      (steps_there (start_with registers) ss r.0, omega (arith, final, whole, late))

  -- ---- and back

  -- a run from h that becomes us with its fences
  record IsRunOf (h : Hart) (us ss : List Step) : Type 0 where
    pub steps : AreSteps n code h ss
    pub fenced : fenced_steps p (hart, ss) ≡ us
    pub whole : length code ≤ (hart_after h ss).at

  not_past : (h : Hart) → length out ≤ position p hart h.at → length code ≤ h.at
  not_past h past = elim (cases_lt h.at (length code)) [
    | inl low ↦ (
        let after = ahead p hart h.at (length code) low in
        let whole = length_out p hart code in
        let late : position p hart h.at ≤ place p hart h.at = later (kind_of h.at) h.at refl in
        absurd (omega (arith, past, after, whole, late)))
    | inr there ↦ there
  ]
    where
      later : (o : Option Kind) (at : ℕ) → kind_of at ≡ o → position p hart at ≤ place p hart at
      later None at e = let same = place_plain p hart at e in omega (arith, same)
      later (Some kind) at e = let one = place_after_fence p hart at kind e in omega (arith, one)

  -- the instruction of a step there
  step_back : (h : Hart) (i : Instr) (v : Step) → slice_get code h.at ≡ Some i → IsStep n out (placed_hart p hart h) v
      → (s : Step) × IsStep n code h s × (moved_step p hart s ≡ v)
  step_back h i v e r =
      let s : Step = record { at = h.at; instr = i; address = v.address; loaded = v.loaded; stored = v.stored } in
      let known : moved p hart i ≡ v.instr = same_instr (sym (instruction_at p hart code h.at i e) ∙ r.1) in
      let same : moved_step p hart s ≡ v = same_step (moved_step p hart s) v (sym r.0) known refl refl refl in
      let access : Accesses n (placed_hart p hart h) (moved_step p hart s) (moved p hart i) = subst
      (λ j. Accesses n (placed_hart p hart h) (moved_step p hart s) j) (sym known)
      (subst (λ x. Accesses n (placed_hart p hart h) x v.instr) (sym same) r.2) in
      (s, (refl, e, accesses_back p hart n h s i access), same)

  fence_back : (h : Hart) (kind : Kind) (u : Step) → h.at < length code → kind_of h.at ≡ Some kind
      → IsStep n out (label_hart p hart h) u → fence_step p hart h.at kind ≡ u
  fence_back h kind u low e r =
      let known : fence_of kind ≡ u.instr = same_instr (sym (fence_at p hart code h.at kind low e) ∙ r.1) in
      let nothing = nothing_by_fence n (label_hart p hart h) u kind
      (subst (λ j. Accesses n (label_hart p hart h) u j) (sym known) r.2) in
      same_step (fence_step p hart h.at kind) u (sym r.0) known (sym nothing.0) (sym nothing.1) (sym nothing.2)

  -- one more step with its fence, before the others
  one_more : (h : Hart) (s : Step) (vs us ss : List Step) → IsStep n code h s → IsRunOf (after_step h s) vs ss
      → us ≡ (fence_steps p hart s.at (kind_of s.at) ++ moved_step p hart s ∷ []) ++ vs → IsRunOf h us (s ∷ ss)
  one_more h s vs us ss r more e =
      record {
        steps = (r, more.steps);
        fenced = ap (λ k. (fence_steps p hart s.at (kind_of s.at) ++ moved_step p hart s ∷ []) ++ k) more.fenced ∙ sym e;
        whole = more.whole;
      }

  here_at : (h : Hart) (s : Step) (o : Option Kind) (us : List Step) → IsStep n code h s → kind_of h.at ≡ o
      → (fence_steps p hart h.at o ++ moved_step p hart s ∷ []) ++ us ≡
      (fence_steps p hart s.at (kind_of s.at) ++ moved_step p hart s ∷ []) ++ us
  here_at h s o us r e =
      ap (λ k. (fence_steps p hart h.at k ++ moved_step p hart s ∷ []) ++ us) (sym e)
      ∙ ap (λ at. (fence_steps p hart at (kind_of at) ++ moved_step p hart s ∷ []) ++ us) (sym r.0)

  -- past the step v of the instruction there
  passed_back : (h : Hart) (s v : Step) (vs : List Step) → moved_step p hart s ≡ v
      → AreSteps n out (after_step (placed_hart p hart h) v) vs → AreSteps n out (label_hart p hart (after_step h s)) vs
  passed_back h s v vs e r =
      subst (λ k. AreSteps n out k vs) (ap (after_step (placed_hart p hart h)) (sym e) ∙ step_passed p hart h s) r

  passed_end : (h : Hart) (s v : Step) (vs : List Step) → moved_step p hart s ≡ v
      → length out ≤ (hart_after (after_step (placed_hart p hart h) v) vs).at
      → length out ≤ (hart_after (label_hart p hart (after_step h s)) vs).at
  passed_end h s v vs e r =
      subst (λ k. length out ≤ (hart_after k vs).at) (ap (after_step (placed_hart p hart h)) (sym e) ∙ step_passed p hart h s) r

  -- a fence, the step after it, and the others
  fence_and_back : (h : Hart) (i : Instr) (kind : Kind) (u : Step) (us : List Step) → h.at < length code
      → slice_get code h.at ≡ Some i → kind_of h.at ≡ Some kind
      → ((k : Hart) (vs : List Step) → length vs ≤ length us → AreSteps n out (label_hart p hart k) vs → length out ≤
      (hart_after (label_hart p hart k) vs).at → (ss : List Step) × IsRunOf k vs ss)
      → AreSteps n out (label_hart p hart h) (u ∷ us) → length out ≤ (hart_after (label_hart p hart h) (u ∷ us)).at
      → (ss : List Step) × IsRunOf h (u ∷ us) ss
  fence_and_back h i kind u [] low e there others r past =
      let same = fence_back h kind u low there r.0 in
      let passed = ap (after_step (label_hart p hart h)) (sym same) ∙ fence_passed p hart h h.at kind there in
      let at = ap (λ k. k.at) passed in
      let after = ahead p hart h.at (length code) low in
      let whole = length_out p hart code in
      absurd (omega (arith, past, at, after, whole))
  fence_and_back h i kind u (v ∷ vs) low e there others r past =
      let same = fence_back h kind u low there r.0 in
      let passed = ap (after_step (label_hart p hart h)) (sym same) ∙ fence_passed p hart h h.at kind there in
      let steps = subst (λ k. AreSteps n out k (v ∷ vs)) passed r.1 in
      let end = subst (λ k. length out ≤ (hart_after k (v ∷ vs)).at) passed past in
      let back = step_back h i v e steps.0 in
      let rest = others (after_step h back.0) vs (omega arith) (passed_back h back.0 v vs back.2 steps.1)
      (passed_end h back.0 v vs back.2 end) in (
        back.0 ∷ rest.0,
        one_more h back.0 vs (u ∷ v ∷ vs) rest.0 back.1 rest.1
            (ap (λ x. x ∷ v ∷ vs) (sym same) ∙ ap (λ x. fence_step p hart h.at kind ∷ x ∷ vs) (sym back.2)
            ∙ here_at h back.0 (Some kind) vs back.1 there),
      )

  -- a step with no fence, and the others
  plain_back : (h : Hart) (i : Instr) (u : Step) (us : List Step) → slice_get code h.at ≡ Some i → kind_of h.at ≡ None
      → ((k : Hart) → AreSteps n out (label_hart p hart k) us → length out ≤ (hart_after (label_hart p hart k) us).at →
      (ss : List Step) × IsRunOf k us ss)
      → AreSteps n out (label_hart p hart h) (u ∷ us) → length out ≤ (hart_after (label_hart p hart h) (u ∷ us)).at
      → (ss : List Step) × IsRunOf h (u ∷ us) ss
  plain_back h i u us e there others r past =
      let plain = label_plain p hart h there in
      let steps = subst (λ k. AreSteps n out k (u ∷ us)) plain r in
      let end = subst (λ k. length out ≤ (hart_after k (u ∷ us)).at) plain past in
      let back = step_back h i u e steps.0 in
      let later = passed_end h back.0 u us back.2 end in
      let rest = others (after_step h back.0) (passed_back h back.0 u us back.2 steps.1) later in (
        back.0 ∷ rest.0,
        one_more h back.0 us (u ∷ us) rest.0 back.1 rest.1
            (ap (λ x. x ∷ us) (sym back.2) ∙ here_at h back.0 None us back.1 there),
      )

  no_step_there : (h : Hart) (u : Step) → length code ≤ h.at → IsStep n out (label_hart p hart h) u → ⊥
  no_step_there h u past r =
      let whole = length_out p hart code in
      let late = no_further p hart (length code) h.at past in
      let both : None ≡ Some u.instr = sym (slice_get_past out (position p hart h.at) (omega (arith, whole, late))) ∙ r.1 in cc

  steps_back : (most : ℕ) (h : Hart) (us : List Step) → length us ≤ most → AreSteps n out (label_hart p hart h) us
      → length out ≤ (hart_after (label_hart p hart h) us).at → (ss : List Step) × IsRunOf h us ss
  steps_back most h [] few r past = ([], record { steps = tt; fenced = refl; whole = not_past h past })
  steps_back zero h (u ∷ us) few r past = absurd (omega (arith, few))
  steps_back (suc most) h (u ∷ us) few r past = elim (cases_lt h.at (length code)) [
    | inr late ↦ absurd (no_step_there h u late r.0)
    | inl low ↦ (
        let i = get_or code h.at u.instr in
        let e = slice_get-get_or code h.at u.instr low in
        elim (maybe (kind_of h.at)) [
          | inl there ↦ plain_back h i u us e there (λ k. steps_back most k us (omega (arith, few))) r past
          | inr found ↦ fence_and_back h i found.0 u us low e found.1
              (λ k vs less. steps_back most k vs (omega (arith, few, less))) r past
        ])
  ]

  pub run_back : (registers : List ℕ) (us : List Step) → Runs n out registers us
      → (ss : List Step) × Runs n code registers ss × (fenced_steps p (hart, ss) ≡ us)
  run_back registers us r =
      let found = steps_back (length us) (start_with registers) us (omega arith) r.0 r.1 in
      (found.0, (found.1.steps, found.1.whole), found.1.fenced)

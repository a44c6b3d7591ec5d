-- A run that is whole doesn't stop, whatever steps are made of the same choices.
use Rattle.std.proofs.Common.{◌≡◌, ℕ, ◌≤◌, Option, None, Some, is_some, option_map, if◌then◌else◌, true, false, List, [], ◌∷◌, ◌++◌, length, refl, sym, ◌∙◌, ap, subst, inl, inr}
use Rattle.std.specs.Prelude.{slice_get}
use Rattle.std.specs.Option.{option_to_list}
use Rattle.std.proofs.lemmas.Bool.{false≢true}
use Rattle.std.proofs.lemmas.List.{append_assoc}
use Rattle.std.proofs.lemmas.Option.{slice_get_past}
use Rattle.fs_instr.specs.declared.instr.Instr.{Instr}
use Rattle.fs_instr.specs.declared.instr.Instr.TheVariants.{Register, Immediate, Shift, Lui, Li, Lw, Sw, Lr, Sc, Amo, Branch, Jump, Fence, FenceTso, FenceI}
use Rattle.fs_model.specs.declared.hart.Hart.{Hart}
use Rattle.fs_model.specs.declared.step.Step.{Step}
use Rattle.fs_model.specs.declared.step.Choice.{Choice}
use Rattle.fs_model.specs.declared.step.Choice.TheVariants.{Word, Success, Failure}
use Rattle.fs_model.specs.declared.step.Stop.{Stop}
use Rattle.fs_model.specs.declared.step.Stop.TheVariants.{Short, Long, BadChoice, BadSc, Astray}
use Rattle.fs_model.specs.Forms.{is_loading, is_sc}
use Rattle.fs_model.specs.Execute.{address_in}
use Rattle.fs_model.specs.Trace.{IsDeclared, IsWord, IsAtLocation, IsStep, AreSteps, after_step, hart_after, start_with}
use Rattle.fs_model.specs.Choices.{Makes, IsWhole, IsStopped, StopsAt, StopsIn, GoesAstray, fits, choice_by, choices_of}
use Rattle.fs_model.proofs.Runs.{made, no_step, same_step, same_instr}

located : (n : ℕ) (h : Hart) (i : Instr) (s : Step) → s.instr ≡ i → IsAtLocation n h s → IsDeclared n (address_in h.registers i)
located n h i s e a = subst (λ x. IsDeclared n x) (a.0 ∙ ap (λ j. address_in h.registers j) e) a.1

not_astray : (n : ℕ) (h : Hart) (i : Instr) (c : Option Choice) (s : Step) → Makes n h i c s → GoesAstray n h i → ⊥
not_astray n h (Register op rd first second) c s m g = false≢true g.0
not_astray n h (Immediate op rd first immediate) c s m g = false≢true g.0
not_astray n h (Shift op rd first amount) c s m g = false≢true g.0
not_astray n h (Lui rd upper) c s m g = false≢true g.0
not_astray n h (Li rd word) c s m g = false≢true g.0
not_astray n h (Lw ann rd base offset) c s m g = g.1 (located n h (Lw ann rd base offset) s m.instr m.access.0)
not_astray n h (Sw ann value base offset) c s m g = g.1 (located n h (Sw ann value base offset) s m.instr m.access.0)
not_astray n h (Lr ann rd base) c s m g = g.1 (located n h (Lr ann rd base) s m.instr m.access.0)
not_astray n h (Sc ann rd value base) c s m g = false≢true g.0
not_astray n h (Amo op ann rd value base) c s m g = g.1 (located n h (Amo op ann rd value base) s m.instr m.access.0)
not_astray n h (Branch op first second target) c s m g = false≢true g.0
not_astray n h (Jump target) c s m g = false≢true g.0
not_astray n h (Fence before after) c s m g = false≢true g.0
not_astray n h FenceTso c s m g = false≢true g.0
not_astray n h FenceI c s m g = false≢true g.0

abbrev outcome_of : Option ℕ → Option Choice
outcome_of stored = Some (if is_some stored then Success else Failure)

not_success : (o : Option ℕ) → o ≡ None → outcome_of o ≡ Some Success → ⊥
not_success None e f = cc
not_success (Some w) e f = cc

-- the list of the choices begins with that of the step
not_bad_sc : (n : ℕ) (h : Hart) (i : Instr) (c : Option Choice) (s : Step) (xs : List Choice) → Makes n h i c s
    → StopsAt n h i (option_to_list (choice_by i s) ++ xs) BadSc → ⊥
not_bad_sc n h (Register op rd first second) c s xs m b = false≢true b.0
not_bad_sc n h (Immediate op rd first immediate) c s xs m b = false≢true b.0
not_bad_sc n h (Shift op rd first amount) c s xs m b = false≢true b.0
not_bad_sc n h (Lui rd upper) c s xs m b = false≢true b.0
not_bad_sc n h (Li rd word) c s xs m b = false≢true b.0
not_bad_sc n h (Lw ann rd base offset) c s xs m b = false≢true b.0
not_bad_sc n h (Sw ann value base offset) c s xs m b = false≢true b.0
not_bad_sc n h (Lr ann rd base) c s xs m b = false≢true b.0
not_bad_sc n h (Sc ann rd value base) c s xs m b = elim m.access [
  | inl a ↦ b.2 (sym (a.0 ∙ ap (λ j. address_in h.registers j) m.instr) ∙ a.1)
  | inr a ↦ not_success s.stored a.2 b.1
]
not_bad_sc n h (Amo op ann rd value base) c s xs m b = false≢true b.0
not_bad_sc n h (Branch op first second target) c s xs m b = false≢true b.0
not_bad_sc n h (Jump target) c s xs m b = false≢true b.0
not_bad_sc n h (Fence before after) c s xs m b = false≢true b.0
not_bad_sc n h FenceTso c s xs m b = false≢true b.0
not_bad_sc n h FenceI c s xs m b = false≢true b.0

word_fits : (i : Instr) (o : Option ℕ) (xs : List Choice) → is_loading i ≡ true → IsWord o
    → option_map (fits i) (slice_get (option_to_list (option_map Word o) ++ xs) 0) ≡ Some false → ⊥
word_fits i None xs l w e = w
word_fits i (Some a) xs l w e = let f : Some (is_loading i) ≡ Some false = e in cc

outcome_fits : (i : Instr) (o : Option ℕ) → is_sc i ≡ true → option_map (fits i) (outcome_of o) ≡ Some false → ⊥
outcome_fits i None l e = let f : Some (is_sc i) ≡ Some false = e in cc
outcome_fits i (Some a) l e = let f : Some (is_sc i) ≡ Some false = e in cc

not_bad_choice : (n : ℕ) (h : Hart) (i : Instr) (c : Option Choice) (s : Step) (xs : List Choice) → Makes n h i c s
    → StopsAt n h i (option_to_list (choice_by i s) ++ xs) BadChoice → ⊥
not_bad_choice n h (Register op rd first second) c s xs m b = false≢true b.1
not_bad_choice n h (Immediate op rd first immediate) c s xs m b = false≢true b.1
not_bad_choice n h (Shift op rd first amount) c s xs m b = false≢true b.1
not_bad_choice n h (Lui rd upper) c s xs m b = false≢true b.1
not_bad_choice n h (Li rd word) c s xs m b = false≢true b.1
not_bad_choice n h (Lw ann rd base offset) c s xs m b = word_fits (Lw ann rd base offset) s.loaded xs refl m.access.1 b.2
not_bad_choice n h (Sw ann value base offset) c s xs m b = false≢true b.1
not_bad_choice n h (Lr ann rd base) c s xs m b = word_fits (Lr ann rd base) s.loaded xs refl m.access.1 b.2
not_bad_choice n h (Sc ann rd value base) c s xs m b = outcome_fits (Sc ann rd value base) s.stored refl b.2
not_bad_choice n h (Amo op ann rd value base) c s xs m b = word_fits (Amo op ann rd value base) s.loaded xs refl m.access.1 b.2
not_bad_choice n h (Branch op first second target) c s xs m b = false≢true b.1
not_bad_choice n h (Jump target) c s xs m b = false≢true b.1
not_bad_choice n h (Fence before after) c s xs m b = false≢true b.1
not_bad_choice n h FenceTso c s xs m b = false≢true b.1
not_bad_choice n h FenceI c s xs m b = false≢true b.1

word_there : (o : Option ℕ) (xs : List Choice) → IsWord o → option_to_list (option_map Word o) ++ xs ≡ [] → ⊥
word_there None xs w e = w
word_there (Some a) xs w e = let f : Word a ∷ xs ≡ [] = e in cc

not_short : (n : ℕ) (h : Hart) (i : Instr) (c : Option Choice) (s : Step) (xs : List Choice) → Makes n h i c s
    → StopsAt n h i (option_to_list (choice_by i s) ++ xs) Short → ⊥
not_short n h (Register op rd first second) c s xs m b = false≢true b.1
not_short n h (Immediate op rd first immediate) c s xs m b = false≢true b.1
not_short n h (Shift op rd first amount) c s xs m b = false≢true b.1
not_short n h (Lui rd upper) c s xs m b = false≢true b.1
not_short n h (Li rd word) c s xs m b = false≢true b.1
not_short n h (Lw ann rd base offset) c s xs m b = word_there s.loaded xs m.access.1 b.2
not_short n h (Sw ann value base offset) c s xs m b = false≢true b.1
not_short n h (Lr ann rd base) c s xs m b = word_there s.loaded xs m.access.1 b.2
not_short n h (Sc ann rd value base) c s xs m b = let f : (if is_some s.stored then Success else Failure) ∷ xs ≡ [] = b.2 in cc
not_short n h (Amo op ann rd value base) c s xs m b = word_there s.loaded xs m.access.1 b.2
not_short n h (Branch op first second target) c s xs m b = false≢true b.1
not_short n h (Jump target) c s xs m b = false≢true b.1
not_short n h (Fence before after) c s xs m b = false≢true b.1
not_short n h FenceTso c s xs m b = false≢true b.1
not_short n h FenceI c s xs m b = false≢true b.1

not_stopped : (n : ℕ) (h : Hart) (i : Instr) (c : Option Choice) (s : Step) (xs : List Choice) (stop : Stop) → Makes n h i c s
    → StopsAt n h i (option_to_list (choice_by i s) ++ xs) stop → ⊥
not_stopped n h i c s xs (Astray at) m b = not_astray n h i c s m b.1
not_stopped n h i c s xs BadSc m b = not_bad_sc n h i c s xs m b
not_stopped n h i c s xs BadChoice m b = not_bad_choice n h i c s xs m b
not_stopped n h i c s xs Short m b = not_short n h i c s xs m b
not_stopped n h i c s xs Long m b = b

-- no stop but Long comes at the end, and there it needs a choice
past_end : (n : ℕ) (code : List Instr) (h : Hart) (stop : Stop) → length code ≤ h.at → StopsIn n code h [] stop → ⊥
past_end n code h Long past b = b.1 refl
past_end n code h Short past b = let both : None ≡ Some b.0 = sym (slice_get_past code h.at past) ∙ b.1 in cc
past_end n code h BadChoice past b = let both : None ≡ Some b.0 = sym (slice_get_past code h.at past) ∙ b.1 in cc
past_end n code h BadSc past b = let both : None ≡ Some b.0 = sym (slice_get_past code h.at past) ∙ b.1 in cc
past_end n code h (Astray at) past b = let both : None ≡ Some b.0 = sym (slice_get_past code h.at past) ∙ b.1 in cc

there : (n : ℕ) (code : List Instr) (h : Hart) (s : Step) (xs : List Choice) (stop : Stop) (i : Instr) → IsStep n code h s → slice_get code h.at ≡ Some i
    → StopsAt n h i (option_to_list (choice_by s.instr s) ++ xs) stop → ⊥
there n code h s xs stop i r e b =
    let known : s.instr ≡ i = same_instr (sym r.1 ∙ e) in
    not_stopped n h i (choice_by i s) s xs stop (made n code h i s e r) (subst (λ j. StopsAt n h i (option_to_list (choice_by j s) ++ xs) stop) known b)

pub at_step : (n : ℕ) (code : List Instr) (h : Hart) (s : Step) (xs : List Choice) (stop : Stop) → IsStep n code h s
    → StopsIn n code h (option_to_list (choice_by s.instr s) ++ xs) stop → ⊥
at_step n code h s xs Long r b = no_step n code h s b.0 r
at_step n code h s xs Short r b = there n code h s xs Short b.0 r b.1 b.2
at_step n code h s xs BadChoice r b = there n code h s xs BadChoice b.0 r b.1 b.2
at_step n code h s xs BadSc r b = there n code h s xs BadSc b.0 r b.1 b.2
at_step n code h s xs (Astray at) r b = there n code h s xs (Astray at) b.0 r b.1 b.2

whole_or_stopped : (n : ℕ) (code : List Instr) (h : Hart) (ss us : List Step) (rest : List Choice) (stop : Stop) → AreSteps n code h ss → AreSteps n code h us
    → length code ≤ (hart_after h ss).at → StopsIn n code (hart_after h us) rest stop → choices_of ss ≡ choices_of us ++ rest → ⊥
whole_or_stopped n code h [] [] rest stop r q a b e = past_end n code h stop a (subst (λ xs. StopsIn n code h xs stop) (sym e) b)
whole_or_stopped n code h [] (u ∷ us) rest stop r q a b e = no_step n code h u a q.0
whole_or_stopped n code h (s ∷ ss) [] rest stop r q a b e = at_step n code h s (choices_of ss) stop r.0 (subst (λ xs. StopsIn n code h xs stop) (sym e) b)
whole_or_stopped n code h (s ∷ ss) (u ∷ us) rest stop r q a b e =
    let e' : option_to_list (choice_by s.instr s) ++ choices_of ss ≡ option_to_list (choice_by u.instr u) ++ (choices_of us ++ rest) =
    e ∙ append_assoc (option_to_list (choice_by u.instr u)) (choices_of us) rest in
    let parts = same_step n code h s u (choices_of ss) (choices_of us ++ rest) r.0 q.0 e' in
    let q' = subst (λ x. AreSteps n code (after_step h x) us) (sym parts.0) q.1 in
    let b' = subst (λ x. StopsIn n code (hart_after (after_step h x) us) rest stop) (sym parts.0) b in
    whole_or_stopped n code (after_step h s) ss us rest stop r.1 q' a b' parts.1

pub whole_never_stops : (n : ℕ) (code : List Instr) (registers : List ℕ) (choices : List Choice) (ss us : List Step) (stop : Stop)
    → IsWhole n code registers choices ss → IsStopped n code registers choices us stop → ⊥
whole_never_stops n code registers choices ss us stop w v =
    whole_or_stopped n code (start_with registers) ss us v.1.0 stop w.0.0 v.0 w.0.1 v.1.2 (sym w.1 ∙ v.1.1)

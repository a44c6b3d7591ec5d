-- The choices decide a run.
use Rattle.std.proofs.Common.{◌≡◌, ℕ, ◌≤◌, Option, None, Some, is_some, option_map, if◌then◌else◌, true, List, [], ◌∷◌, ◌++◌, length, refl, sym, ◌∙◌, ap, subst}
use Rattle.std.specs.Prelude.{slice_get}
use Rattle.std.specs.Option.{option_to_list}
use Rattle.std.proofs.lemmas.Bool.{false≢true}
use Rattle.std.proofs.lemmas.Option.{slice_get_past}
use Rattle.fs_instr.specs.declared.instr.Instr.{Instr}
use Rattle.fs_instr.specs.declared.instr.Instr.TheVariants.{Register, Immediate, Shift, Lui, Li, Lw, Sw, Lr, Sc, Amo, Branch, Jump, Fence, FenceTso, FenceI}
use Rattle.fs_model.specs.declared.hart.Hart.{Hart}
use Rattle.fs_model.specs.declared.step.Step.{Step}
use Rattle.fs_model.specs.declared.step.Choice.{Choice}
use Rattle.fs_model.specs.declared.step.Choice.TheVariants.{Word}
use Rattle.fs_model.specs.Trace.{IsWord, Accesses, IsStep, AreSteps, after_step, hart_after, start_with}
use Rattle.fs_model.specs.Choices.{Makes, IsWhole, is_choosing, choice_by, choices_of}
use Rattle.fs_model.proofs.Stepping.{made_once}

word_some : (o : Option ℕ) → IsWord o → is_some (option_map Word o) ≡ true
word_some None w = absurd w
word_some (Some a) w = refl

-- a step makes a choice exactly where its instruction takes one
makes_choice : (n : ℕ) (h : Hart) (i : Instr) (s : Step) → Accesses n h s i → is_some (choice_by i s) ≡ is_choosing i
makes_choice n h (Register op rd first second) s a = refl
makes_choice n h (Immediate op rd first immediate) s a = refl
makes_choice n h (Shift op rd first amount) s a = refl
makes_choice n h (Lui rd upper) s a = refl
makes_choice n h (Li rd word) s a = refl
makes_choice n h (Lw ann rd base offset) s a = word_some s.loaded a.1
makes_choice n h (Sw ann value base offset) s a = refl
makes_choice n h (Lr ann rd base) s a = word_some s.loaded a.1
makes_choice n h (Sc ann rd value base) s a = refl
makes_choice n h (Amo op ann rd value base) s a = word_some s.loaded a.1
makes_choice n h (Branch op first second target) s a = refl
makes_choice n h (Jump target) s a = refl
makes_choice n h (Fence before after) s a = refl
makes_choice n h FenceTso s a = refl
makes_choice n h FenceI s a = refl

own_choice : (i : Instr) (s : Step) → choice_by i s ≡ (if is_choosing i then choice_by i s else None)
own_choice (Register op rd first second) s = refl
own_choice (Immediate op rd first immediate) s = refl
own_choice (Shift op rd first amount) s = refl
own_choice (Lui rd upper) s = refl
own_choice (Li rd word) s = refl
own_choice (Lw ann rd base offset) s = refl
own_choice (Sw ann value base offset) s = refl
own_choice (Lr ann rd base) s = refl
own_choice (Sc ann rd value base) s = refl
own_choice (Amo op ann rd value base) s = refl
own_choice (Branch op first second target) s = refl
own_choice (Jump target) s = refl
own_choice (Fence before after) s = refl
own_choice FenceTso s = refl
own_choice FenceI s = refl

pub same_instr : {i j : Instr} → Some i ≡ Some j → i ≡ j
same_instr e = cc

-- a step of the code makes its own choice of the instruction that is there
pub made : (n : ℕ) (code : List Instr) (h : Hart) (i : Instr) (s : Step) → slice_get code h.at ≡ Some i → IsStep n code h s → Makes n h i (choice_by i s) s
made n code h i s e r =
    let known : s.instr ≡ i = same_instr (sym r.1 ∙ e) in
    record { at = r.0; instr = known; access = subst (λ j. Accesses n h s j) known r.2; chosen = own_choice i s }

heads : (a b : Option Choice) (xs ys : List Choice) → is_some a ≡ is_some b → option_to_list a ++ xs ≡ option_to_list b ++ ys → (a ≡ b) × (xs ≡ ys)
heads None None xs ys k e = (refl, e)
heads None (Some b) xs ys k e = absurd (false≢true k)
heads (Some a) None xs ys k e = absurd (false≢true (sym k))
heads (Some a) (Some b) xs ys k e = (let f : a ∷ xs ≡ b ∷ ys = e in cc, let f : a ∷ xs ≡ b ∷ ys = e in cc)

-- at the end of the code there is no step
pub no_step : (n : ℕ) (code : List Instr) (h : Hart) (s : Step) → length code ≤ h.at → IsStep n code h s → ⊥
no_step n code h s past r = let both : None ≡ Some s.instr = sym (slice_get_past code h.at past) ∙ r.1 in cc

-- two steps of the code here with the same next choices are the same, and so are the choices after them
pub same_step : (n : ℕ) (code : List Instr) (h : Hart) (s u : Step) (xs ys : List Choice) → IsStep n code h s → IsStep n code h u
    → option_to_list (choice_by s.instr s) ++ xs ≡ option_to_list (choice_by u.instr u) ++ ys → (s ≡ u) × (xs ≡ ys)
same_step n code h s u xs ys r q e =
    let m = made n code h s.instr s r.1 r in
    let v = made n code h s.instr u r.1 q in
    let e' : option_to_list (choice_by s.instr s) ++ xs ≡ option_to_list (choice_by s.instr u) ++ ys = e ∙ ap (λ i. option_to_list (choice_by i u) ++ ys) v.instr in
    let parts = heads (choice_by s.instr s) (choice_by s.instr u) xs ys (makes_choice n h s.instr s m.access ∙ sym (makes_choice n h s.instr u v.access)) e' in
    (made_once n h s.instr (choice_by s.instr s) s u m (subst (λ c. Makes n h s.instr c u) (sym parts.0) v), parts.1)

decided : (n : ℕ) (code : List Instr) (h : Hart) (ss us : List Step) → AreSteps n code h ss → AreSteps n code h us
    → length code ≤ (hart_after h ss).at → length code ≤ (hart_after h us).at → choices_of ss ≡ choices_of us → ss ≡ us
decided n code h [] [] r q a b e = refl
decided n code h [] (u ∷ us) r q a b e = absurd (no_step n code h u a q.0)
decided n code h (s ∷ ss) [] r q a b e = absurd (no_step n code h s b r.0)
decided n code h (s ∷ ss) (u ∷ us) r q a b e =
    let parts = same_step n code h s u (choices_of ss) (choices_of us) r.0 q.0 e in
    let q' = subst (λ x. AreSteps n code (after_step h x) us) (sym parts.0) q.1 in
    let b' = subst (λ x. length code ≤ (hart_after (after_step h x) us).at) (sym parts.0) b in
    let rest : ss ≡ us = decided n code (after_step h s) ss us r.1 q' a b' parts.1 in
    let one = parts.0 in cc

pub run_once : (n : ℕ) (code : List Instr) (registers : List ℕ) (choices : List Choice) (ss us : List Step)
    → IsWhole n code registers choices ss → IsWhole n code registers choices us → ss ≡ us
run_once n code registers choices ss us w v = decided n code (start_with registers) ss us w.0.0 v.0.0 w.0.1 v.0.1 (sym w.1 ∙ v.1)

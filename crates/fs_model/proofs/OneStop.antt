-- Choices stop a run in one way at most.
use Rattle.std.proofs.Common.{◌≡◌, ℕ, ◌≤◌, None, Some, option_map, Bool, true, false, not, ◌&&◌, List, [], ◌∷◌, ◌++◌, length, refl, sym, ◌∙◌, ap, subst}
use Rattle.std.specs.Prelude.{slice_get}
use Rattle.std.specs.Option.{option_to_list}
use Rattle.std.proofs.lemmas.List.{append_assoc}
use Rattle.std.proofs.lemmas.Option.{slice_get_past}
use Rattle.fs_instr.specs.declared.instr.Instr.{Instr}
use Rattle.fs_instr.specs.Instructions.{is_memory}
use Rattle.fs_model.specs.declared.hart.Hart.{Hart}
use Rattle.fs_model.specs.declared.step.Step.{Step}
use Rattle.fs_model.specs.declared.step.Choice.{Choice}
use Rattle.fs_model.specs.declared.step.Choice.TheVariants.{Success}
use Rattle.fs_model.specs.declared.step.Stop.{Stop}
use Rattle.fs_model.specs.declared.step.Stop.TheVariants.{Short, Long, BadChoice, BadSc, Astray}
use Rattle.fs_model.specs.Forms.{is_sc}
use Rattle.fs_model.specs.Trace.{AreSteps, after_step, hart_after, start_with}
use Rattle.fs_model.specs.Choices.{IsStopped, StopsAt, StopsIn, fits, choice_by, choices_of}
use Rattle.fs_model.proofs.Runs.{same_step, same_instr}
use Rattle.fs_model.proofs.Stops.{at_step}

no_sc : (memory sc : Bool) → (memory && not sc) ≡ true → sc ≡ true → ⊥
no_sc true true e f = cc
no_sc true false e f = cc
no_sc false sc e f = cc

success_fits : (i : Instr) (cs : List Choice) → is_sc i ≡ true → slice_get cs 0 ≡ Some Success → option_map (fits i) (slice_get cs 0) ≡ Some false → ⊥
success_fits i cs sc e f = let g : Some (is_sc i) ≡ Some false = ap (λ o. option_map (fits i) o) (sym e) ∙ f in cc

none_first : (cs : List Choice) → cs ≡ [] → slice_get cs 0 ≡ Some Success → ⊥
none_first cs e f = let g : None ≡ Some Success = sym (ap (λ xs. slice_get xs 0) e) ∙ f in cc

none_fits : (i : Instr) (cs : List Choice) → cs ≡ [] → option_map (fits i) (slice_get cs 0) ≡ Some false → ⊥
none_fits i cs e f = let g : None ≡ Some false = sym (ap (λ xs. option_map (fits i) (slice_get xs 0)) e) ∙ f in cc

same_stop : (n : ℕ) (h : Hart) (i : Instr) (cs : List Choice) (x y : Stop) → StopsAt n h i cs x → StopsAt n h i cs y → x ≡ y
same_stop n h i cs (Astray a) (Astray b) s t = let e : a ≡ b = s.0 ∙ sym t.0 in cc
same_stop n h i cs (Astray a) BadSc s t = absurd (no_sc (is_memory i) (is_sc i) s.1.0 t.0)
same_stop n h i cs (Astray a) BadChoice s t = absurd (t.0 s.1)
same_stop n h i cs (Astray a) Short s t = absurd (t.0 s.1)
same_stop n h i cs BadSc (Astray b) s t = absurd (no_sc (is_memory i) (is_sc i) t.1.0 s.0)
same_stop n h i cs BadSc BadSc s t = refl
same_stop n h i cs BadSc BadChoice s t = absurd (success_fits i cs s.0 s.1 t.2)
same_stop n h i cs BadSc Short s t = absurd (none_first cs t.2 s.1)
same_stop n h i cs BadChoice (Astray b) s t = absurd (s.0 t.1)
same_stop n h i cs BadChoice BadSc s t = absurd (success_fits i cs t.0 t.1 s.2)
same_stop n h i cs BadChoice BadChoice s t = refl
same_stop n h i cs BadChoice Short s t = absurd (none_fits i cs t.2 s.2)
same_stop n h i cs Short (Astray b) s t = absurd (s.0 t.1)
same_stop n h i cs Short BadSc s t = absurd (none_first cs s.2 t.1)
same_stop n h i cs Short BadChoice s t = absurd (none_fits i cs s.2 t.2)
same_stop n h i cs Short Short s t = refl
same_stop n h i cs Long y s t = absurd s
same_stop n h i cs (Astray a) Long s t = absurd t
same_stop n h i cs BadSc Long s t = absurd t
same_stop n h i cs BadChoice Long s t = absurd t
same_stop n h i cs Short Long s t = absurd t

-- a stop before the end of the code, or at it
data Where (n : ℕ) (code : List Instr) (h : Hart) (cs : List Choice) : Stop → Type 0 where
  End : length code ≤ h.at → Where n code h cs Long
  Before : {x : Stop} (i : Instr) → slice_get code h.at ≡ Some i → StopsAt n h i cs x → Where n code h cs x

place_of : (n : ℕ) (code : List Instr) (h : Hart) (cs : List Choice) (x : Stop) → StopsIn n code h cs x → Where n code h cs x
place_of n code h cs Long s = End s.0
place_of n code h cs Short s = Before s.0 s.1 s.2
place_of n code h cs BadChoice s = Before s.0 s.1 s.2
place_of n code h cs BadSc s = Before s.0 s.1 s.2
place_of n code h cs (Astray at) s = Before s.0 s.1 s.2

not_past : (code : List Instr) (h : Hart) (i : Instr) → length code ≤ h.at → slice_get code h.at ≡ Some i → ⊥
not_past code h i past e = let both : None ≡ Some i = sym (slice_get_past code h.at past) ∙ e in cc

same_place : (n : ℕ) (code : List Instr) (h : Hart) (cs : List Choice) (x y : Stop) → Where n code h cs x → Where n code h cs y → x ≡ y
same_place n code h cs _ _ (End p) (End q) = refl
same_place n code h cs _ _ (End p) (Before i e t) = absurd (not_past code h i p e)
same_place n code h cs _ _ (Before i e s) (End q) = absurd (not_past code h i q e)
same_place n code h cs x y (Before i e s) (Before j f t) =
    same_stop n h i cs x y s (subst (λ k. StopsAt n h k cs y) (same_instr (sym f ∙ e)) t)

stopped_once : (n : ℕ) (code : List Instr) (h : Hart) (ss us : List Step) (rest more : List Choice) (x y : Stop) → AreSteps n code h ss → AreSteps n code h us
    → StopsIn n code (hart_after h ss) rest x → StopsIn n code (hart_after h us) more y → choices_of ss ++ rest ≡ choices_of us ++ more → (ss ≡ us) × (x ≡ y)
stopped_once n code h [] [] rest more x y r q a b e =
    (refl, same_place n code h rest x y (place_of n code h rest x a) (place_of n code h rest y (subst (λ cs. StopsIn n code h cs y) (sym e) b)))
stopped_once n code h [] (u ∷ us) rest more x y r q a b e =
    absurd (at_step n code h u (choices_of us ++ more) x q.0 (subst (λ cs. StopsIn n code h cs x) (e ∙ append_assoc (option_to_list (choice_by u.instr u)) (choices_of us) more) a))
stopped_once n code h (s ∷ ss) [] rest more x y r q a b e =
    absurd (at_step n code h s (choices_of ss ++ rest) y r.0 (subst (λ cs. StopsIn n code h cs y) (sym e ∙ append_assoc (option_to_list (choice_by s.instr s)) (choices_of ss) rest) b))
stopped_once n code h (s ∷ ss) (u ∷ us) rest more x y r q a b e =
    let e' : option_to_list (choice_by s.instr s) ++ (choices_of ss ++ rest) ≡ option_to_list (choice_by u.instr u) ++ (choices_of us ++ more) =
    sym (append_assoc (option_to_list (choice_by s.instr s)) (choices_of ss) rest) ∙ e ∙ append_assoc (option_to_list (choice_by u.instr u)) (choices_of us) more in
    let parts = same_step n code h s u (choices_of ss ++ rest) (choices_of us ++ more) r.0 q.0 e' in
    let q' = subst (λ z. AreSteps n code (after_step h z) us) (sym parts.0) q.1 in
    let b' = subst (λ z. StopsIn n code (hart_after (after_step h z) us) more y) (sym parts.0) b in
    let both = stopped_once n code (after_step h s) ss us rest more x y r.1 q' a b' parts.1 in
    (let one = parts.0 in let others = both.0 in cc, both.1)

pub stops_once : (n : ℕ) (code : List Instr) (registers : List ℕ) (choices : List Choice) (ss us : List Step) (x y : Stop)
    → IsStopped n code registers choices ss x → IsStopped n code registers choices us y → (ss ≡ us) × (x ≡ y)
stops_once n code registers choices ss us x y v w =
    stopped_once n code (start_with registers) ss us v.1.0 w.1.0 x y v.0 w.0 v.1.2 w.1.2 (sym v.1.1 ∙ w.1.1)

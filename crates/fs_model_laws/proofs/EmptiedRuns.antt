-- The runs of the emptied code are the runs of the code, with FENCEs that order no memory.
use Rattle.std.proofs.Common.{◌≡◌, ℕ, zero, suc, List, [], ◌∷◌, map, Some, option_map, refl, ap, sym, subst, ◌∙◌, arith}
use Rattle.std.specs.Prelude.{slice_get}
use Rattle.std.proofs.lemmas.List.{length-map}
use Rattle.std.proofs.lemmas.Option.{slice_get-map}
use Rattle.fs_instr.specs.declared.instr.Instr.{Instr}
use Rattle.fs_model.specs.declared.hart.Hart.{Hart}
use Rattle.fs_model.specs.declared.step.Step.{Step}
use Rattle.fs_model.specs.Trace.{Accesses, AreSteps, Runs, after_step, hart_after, start_with}
use Rattle.fs_model_laws.proofs.Places.{at-map}
use Rattle.fs_model_laws.specs.InPlace.{emptied_instr, emptied_code}
use Rattle.fs_model_laws.proofs.Emptying.{emptied_step, step_passed, accesses_there, accesses_back}

pub end_there : (h : Hart) (ss : List Step) → hart_after h (map emptied_step ss) ≡ hart_after h ss
end_there h [] = refl
end_there h (s ∷ ss) = ap (λ k. hart_after k (map emptied_step ss)) (step_passed h s) ∙ end_there (after_step h s) ss

module _ (n : ℕ) (code : List Instr) where
  abbrev out : List Instr
  out = emptied_code code

  steps_there : (h : Hart) (ss : List Step) → AreSteps n code h ss → AreSteps n out h (map emptied_step ss)
  steps_there h [] r = tt
  steps_there h (s ∷ ss) r =
      let next = slice_get-map emptied_instr code h.at ∙ ap (option_map emptied_instr) r.0.1 in
      let rest = steps_there (after_step h s) ss r.1 in
      let after = subst (λ k. AreSteps n out k (map emptied_step ss)) (sym (step_passed h s)) rest in
      ((r.0.0, next, accesses_there n h s s.instr r.0.2), after)

  pub run_there : (registers : List ℕ) (ss : List Step) → Runs n code registers ss → Runs n out registers (map emptied_step ss)
  run_there registers ss r =
      let final = ap (λ (h : Hart). h.at) (end_there (start_with registers) ss) in
      let long = length-map code emptied_instr in
      let late = r.1 in
      (steps_there (start_with registers) ss r.0, omega (arith, final, long, late))

  -- ---- and back

  -- steps from h that become us
  record IsRunOf (h : Hart) (us ss : List Step) : Type 0 where
    pub steps : AreSteps n code h ss
    pub emptied : map emptied_step ss ≡ us

  -- the step of the code with this instruction
  abbrev written_step : Step → Instr → Step
  written_step u i = record { at = u.at; instr = i; address = u.address; loaded = u.loaded; stored = u.stored }

  steps_back : (h : Hart) (us : List Step) → AreSteps n out h us → (ss : List Step) × IsRunOf h us ss
  steps_back h [] r = ([], record { steps = tt; emptied = refl })
  steps_back h (u ∷ us) r =
      let found = at-map emptied_instr code h.at u.instr r.0.1 in
      let s = written_step u found.0 in
      let same : emptied_step s ≡ u = ap (written_step u) (sym found.2) in
      let passed : after_step h s ≡ after_step h u = sym (step_passed h s) ∙ ap (after_step h) same in
      let own = accesses_back n h s found.0 (subst (λ (v : Step). Accesses n h v v.instr) (sym same) r.0.2) in
      let rest = steps_back (after_step h u) us r.1 in
      let after = subst (λ k. AreSteps n code k rest.0) (sym passed) rest.1.steps in (
        s ∷ rest.0,
        record {
          steps = ((r.0.0, found.1, own), after);
          emptied = ap (λ v. v ∷ map emptied_step rest.0) same ∙ ap (λ vs. u ∷ vs) rest.1.emptied;
        },
      )

  pub run_back : (registers : List ℕ) (us : List Step) → Runs n out registers us
      → (ss : List Step) × Runs n code registers ss × (map emptied_step ss ≡ us)
  run_back registers us r =
      let h = start_with registers in
      let found = steps_back h us r.0 in
      let final : (hart_after h found.0).at ≡ (hart_after h us).at =
      ap (λ (k : Hart). k.at) (sym (end_there h found.0) ∙ ap (hart_after h) found.1.emptied) in
      let long = length-map code emptied_instr in
      let late = r.1 in
      (found.0, (found.1.steps, omega (arith, final, long, late)), found.1.emptied)

-- ---- the steps of a run stand in its code

-- the step's instruction stands there, and it is some access of it
pub record IsOfCode (n : ℕ) (code : List Instr) (s : Step) : Type 0 where
  pub there : slice_get code s.at ≡ Some s.instr
  pub before : Hart
  pub access : Accesses n before s s.instr

first_of_code : (n : ℕ) (code : List Instr) (h : Hart) (u s : Step) (us : List Step) → AreSteps n code h (u ∷ us) → u ≡ s
    → IsOfCode n code s
first_of_code n code h u s us r e =
    subst (IsOfCode n code) e (record {
      there = ap (slice_get code) r.0.0 ∙ r.0.1;
      before = h;
      access = r.0.2;
    })

same_step : {u s : Step} → Some u ≡ Some s → u ≡ s
same_step e = cc

none_there : {X : Type 0} (s : Step) (k : ℕ) → slice_get [] k ≡ Some s → X
none_there s k e = absurd (cc)

pub of_code : (n : ℕ) (code : List Instr) (h : Hart) (steps : List Step) (k : ℕ) (s : Step) → AreSteps n code h steps
    → slice_get steps k ≡ Some s → IsOfCode n code s
of_code n code h [] k s r e = none_there s k e
of_code n code h (u ∷ us) zero s r e = first_of_code n code h u s us r (same_step e)
of_code n code h (u ∷ us) (suc k) s r e = of_code n code (after_step h u) us k s r.1 e

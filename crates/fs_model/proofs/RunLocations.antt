-- The steps of a run access declared locations.
use Rattle.std.proofs.Common.{◌≡◌, ℕ, zero, suc, ◌<◌, inl, inr, true, None, Some, is_some, List, [], ◌∷◌, length, refl, sym, ◌∙◌, ap, subst, arith}
use Rattle.std.specs.Prelude.{slice_get}
use Rattle.std.proofs.lemmas.List.{length-map}
use Rattle.fs_instr.specs.declared.instr.Instr.{Instr}
use Rattle.fs_instr.specs.declared.instr.Instr.TheVariants.{Lw, Sw, Lr, Sc, Amo}
use Rattle.fs_model.specs.declared.test.Test.{Test}
use Rattle.fs_model.specs.declared.hart.Hart.{Hart}
use Rattle.fs_model.specs.declared.step.Step.{Step}
use Rattle.fs_model.specs.Trace.{IsDeclared, Accesses, IsStep, AreSteps, after_step, paired_after, start_with}
use Rattle.fs_model.specs.Operations.{operations, operation, place, steps_of}
use Rattle.fs_model.specs.Execution.{IsTrace, pre_execution, code_of, registers_of}
use Rattle.fs_model.proofs.OptionalNumbers.{some_parts, none_there, not_none}
use Rattle.fs_model.proofs.HartOperations.{access_is}
use Rattle.fs_model.proofs.WhichOperation.{Access, Initial, Past, which}

-- where an sc.w could be paired, it is with an lr.w of a declared location
abbrev pub HasDeclaredPair : ℕ → Hart → Type 0
HasDeclaredPair n h = (a : ℕ) → h.paired ≡ Some a → IsDeclared n (Some a)

declared_sc : (n : ℕ) (h : Hart) (s : Step) → HasDeclaredPair n h → s.address ≡ h.paired → is_some s.address ≡ true → IsDeclared n s.address
declared_sc n h s pair e there =
    let at = some_parts s.address there in
    subst (IsDeclared n) (sym at.1) (pair at.0 (sym e ∙ at.1))

step_declared : (n : ℕ) (h : Hart) (s : Step) (i : Instr) → Accesses n h s i → HasDeclaredPair n h → is_some s.address ≡ true → IsDeclared n s.address
step_declared n h s (Lw ann rd base offset) a pair there = a.0.1
step_declared n h s (Lr ann rd base) a pair there = a.0.1
step_declared n h s (Sw ann value base offset) a pair there = a.0.1
step_declared n h s (Amo op ann rd value base) a pair there = a.0.1
step_declared n h s (Sc ann rd value base) a pair there = elim a [
  | inl done ↦ declared_sc n h s pair done.1 there
  | inr failed ↦ absurd (none_there s.address failed.0 there)
]
step_declared n h s _ a pair there = absurd (none_there s.address a.0 there)

pair_declared : (n : ℕ) (h : Hart) (s : Step) (i : Instr) → Accesses n h s i → HasDeclaredPair n h → (a : ℕ) → paired_after h s i ≡ Some a → IsDeclared n (Some a)
pair_declared n h s (Lr ann rd base) access pair a e = subst (IsDeclared n) e access.0.1
pair_declared n h s (Sc ann rd value base) access pair a e = absurd (not_none None a refl e)
pair_declared n h s _ access pair a e = pair a e

pub same_step : (s u : Step) → Some s ≡ Some u → s ≡ u
same_step s u e = cc

-- the step at a place, in some state of the hart
step_at : (n : ℕ) (code : List Instr) (h : Hart) (steps : List Step) (j : ℕ) (s : Step) → AreSteps n code h steps → HasDeclaredPair n h
    → slice_get steps j ≡ Some s → (g : Hart) × IsStep n code g s × HasDeclaredPair n g
step_at n code h [] j s run pair e = absurd (let none : None ≡ Some s = e in cc)
step_at n code h (v ∷ vs) zero s run pair e = (h, subst (IsStep n code h) (same_step v s e) run.0, pair)
step_at n code h (v ∷ vs) (suc j) s run pair e =
    step_at n code (after_step h v) vs j s run.1 (pair_declared n h v v.instr run.0.2 pair) e

-- ---- the runs of a test

-- a run of each hart
pub record AreRuns (t : Test) (traces : List (List Step)) : Type 0 where
  pub harts : length traces ≡ length t.codes
  pub runs : (hart : ℕ) → hart < length t.codes → IsTrace t hart (steps_of traces hart)

module _ (t : Test) (traces : List (List Step)) (are : AreRuns t traces) where
  -- the state in which a hart makes its step at this place
  pub made_at : (hart j : ℕ) (s : Step) → hart < length traces → slice_get (steps_of traces hart) j ≡ Some s
      → (g : Hart) × IsStep (length t.locations) (code_of t hart) g s × HasDeclaredPair (length t.locations) g
  made_at hart j s low there =
      let harts = are.harts in
      step_at (length t.locations) (code_of t hart) (start_with (registers_of t hart)) (steps_of traces hart) j s
      (are.runs hart (omega (arith, low, harts))).0 (λ a e. absurd (not_none None a refl e)) there

  -- each operation is at a declared location
  pub located : (a : ℕ) → a < length (operations (pre_execution t traces)) → IsDeclared (length t.locations) (operation (pre_execution t traces) a).address
  located a below = elim (which (pre_execution t traces) a) [
    | Access low ↦ (
        let access = access_is (pre_execution t traces) a low in
        let made = made_at access.hart (place (pre_execution t traces) a) access.step access.low access.there in
        subst (IsDeclared (length t.locations)) (sym (ap (λ o. o.address) access.is))
        (step_declared (length t.locations) made.0 access.step access.step.instr made.1.2 made.2 access.accessing))
    | Initial k low at is ↦ (k, omega (arith, low, length-map t.locations (λ location. location.word)), ap (λ o. o.address) is)
    | Past past is ↦ absurd (omega (arith, past, below))
  ]

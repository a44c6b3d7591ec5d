-- Which steps a run can have: what its next instruction is decides its next step, but for the word that a load returns.
use Rattle.std.proofs.Common.{◌≡◌, ℕ, ℤ, ◌≤◌, ◌==◌, ◌&&◌, ◌||◌, ◌⊎◌, true, false, inl, inr, Option, None, Some, List, [], ◌∷◌, length, refl, sym, ◌∙◌, ap, subst, arith}
use Rattle.std.specs.Prelude.{slice_get}
use Rattle.std.specs.List.{list_all}
use Rattle.std.proofs.lemmas.Bool.{and_parts, or_cases, eqb-true, false≢true}
use Rattle.std.proofs.lemmas.Option.{slice_get_past}
use Rattle.fs_instr.specs.Names.{plain}
use Rattle.fs_instr.specs.declared.names.Ann.{Ann}
use Rattle.fs_instr.specs.declared.names.AmoOp.{AmoOp}
use Rattle.fs_instr.specs.declared.names.ImmOp.{ImmOp}
use Rattle.fs_instr.specs.declared.instr.Instr.{Instr}
use Rattle.fs_instr.specs.declared.instr.Instr.TheVariants.{Immediate, Lw, Sw, Lr, Sc, Amo}
use Rattle.fs_model.specs.declared.hart.Hart.{Hart}
use Rattle.fs_model.specs.declared.step.Step.{Step}
use Rattle.fs_model.specs.Execute.{address_in, stored_in}
use Rattle.fs_model.specs.Trace.{IsWord, IsStep, AreSteps, after_step, hart_after}
use Rattle.fs_model.specs.Numbers.{is_same, has_number}
use Rattle.fs_model.specs.Operations.{steps_of}
use Rattle.fs_cert_evidence.specs.Candidates.{Candidate}
use Rattle.fs_model.proofs.Runs.{made, no_step}

-- the step of the instruction here, with these words
abbrev pub step_of : Hart → Instr → (loaded : Option ℕ) → Step
step_of h i loaded =
    record { at = h.at; instr = i; address = address_in h.registers i; loaded = loaded; stored = stored_in h.registers loaded i }

-- steps from here to the end of the code
abbrev pub Ends : ℕ → List Instr → Hart → List Step → Type 0
Ends n code h ss = AreSteps n code h ss × (length code ≤ (hart_after h ss).at)

-- the step of the instruction here, where it accesses nothing
abbrev pub idle_step : Hart → Instr → Step
idle_step h i = record { at = h.at; instr = i; address = None; loaded = None; stored = None }

-- the first of them is this one, and the others go on
pub record Begins (n : ℕ) (code : List Instr) (h : Hart) (ss : List Step) (s : Step) : Type 0 where
  pub rest : List Step
  pub same : ss ≡ s ∷ rest
  pub ends : Ends n code (after_step h s) rest

pub followed : {n : ℕ} {code : List Instr} {h : Hart} {ss : List Step} {s : Step} (b : Begins n code h ss s) (us : List Step) → b.rest ≡ us → ss ≡ s ∷ us
followed {s = s} b us e = b.same ∙ ap (λ rest. s ∷ rest) e

-- the first of them
record BeginsSo (n : ℕ) (code : List Instr) (h : Hart) (ss : List Step) : Type 0 where
  pub first : Step
  pub step : IsStep n code h first
  pub begins : Begins n code h ss first

same_step : (s u : Step) → s.at ≡ u.at → s.instr ≡ u.instr → s.address ≡ u.address → s.loaded ≡ u.loaded → s.stored ≡ u.stored → s ≡ u
same_step s u e f g k l =
    let whole : record { at = s.at; instr = s.instr; address = s.address; loaded = s.loaded; stored = s.stored }
    ≡ record { at = u.at; instr = u.instr; address = u.address; loaded = u.loaded; stored = u.stored } = cc in whole

begin : (n : ℕ) (code : List Instr) (h : Hart) (i : Instr) (ss : List Step) → slice_get code h.at ≡ Some i → Ends n code h ss → BeginsSo n code h ss
begin n code h i [] here ends = absurd (past (slice_get_past code h.at ends.1))
  where
    past : slice_get code h.at ≡ None → ⊥
    past none = let both : None ≡ Some i = sym none ∙ here in cc
begin n code h i (s ∷ ss) here ends =
    record { first = s; step = ends.0.0; begins = record { rest = ss; same = refl; ends = (ends.0.1, ends.1) } }

exactly : (n : ℕ) (code : List Instr) (h : Hart) (ss : List Step) (s u : Step) → s ≡ u → Begins n code h ss s → Begins n code h ss u
exactly n code h ss s u e b = subst (λ z. Begins n code h ss z) e b

some_word : (o : Option ℕ) → IsWord o → (l : ℕ) × (o ≡ Some l)
some_word None w = absurd w
some_word (Some l) w = (l, refl)

stores : (h : Hart) (s : Step) (i : Instr) (o : Option ℕ) → s.instr ≡ i → s.loaded ≡ o → s.stored ≡ stored_in h.registers s.loaded s.instr → s.stored ≡ stored_in h.registers o i
stores h s i o e f g = let k : stored_in h.registers s.loaded s.instr ≡ stored_in h.registers o i = cc in g ∙ k

addressed : (h : Hart) (s : Step) (i : Instr) → s.instr ≡ i → s.address ≡ address_in h.registers s.instr → s.address ≡ address_in h.registers i
addressed h s i e f = f ∙ ap (λ j. address_in h.registers j) e

module _ (n : ℕ) (code : List Instr) (h : Hart) (ss : List Step) where
  pub computes : (op : ImmOp) (rd first : ℕ) (immediate : ℤ) → slice_get code h.at ≡ Some (Immediate op rd first immediate) → Ends n code h ss
      → Begins n code h ss (step_of h (Immediate op rd first immediate) None)
  computes op rd first immediate here ends =
      let b = begin n code h (Immediate op rd first immediate) ss here ends in
      let m = made n code h (Immediate op rd first immediate) b.first here b.step in
      exactly n code h ss b.first _ (same_step _ _ m.at m.instr m.access.0 m.access.1 m.access.2) b.begins

  pub stores_next : (value base : ℕ) (offset : ℤ) → slice_get code h.at ≡ Some (Sw plain value base offset) → Ends n code h ss
      → Begins n code h ss (step_of h (Sw plain value base offset) None)
  stores_next value base offset here ends =
      let b = begin n code h (Sw plain value base offset) ss here ends in
      let m = made n code h (Sw plain value base offset) b.first here b.step in
      exactly n code h ss b.first _
      (same_step _ _ m.at m.instr (addressed h b.first _ m.instr m.access.0.0) m.access.1 (stores h b.first _ None m.instr m.access.1 m.access.2)) b.begins

  pub loads_next : (rd base : ℕ) (offset : ℤ) → slice_get code h.at ≡ Some (Lw plain rd base offset) → Ends n code h ss
      → (l : ℕ) × Begins n code h ss (step_of h (Lw plain rd base offset) (Some l))
  loads_next rd base offset here ends =
      let b = begin n code h (Lw plain rd base offset) ss here ends in
      let m = made n code h (Lw plain rd base offset) b.first here b.step in
      let l = some_word b.first.loaded m.access.1 in (
        l.0,
        exactly n code h ss b.first _ (same_step _ _ m.at m.instr (addressed h b.first _ m.instr m.access.0.0) l.1 m.access.2) b.begins,
      )

  pub reserves_next : (ann : Ann) (rd base : ℕ) → slice_get code h.at ≡ Some (Lr ann rd base) → Ends n code h ss
      → (l : ℕ) × Begins n code h ss (step_of h (Lr ann rd base) (Some l))
  reserves_next ann rd base here ends =
      let b = begin n code h (Lr ann rd base) ss here ends in
      let m = made n code h (Lr ann rd base) b.first here b.step in
      let l = some_word b.first.loaded m.access.1 in (
        l.0,
        exactly n code h ss b.first _ (same_step _ _ m.at m.instr (addressed h b.first _ m.instr m.access.0.0) l.1 m.access.2) b.begins,
      )

  -- an sc.w succeeds, or does nothing
  pub succeeds_or_fails : (ann : Ann) (rd value base : ℕ) → slice_get code h.at ≡ Some (Sc ann rd value base) → Ends n code h ss
      → Begins n code h ss (step_of h (Sc ann rd value base) None) ⊎ Begins n code h ss (idle_step h (Sc ann rd value base))
  succeeds_or_fails ann rd value base here ends =
      let b = begin n code h (Sc ann rd value base) ss here ends in
      let m = made n code h (Sc ann rd value base) b.first here b.step in
      elim m.access [
        | inl done ↦ inl (exactly n code h ss b.first _
            (same_step _ _ m.at m.instr (addressed h b.first _ m.instr done.0) done.2 (stores h b.first _ None m.instr done.2 done.3)) b.begins)
        | inr failed ↦ inr (exactly n code h ss b.first _ (same_step _ _ m.at m.instr failed.0 failed.1 failed.2) b.begins)
      ]

  pub exchanges_next : (op : AmoOp) (ann : Ann) (rd value base : ℕ) → slice_get code h.at ≡ Some (Amo op ann rd value base) → Ends n code h ss
      → (l : ℕ) × Begins n code h ss (step_of h (Amo op ann rd value base) (Some l))
  exchanges_next op ann rd value base here ends =
      let b = begin n code h (Amo op ann rd value base) ss here ends in
      let m = made n code h (Amo op ann rd value base) b.first here b.step in
      let l = some_word b.first.loaded m.access.1 in (
        l.0,
        exactly n code h ss b.first _
            (same_step _ _ m.at m.instr (addressed h b.first _ m.instr m.access.0.0) l.1 (stores h b.first _ (Some l.0) m.instr l.1 m.access.2)) b.begins,
      )

-- at the end of the code there is no step
pub at_end : (n : ℕ) (code : List Instr) (h : Hart) (ss : List Step) → length code ≤ h.at → Ends n code h ss → ss ≡ []
at_end n code h [] past ends = refl
at_end n code h (s ∷ ss) past ends = absurd (no_step n code h s past ends.0.0)

-- two harts have two runs
pub two_runs : (runs : List (List Step)) → length runs ≡ 2 → runs ≡ steps_of runs 0 ∷ steps_of runs 1 ∷ []
two_runs [] e = absurd (omega (arith, e))
two_runs (a ∷ []) e = absurd (omega (arith, e))
two_runs (a ∷ b ∷ []) e = refl
two_runs (a ∷ b ∷ c ∷ runs) e = absurd (omega (arith, e))

pub same_candidate : (c d : Candidate) → c.traces ≡ d.traces → c.source ≡ d.source → c.store_order ≡ d.store_order → c ≡ d
same_candidate c d e f g =
    let whole : record { traces = c.traces; source = c.source; store_order = c.store_order }
    ≡ record { traces = d.traces; source = d.source; store_order = d.store_order } = cc in whole

same_two : {a b c d : ℕ} → a ≡ c → b ≡ d → a ∷ b ∷ [] ≡ c ∷ d ∷ []
same_two e f = cc

-- of two stores the initial one is first
pub two_in_order : (ns : List ℕ) (first other : ℕ) → (first == other) ≡ false
    → (is_same (slice_get ns 0) (Some first) && (length ns == 2) && list_all (has_number ns) (other ∷ first ∷ [])) ≡ true → ns ≡ first ∷ other ∷ []
two_in_order [] first other apart h = absurd (false≢true h)
two_in_order (a ∷ []) first other apart h = absurd (false≢true (and_parts (a == first) false (and_parts _ _ h).0).1)
two_in_order (a ∷ b ∷ []) first other apart h =
    let at_first : a ≡ first = eqb-true a first (and_parts (a == first) true (and_parts _ _ h).0).0 in
    let in_list = (and_parts (has_number (a ∷ b ∷ []) other) _ (and_parts _ _ h).1).0 in
    let there = subst (λ (n : ℕ). has_number (n ∷ b ∷ []) other ≡ true) at_first in_list in
    let next : b ≡ other = elim (or_cases (first == other) ((b == other) || false) there) [
      | inl same ↦ absurd (false≢true (sym apart ∙ same))
      | inr there ↦ (elim (or_cases (b == other) false there) [
        | inl same ↦ eqb-true b other same
        | inr none ↦ absurd (false≢true none)
      ])
    ] in
    same_two at_first next
two_in_order (a ∷ b ∷ c ∷ ns) first other apart h =
    let long = eqb-true (length (a ∷ b ∷ c ∷ ns)) 2 (and_parts (a == first) _ (and_parts _ _ h).0).1 in
    absurd (omega (arith, long))

-- A run of a test in 32 bits whose steps are exact, with all words extended, is one in 64 bits, and ends alike.
use Rattle.std.proofs.Common.{◌≡◌, ℕ, ◌<◌, ◌≤◌, Some, List, [], ◌∷◌, length, map, All, refl, sym, ap, subst, ◌∙◌, arith}
use Rattle.std.specs.Prelude.{slice_get}
use Rattle.std.proofs.lemmas.List.Elements.{All-nil, All-cons, All-get_or}
use Rattle.std.proofs.lemmas.Option.{get_or_from_slice_get, slice_get_within}
use Rattle.fs_kinds.specs.Limits.{most_locations}
use Rattle.fs_instr.specs.declared.instr.Instr.{Instr}
use Rattle.fs_instr.specs.OfTable.{IsOfTable}
use Rattle.fs_model.specs.declared.hart.Hart.{Hart}
use Rattle.fs_model.specs.declared.step.Step.{Step}
use Rattle.fs_model.specs.declared.test.Test.{Test}
use Rattle.fs_model.specs.Test.{IsTest, IsStart}
use Rattle.fs_model.specs.Runs as narrow
use Rattle.fs_model.specs.Execution.{IsTrace, code_of, registers_of}
use Rattle.fs_app_plain.specs.Wide as wide
use Rattle.fs_app_plain.specs.Wide.{AreExact, extended_step}
use Rattle.fs_app_plain.proofs.Given.{AreWords, WordLaws}
use Rattle.fs_app_plain.proofs.ForthSteps.{StepFits, IsSound, extended_hart, none_some, step_fits, sound_after, state_passed, access_there}

module _ (laws : WordLaws) (n : ℕ) (low : n ≤ most_locations) (code : List Instr) (table : All IsOfTable code) where
  table_at : (k : ℕ) (i : Instr) → slice_get code k ≡ Some i → IsOfTable i
  table_at k i e =
      subst IsOfTable (get_or_from_slice_get code k i i e)
      (All-get_or IsOfTable code k i (slice_get_within code k i e) table)

  steps_there : (h : Hart) (ss : List Step) → IsSound n h → narrow.AreSteps n code h ss → AreExact h ss
      → wide.AreSteps n code (extended_hart h) (map extended_step ss)
  steps_there h [] sound r exact = tt
  steps_there h (s ∷ ss) sound r exact =
      let own = table_at h.at s.instr r.0.1 in
      let passed = state_passed laws n low h s sound own r.0.2 exact.0 in
      let rest = steps_there (narrow.after_step h s) ss (sound_after laws n low h s sound own r.0.2) r.1 exact.1 in
      let after = subst (λ k. wide.AreSteps n code k (map extended_step ss)) (sym passed) rest in
      ((r.0.0, r.0.1, access_there laws n low h s sound own r.0.2 exact.0), after)

  end_there : (h : Hart) (ss : List Step) → IsSound n h → narrow.AreSteps n code h ss → AreExact h ss
      → wide.hart_after (extended_hart h) (map extended_step ss) ≡ extended_hart (narrow.hart_after h ss)
  end_there h [] sound r exact = refl
  end_there h (s ∷ ss) sound r exact =
      let own = table_at h.at s.instr r.0.1 in
      ap (λ k. wide.hart_after k (map extended_step ss)) (state_passed laws n low h s sound own r.0.2 exact.0)
      ∙ end_there (narrow.after_step h s) ss (sound_after laws n low h s sound own r.0.2) r.1 exact.1

  -- ---- all words of a run have 32 bits, exact or not

  steps_fit : (h : Hart) (ss : List Step) → IsSound n h → narrow.AreSteps n code h ss → All StepFits ss
  steps_fit h [] sound r = All-nil StepFits
  steps_fit h (s ∷ ss) sound r =
      let own = table_at h.at s.instr r.0.1 in
      All-cons StepFits s ss (step_fits laws n low h s sound own r.0.2)
      (steps_fit (narrow.after_step h s) ss (sound_after laws n low h s sound own r.0.2) r.1)

  sound_end : (h : Hart) (ss : List Step) → IsSound n h → narrow.AreSteps n code h ss
      → IsSound n (narrow.hart_after h ss)
  sound_end h [] sound r = sound
  sound_end h (s ∷ ss) sound r =
      let own = table_at h.at s.instr r.0.1 in
      sound_end (narrow.after_step h s) ss (sound_after laws n low h s sound own r.0.2) r.1

module _ (laws : WordLaws) (t : Test) (test : IsTest t) (hart : ℕ) (below : hart < length t.codes) where
  abbrev n : ℕ
  n = length t.locations

  abbrev start : Hart
  start = narrow.start_with (registers_of t hart)

  low : n ≤ most_locations
  low = test.bounded.locations

  pub code_table : All IsOfTable (code_of t hart)
  code_table = All-get_or (All IsOfTable) t.codes hart [] below test.instructions

  pub start_sound : IsSound (length t.locations) (narrow.start_with (registers_of t hart))
  start_sound =
      let same = test.bounded.starts in
      let own : IsStart (registers_of t hart) =
      All-get_or IsStart t.starts hart [] (omega (arith, below, same)) test.registers in
      record { words = own.fit; paired = λ a e. none_some a e }

  pub run_fits : (steps : List Step) → IsTrace t hart steps → All StepFits steps
  run_fits steps r = steps_fit laws n low (code_of t hart) code_table start steps start_sound r.0

  pub run_words : (steps : List Step) → IsTrace t hart steps
      → AreWords (narrow.hart_after (narrow.start_with (registers_of t hart)) steps).registers
  run_words steps r =
      let end = sound_end laws n low (code_of t hart) code_table start steps start_sound r.0 in
      end.words

  module _ (steps : List Step) (run : IsTrace t hart steps)
      (exact : AreExact (narrow.start_with (registers_of t hart)) steps) where
    pub run_end : wide.hart_after (wide.start_with (registers_of t hart)) (map extended_step steps)
        ≡ extended_hart (narrow.hart_after (narrow.start_with (registers_of t hart)) steps)
    run_end = end_there laws n low (code_of t hart) code_table start steps start_sound run.0 exact

    pub run_there : wide.Runs (length t.locations) (code_of t hart) (registers_of t hart) (map extended_step steps)
    run_there =
        let same = ap (λ (k : Hart). k.at) run_end in
        let late = run.1 in
        let there = steps_there laws n low (code_of t hart) code_table start steps start_sound run.0 exact in
        (there, omega (arith, same, late))

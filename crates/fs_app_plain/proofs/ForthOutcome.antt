-- An execution in 32 bits whose runs are exact shows, with all words extended, the same outcome in 64 bits.
use Rattle.std.proofs.Common.{◌≡◌, ℕ, ◌<◌, ◌^◌, ◌==◌, not, List, length, map, All, refl, sym, ap, subst, ◌∙◌, inl, inr, arith, slice_index_or}
use Rattle.std.proofs.Math.ListN.{get_or-map}
use Rattle.std.proofs.lemmas.Bool.{cases_eq, cases_lt, eq-eqb, ne_eqb}
use Rattle.std.proofs.lemmas.List.{get_or_past}
use Rattle.std.proofs.lemmas.List.Elements.{All-get_or}
use Rattle.fs_model.specs.declared.hart.Hart.{Hart}
use Rattle.fs_model.specs.declared.step.Step.{Step}
use Rattle.fs_model.specs.declared.test.Test.{Test}
use Rattle.fs_model.specs.Test.{IsTest}
use Rattle.fs_model.specs.Instructions.{read}
use Rattle.fs_model.specs.Runs as narrow
use Rattle.fs_model.specs.Operations.{steps_of}
use Rattle.fs_model.specs.Condition.{Condition, condition_of, Always, Never, RegisterIs, LocationIs, Deny, Both, Either, SpeaksOf}
use Rattle.fs_model.specs.Execution.{IsTrace, registers_of, pre_execution}
use Rattle.fs_model.specs.Shows.{holds, is_outcome, final_register, final_word, has_outcome}
use Rattle.fs_app_plain.specs.Instructions64.{extended}
use Rattle.fs_app_plain.specs.Wide as wide
use Rattle.fs_app_plain.specs.Wide.{AreExact, extended_step, extended_execution, wide_condition, has_wide_outcome}
use Rattle.fs_app_plain.proofs.Given.{AreWords, WordLaws}
use Rattle.fs_app_plain.proofs.ForthSteps.{StepFits}
use Rattle.fs_app_plain.proofs.ForthRuns.{run_fits, run_words, run_end}
use Rattle.fs_app_plain.proofs.ForthOperations.{trace_changed}
use Rattle.fs_app_plain.proofs.ForthAxioms.{last_changed}
use Rattle.fs_app_plain.proofs.ForthFits.{traces_fit, initial_are_words, last_fits}

read_fits : (x : List ℕ) (r : ℕ) → AreWords x → read x r < 2 ^ 32
read_fits x r are = elim (cases_lt r (length x)) [
  | inl low ↦ All-get_or (λ w. w < 2 ^ 32) x r 0 low are
  | inr past ↦ (let none = get_or_past x r 0 past in omega (arith, none))
]

module _ (laws : WordLaws) where
  extended_read : (x : List ℕ) (r : ℕ) → read (map extended x) r ≡ extended (read x r)
  extended_read x r =
      subst (λ d. slice_index_or (map extended x) r d ≡ extended (read x r)) laws.none (get_or-map extended x r 0)

  -- words are the same where their extensions are
  same_words : (v w : ℕ) → v < 2 ^ 32 → w < 2 ^ 32 → (extended v == extended w) ≡ (v == w)
  same_words v w fits fits' = elim (cases_eq v w) [
    | inl e ↦ eq-eqb (extended v) (extended w) (ap extended e) ∙ sym (eq-eqb v w e)
    | inr ne ↦ ne_eqb (extended v) (extended w) (λ e. ne (laws.injective v w fits fits' e)) ∙ sym (ne_eqb v w ne)
  ]

  -- the condition, of states whose words are extended
  record AreExtended (harts : ℕ) (f g : ℕ → ℕ → ℕ) (u v : ℕ → ℕ) : Type 0 where
    registers : (hart reg : ℕ) → hart < harts → f hart reg ≡ extended (g hart reg)
    locations : (k : ℕ) → u k ≡ extended (v k)
    registers_fit : (hart reg : ℕ) → hart < harts → g hart reg < 2 ^ 32
    locations_fit : (k : ℕ) → v k < 2 ^ 32

  module _ (harts n : ℕ) (f g : ℕ → ℕ → ℕ) (u v : ℕ → ℕ) (are : AreExtended harts f g u v) where
    holds_extended : (c : Condition) → SpeaksOf harts n c → holds f u (wide_condition c) ≡ holds g v c
    holds_extended Always speaks = refl
    holds_extended Never speaks = refl
    holds_extended (RegisterIs hart reg w) speaks =
        ap (λ a. a == extended w) (are.registers hart reg speaks.0)
        ∙ same_words (g hart reg) w (are.registers_fit hart reg speaks.0) speaks.2
    holds_extended (LocationIs k w) speaks =
        ap (λ a. a == extended w) (are.locations k) ∙ same_words (v k) w (are.locations_fit k) speaks.1
    holds_extended (Deny c) speaks = ap not (holds_extended c speaks)
    holds_extended (Both c d) speaks = rw (holds_extended c speaks.0, holds_extended d speaks.1) refl
    holds_extended (Either c d) speaks = rw (holds_extended c speaks.0, holds_extended d speaks.1) refl

  -- ---- of an execution

  module _ (t : Test) (test : IsTest t) (traces : List (List Step)) (harts : length traces ≡ length t.codes)
      (runs : (hart : ℕ) → hart < length t.codes → IsTrace t hart (steps_of traces hart)) where
    pub all_fit : All (All StepFits) traces
    all_fit = traces_fit traces (λ hart low.
        let below : hart < length t.codes = omega (arith, low, harts) in
        run_fits laws t test hart below (steps_of traces hart) (runs hart below))

    pub final_register_fits : (hart reg : ℕ) → hart < length t.codes → final_register t traces hart reg < 2 ^ 32
    final_register_fits hart reg below =
        read_fits (narrow.hart_after (narrow.start_with (registers_of t hart)) (steps_of traces hart)).registers reg
        (run_words laws t test hart below (steps_of traces hart) (runs hart below))

    pub final_word_fits : (order : List ℕ) (location : ℕ) → final_word (pre_execution t traces) order location < 2 ^ 32
    final_word_fits order location =
        last_fits (pre_execution t traces) all_fit (initial_are_words t test.words) order location

    pub final_word_extended : (order : List ℕ) (location : ℕ)
        → final_word (wide.pre_execution t (map (map extended_step) traces)) order location
        ≡ extended (final_word (pre_execution t traces) order location)
    final_word_extended order location = last_changed extended (pre_execution t traces) order laws.none location

    module _ (exact : (hart : ℕ) → hart < length t.codes
        → AreExact (narrow.start_with (registers_of t hart)) (steps_of traces hart)) where
      pub final_register_extended : (hart reg : ℕ) → hart < length t.codes
          → wide.final_register t (map (map extended_step) traces) hart reg
          ≡ extended (final_register t traces hart reg)
      final_register_extended hart reg below =
          let steps = steps_of traces hart in
          let h = wide.start_with (registers_of t hart) in
          ap (λ ss. read (wide.hart_after h ss).registers reg) (trace_changed extended traces hart)
          ∙ ap (λ (k : Hart). read k.registers reg)
          (run_end laws t test hart below steps (runs hart below) (exact hart below))
          ∙ extended_read (narrow.hart_after (narrow.start_with (registers_of t hart)) steps).registers reg

      pub same_outcome : (order : List ℕ)
          → has_wide_outcome t (extended_execution (record { traces = traces; order = order }))
          ≡ has_outcome t (record { traces = traces; order = order })
      same_outcome order =
          ap (is_outcome t.quantifier)
          (holds_extended (length t.codes) (length t.locations)
          (wide.final_register t (map (map extended_step) traces)) (final_register t traces)
          (final_word (wide.pre_execution t (map (map extended_step) traces)) order)
          (final_word (pre_execution t traces) order)
          (record {
            registers = final_register_extended;
            locations = final_word_extended order;
            registers_fit = final_register_fits;
            locations_fit = final_word_fits order;
          })
          (condition_of t.condition) test.bounded.atoms)

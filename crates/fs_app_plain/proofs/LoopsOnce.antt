-- Idle turns are left out one after the other, until no step goes back.
use Rattle.std.proofs.Common.{◌≡◌, ◌↔◌, ◌⊎◌, inl, inr, ℕ, zero, suc, ◌+◌, ◌<◌, ◌≤◌, Bool, true, false, not, ◌==◌, List, [], ◌∷◌, ◌++◌, length, append_assoc, refl, ap, sym, subst, ◌∙◌, arith}
use Rattle.std.specs.Prelude.{slice_set}
use Rattle.std.specs.List.{slice_index_or}
use Rattle.std.proofs.lemmas.Bool.{cases_lt}
use Rattle.fs_kinds.specs.declared.placement.Entry.{Entry}
use Rattle.fs_model.specs.declared.hart.Hart.{Hart}
use Rattle.fs_model.specs.declared.step.Step.{Step}
use Rattle.fs_model.specs.declared.test.Test.{Test}
use Rattle.fs_model.specs.Runs.{start_with, after_step, hart_after}
use Rattle.fs_model.specs.Operations.{steps_of}
use Rattle.fs_model.specs.Condition.{Condition, condition_of, Always, Never, RegisterIs, LocationIs, Deny, Both, Either}
use Rattle.fs_model.specs.Execution.{Execution, IsExecution, registers_of, pre_execution}
use Rattle.fs_model.specs.Shows.{holds, is_outcome, has_outcome, final_register, final_word}
use Rattle.fs_model.specs.Allows.{Shows, Allows}
use Rattle.fs_app_plain.specs.Turns.{HasIdleTurn, EndsIdleTurn, EndTheSame, AsksFor, IsInOneTurn, IsLeftOut, NeverGoesBack, TurnsAreIdle, goes_back, without_turn}

abbrev pub CanBeLeftOut : Test → List Entry → Type 0
CanBeLeftOut t p =
    (e : Execution) (hart : ℕ) (before turn after : List Step) → IsExecution t p e → hart < length t.codes
    → HasIdleTurn t e hart before turn after → IsLeftOut t p e hart before turn after

-- ---- the first step that goes back

record StepBack (h : Hart) (steps : List Step) : Type 0 where
  pub front : List Step
  pub s : Step
  pub rest : List Step
  pub whole : steps ≡ front ++ (s ∷ rest)
  pub never : NeverGoesBack h front
  pub back : goes_back (hart_after h front) s ≡ true

true_or_false : (b : Bool) → (b ≡ true) ⊎ (b ≡ false)
true_or_false true = inl refl
true_or_false false = inr refl

later : (h : Hart) (s : Step) (ss : List Step) → goes_back h s ≡ false → StepBack (after_step h s) ss
    → StepBack h (s ∷ ss)
later h s ss e b =
    let whole = ap (λ xs. s ∷ xs) b.whole in
    record { front = s ∷ b.front; s = b.s; rest = b.rest; whole = whole; never = (e, b.never); back = b.back }

find_back : (h : Hart) (steps : List Step) → NeverGoesBack h steps ⊎ StepBack h steps
find_back h [] = inl tt
find_back h (s ∷ ss) = elim (true_or_false (goes_back h s)) [
  | inl e ↦ inr (record { front = []; s = s; rest = ss; whole = refl; never = tt; back = e })
  | inr e ↦ elim (find_back (after_step h s) ss) [
    | inl none ↦ inl (e, none)
    | inr b ↦ inr (later h s ss e b)
  ]
]

-- ---- fewer steps each time

abbrev steps_in_all : List (List Step) → ℕ
steps_in_all [] = 0
steps_in_all (steps ∷ traces) = length steps + steps_in_all traces

shorter : (before turn after : List Step) → length (before ++ (turn ++ after)) ≡ length (before ++ after) + length turn
shorter [] [] after = omega arith
shorter [] (s ∷ turn) after = let h = shorter [] turn after in omega (arith, h)
shorter (s ∷ before) turn after = let h = shorter before turn after in omega (arith, h)

moved : (a b c n : ℕ) → a ≡ b + n → a + c ≡ (b + c) + n
moved a b c n e = omega (arith, e)

kept_first : (a c d n : ℕ) → c ≡ d + n → a + c ≡ (a + d) + n
kept_first a c d n e = omega (arith, e)

fewer_by : (traces : List (List Step)) (hart : ℕ) (run : List Step) (n : ℕ) → hart < length traces
    → length (slice_index_or traces hart []) ≡ length run + n
    → steps_in_all traces ≡ steps_in_all (slice_set traces hart run) + n
fewer_by [] hart run n low e = absurd (omega (arith, low))
fewer_by (ss ∷ traces) zero run n low e = moved (length ss) (length run) (steps_in_all traces) n e
fewer_by (ss ∷ traces) (suc k) run n low e =
    kept_first (length ss) (steps_in_all traces) (steps_in_all (slice_set traces k run)) n (fewer_by traces k run n (omega (arith, low)) e)

module _ (asked : ℕ → ℕ → Bool) (t : Test) (p : List Entry) (idle : TurnsAreIdle asked t p) (can : CanBeLeftOut t p) where
  abbrev start : ℕ → Hart
  start hart = start_with (registers_of t hart)

  record BackIn (e : Execution) : Type 0 where
    pub hart : ℕ
    pub low : hart < length t.codes
    pub step : StepBack (start hart) (steps_of e.traces hart)

  abbrev NeverBelow : Execution → ℕ → Type 0
  NeverBelow e n = (hart : ℕ) → hart < n → NeverGoesBack (start hart) (steps_of e.traces hart)

  one_more : (e : Execution) (n : ℕ) → NeverBelow e n → NeverGoesBack (start n) (steps_of e.traces n) → NeverBelow e (suc n)
  one_more e n below this hart low = elim (cases_lt hart n) [
    | inl h ↦ below hart h
    | inr h ↦
        let same : n ≡ hart = omega (arith, low, h) in
        subst (λ k. NeverGoesBack (start k) (steps_of e.traces k)) same this
  ]

  find_in : (e : Execution) (n : ℕ) → n ≤ length t.codes → NeverBelow e n ⊎ BackIn e
  find_in e zero most = inl (λ hart low. absurd (omega (arith, low)))
  find_in e (suc n) most = elim (find_in e n (omega (arith, most))) [
    | inr b ↦ inr b
    | inl below ↦ elim (find_back (start n) (steps_of e.traces n)) [
      | inl none ↦ inl (one_more e n below none)
      | inr b ↦ inr (record { hart = n; low = omega (arith, most); step = b })
    ]
  ]

  -- ---- an execution with a step that goes back, and one with fewer steps

  record Fewer (e : Execution) : Type 0 where
    pub left : Execution
    pub execution : IsExecution t p left
    pub same : EndTheSame asked t e left
    pub fewer : steps_in_all left.traces < steps_in_all e.traces

  regrouped : (front before turn rest : List Step) (s : Step) → front ++ (s ∷ []) ≡ before ++ turn
      → front ++ (s ∷ rest) ≡ before ++ (turn ++ rest)
  regrouped front before turn rest s e =
      let left : front ++ (s ∷ rest) ≡ (front ++ (s ∷ [])) ++ rest = simp append_assoc in
      let right : (before ++ turn) ++ rest ≡ before ++ (turn ++ rest) = simp append_assoc in
      left ∙ (ap (λ xs. xs ++ rest) e ∙ right)

  fewer_steps : (e : Execution) → IsExecution t p e → BackIn e → Fewer e
  fewer_steps e is b =
      let ended : EndsIdleTurn (asked b.hart) (start b.hart) b.step.front b.step.s b.step.rest =
      idle e b.hart b.step.front b.step.s b.step.rest is b.low b.step.whole b.step.never b.step.back in
      let turn : List Step = ended.first ∷ ended.more in
      let whole : steps_of e.traces b.hart ≡ ended.before ++ (turn ++ b.step.rest) =
      b.step.whole ∙ regrouped b.step.front ended.before turn b.step.rest b.step.s ended.ends in
      let out : IsLeftOut t p e b.hart ended.before turn b.step.rest =
      can e b.hart ended.before turn b.step.rest is b.low (record { run = whole; idle = ended.idle }) in
      let long = ap length whole ∙ shorter ended.before turn b.step.rest in
      let harts : b.hart < length e.traces = subst (λ n. b.hart < n) (sym is.harts) b.low in
      let counted = fewer_by e.traces b.hart (ended.before ++ b.step.rest) (length turn) harts long in
      let less : steps_in_all (without_turn e.traces b.hart ended.before b.step.rest) < steps_in_all e.traces = omega (arith, counted) in
      record {
        left = out.left;
        execution = out.execution;
        same = record {
          words = out.alike.words;
          registers = λ hart r wanted. out.alike.registers hart r (λ at by. ended.kept r (subst (λ k. asked k r ≡ true) at wanted) by);
        };
        fewer = subst (λ traces. steps_in_all traces < steps_in_all e.traces) (sym out.traces) less;
      }

  -- ---- until there is none

  pub record InOneTurn (e : Execution) : Type 0 where
    pub end : Execution
    pub execution : IsExecution t p end
    pub one_turn : IsInOneTurn t end
    pub same : EndTheSame asked t e end

  same_through : (e f g : Execution) → EndTheSame asked t e f → EndTheSame asked t f g → EndTheSame asked t e g
  same_through e f g a b = record {
    words = λ location. a.words location ∙ b.words location;
    registers = λ hart r wanted. a.registers hart r wanted ∙ b.registers hart r wanted;
  }

  same_alone : (e : Execution) → EndTheSame asked t e e
  same_alone e = record { words = λ location. refl; registers = λ hart r wanted. refl }

  through : (e : Execution) (f : Fewer e) → InOneTurn f.left → InOneTurn e
  through e f o = record { end = o.end; execution = o.execution; one_turn = o.one_turn; same = same_through e f.left o.end f.same o.same }

  within : (fuel : ℕ) (e : Execution) → IsExecution t p e → steps_in_all e.traces ≤ fuel → InOneTurn e
  within zero e is most = elim (find_in e (length t.codes) (omega arith)) [
    | inl none ↦ record { end = e; execution = is; one_turn = none; same = same_alone e }
    | inr b ↦ let f = fewer_steps e is b in let less = f.fewer in absurd (omega (arith, most, less))
  ]
  within (suc fuel) e is most = elim (find_in e (length t.codes) (omega arith)) [
    | inl none ↦ record { end = e; execution = is; one_turn = none; same = same_alone e }
    | inr b ↦
        let f = fewer_steps e is b in
        let less = f.fewer in
        through e f (within fuel f.left f.execution (omega (arith, most, less)))
  ]

  pub in_one_turn : (e : Execution) → IsExecution t p e → InOneTurn e
  in_one_turn e is = within (steps_in_all e.traces) e is (omega arith)

  -- ---- what is shown

  holds_alike : (e f : Execution) → EndTheSame asked t e f → (c : Condition) → AsksFor asked c
      → holds (final_register t e.traces) (final_word (pre_execution t e.traces) e.order) c
      ≡ holds (final_register t f.traces) (final_word (pre_execution t f.traces) f.order) c
  holds_alike e f s Always a = refl
  holds_alike e f s Never a = refl
  holds_alike e f s (RegisterIs hart reg w) a = ap (λ n. n == w) (s.registers hart reg a)
  holds_alike e f s (LocationIs location w) a = ap (λ n. n == w) (s.words location)
  holds_alike e f s (Deny c) a = ap not (holds_alike e f s c a)
  holds_alike e f s (Both c d) a = rw (holds_alike e f s c a.0, holds_alike e f s d a.1) refl
  holds_alike e f s (Either c d) a = rw (holds_alike e f s c a.0, holds_alike e f s d a.1) refl

  shown_alike : (e f : Execution) → EndTheSame asked t e f → AsksFor asked (condition_of t.condition) → has_outcome t e ≡ has_outcome t f
  shown_alike e f s a = ap (is_outcome t.quantifier) (holds_alike e f s (condition_of t.condition) a)

  pub allowed_in_one_turn : AsksFor asked (condition_of t.condition) → Allows t p ↔ ((e : Execution) × Shows t p e × IsInOneTurn t e)
  allowed_in_one_turn a = (
    λ allowed. (
        let o = in_one_turn allowed.0 allowed.1.execution in
        (o.end, record { execution = o.execution; outcome = sym (shown_alike allowed.0 o.end o.same a) ∙ allowed.1.outcome }, o.one_turn)),
    λ shown. (shown.0, shown.1),
  )

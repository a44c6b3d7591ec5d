-- Waiting for a flag or a lock by two instructions: turns that go back are idle.
use Rattle.std.proofs.Common.{◌≡◌, ◌≢◌, inl, inr, ℕ, ℤ, zero, suc, ◌+◌, ◌<◌, ◌≤◌, Bool, true, false, Option, None, Some, List, [], ◌∷◌, ◌++◌, length, append_assoc, set, get_or, refl, ap, sym, subst, ◌∙◌, arith}
use Rattle.std.specs.Prelude.{All, is_some, pos, slice_get, option_and_then}
use Rattle.std.proofs.lemmas.Bool.{or_from, eqb-true, false≢true, false_from_ne_true}
use Rattle.std.proofs.lemmas.List.Elements.{All-head, All-tail}
use Rattle.std.proofs.lemmas.Option.{same_Some}
use Rattle.fs_instr.specs.Names.{plain}
use Rattle.fs_instr.specs.declared.names.Ann.{Ann}
use Rattle.fs_instr.specs.declared.names.AmoOp.TheVariants.{Swap}
use Rattle.fs_instr.specs.declared.names.BranchOp.TheVariants.{Bne}
use Rattle.fs_instr.specs.declared.instr.Instr.{Instr}
use Rattle.fs_instr.specs.declared.instr.Instr.TheVariants.{Lw, Amo, Branch}
use Rattle.fs_instr.specs.Roles.{named, is_amo}
use Rattle.fs_instr.specs.Instructions.{target_of}
use Rattle.fs_kinds.specs.declared.placement.Entry.{Entry}
use Rattle.fs_model.specs.declared.hart.Hart.{Hart}
use Rattle.fs_model.specs.declared.step.Step.{Step}
use Rattle.fs_model.specs.declared.test.Test.{Test}
use Rattle.fs_model.specs.Test.{GoesForward}
use Rattle.fs_model.specs.Instructions.{read, written, next_after}
use Rattle.fs_model.specs.Runs.{IsWord, Accesses, AreSteps, executed, start_with, after_step, hart_after}
use Rattle.fs_model.specs.Operations.{is_same, steps_of}
use Rattle.fs_model.specs.Execution.{Execution, IsExecution, IsTrace, code_of, registers_of}
use Rattle.fs_app_plain.specs.Turns.{StoresWhatItLoads, EndsIdleTurn, TurnsAreIdle, goes_back}
use Rattle.fs_app_plain.specs.Waiting.{target_at, LoadsAt, SwapsAt, OnlyWaits, OnlyWaitsOrSwaps, FindsFreeOrTaken, LocksAreFreeOrTaken, StartsWithZero, waits_for_a_flag, waits_for_a_lock}
use Rattle.fs_app_plain.proofs.KeptSources.{named_cases}
use Rattle.fs_app_plain.proofs.KeptRuns.{hart_after_both, last_steps, none_write_zero, unwritten}
use Rattle.fs_app_plain.proofs.WaitingTurns.{IsFresh, Before, came_from, ends_idle_turn, goes_to}

-- ---- registers

named_is : (a r : ℕ) → is_same (named a) (Some r) ≡ true → a ≡ r
named_is a r e = elim (named_cases a) [
  | inl z ↦ absurd (false≢true (subst (λ (k : ℕ). is_same (named k) (Some r) ≡ true) z e))
  | inr some ↦ eqb-true a r (subst (λ d. is_same d (Some r) ≡ true) some e)
]

not_named : (a b r : ℕ) → a ≢ b → is_same (named a) (Some r) ≡ true → is_same (named b) (Some r) ≡ false
not_named a b r other e = false_from_ne_true _ (λ w. other (named_is a r e ∙ sym (named_is b r w)))

fresh_load : (ann : Ann) (rd base : ℕ) (offset : ℤ) → rd ≢ base → IsFresh (Lw ann rd base offset)
fresh_load ann rd base offset other =
    record { registers = λ r w. or_from _ _ (not_named rd base r other w) refl; unpaired = refl }

fresh_swap : (ann : Ann) (rd value base : ℕ) → rd ≢ base → rd ≢ value → IsFresh (Amo Swap ann rd value base)
fresh_swap ann rd value base other another = record {
  registers = λ r w. or_from _ _ (not_named rd base r other w) (or_from _ _ (not_named rd value r another w) refl);
  unpaired = refl;
}

-- ---- a swap that finds 0

set_to_zero : (x : List ℕ) (d : ℕ) → get_or (set x d 0) d 0 ≡ 0
set_to_zero [] d = refl
set_to_zero (a ∷ x) zero = refl
set_to_zero (a ∷ x) (suc d) = set_to_zero x d

written_zero : (x : List ℕ) (rd : ℕ) → rd ≢ 0 → read (written (named rd) 0 x) rd ≡ 0
written_zero x rd other = elim (named_cases rd) [
  | inl z ↦ absurd (other z)
  | inr some ↦ ap (λ d. read (written d 0 x) rd) some ∙ set_to_zero x rd
]

-- a bnez isn't taken
not_taken : (x : List ℕ) (at rd k : ℕ) → read x rd ≡ 0 → read x 0 ≡ 0 → next_after x at (Branch Bne rd 0 k) ≡ at + 1
not_taken x at rd k zero_read zero_register = rw (zero_read, zero_register) refl

pub word_is_there : (o : Option ℕ) → IsWord o → is_some o ≡ true
word_is_there None low = absurd low
word_is_there (Some w) low = refl

last_of_all : (P : Step → Type 0) (xs : List Step) (q : Step) (ys : List Step) → All P (xs ++ (q ∷ ys)) → P q
last_of_all P [] q ys all = All-head P q ys all
last_of_all P (x ∷ xs) q ys all = last_of_all P xs q ys (All-tail P x (xs ++ (q ∷ ys)) all)

-- ---- a step that goes back in a run

module _ (n : ℕ) (code : List Instr) (start : Hart) (from_start : start.at ≡ 0)
    (front : List Step) (s : Step) (rest : List Step) (steps : AreSteps n code start (front ++ (s ∷ rest)))
    (ends : length code ≤ (hart_after start (front ++ (s ∷ rest))).at) (asked : ℕ → Bool)
    (k : ℕ) (own : (hart_after start front).at ≡ k + 1) (back : (after_step (hart_after start front) s).at ≡ k)
    (branch : target_at code (hart_after start front).at ≡ Some k) where
  behind_load : LoadsAt code k → EndsIdleTurn asked start front s rest
  behind_load l =
      let first = Lw l.ann l.rd l.base l.offset in
      let fresh = fresh_load l.ann l.rd l.base l.offset l.other in
      let b : Before n code start front s rest steps ends k first l.load fresh l.whole own back branch from_start =
      came_from n code start front s rest steps ends k first l.load fresh l.whole own back branch from_start in
      let access : Accesses n (hart_after start b.before) b.q first =
      subst (Accesses n (hart_after start b.before) b.q) b.instr b.step.2 in
      ends_idle_turn n code start front s rest steps ends k first l.load fresh l.whole own back branch from_start asked
      b (inl access.2)

  -- the word that a swap loaded isn't 0 where the branch behind it goes back
  found_taken : read start.registers 0 ≡ 0 → (w : SwapsAt code k) (before : List Step) (q : Step)
      → front ≡ before ++ (q ∷ [])
      → q.instr ≡ Amo Swap w.ann w.rd w.value w.base → q.loaded ≡ Some 0 → ⊥
  found_taken zero_register w before q e instr free =
      let here = hart_after start front in
      let h = hart_after start before in
      let after : here ≡ after_step h q = ap (hart_after start) e ∙ hart_after_both start before (q ∷ []) in
      let loaded : read (after_step h q).registers w.rd ≡ read (written (named w.rd) 0 h.registers) w.rd =
      ap (λ i. read (executed h.registers q.loaded q.stored i) w.rd) instr
      ∙ ap (λ o. read (executed h.registers o q.stored (Amo Swap w.ann w.rd w.value w.base)) w.rd) free in
      let zero_there : read here.registers w.rd ≡ 0 =
      ap (λ (g : Hart). read g.registers w.rd) after ∙ loaded ∙ written_zero h.registers w.rd w.others.0 in
      let zero_here : read here.registers 0 ≡ 0 = unwritten start front 0 (none_write_zero front) ∙ zero_register in
      let step = (last_steps n code start front (s ∷ rest) steps).0 in
      let is_branch : s.instr ≡ Branch Bne w.rd 0 k =
      same_Some s.instr (Branch Bne w.rd 0 k) (sym step.1 ∙ ap (slice_get code) own ∙ w.again) in
      let next : (after_step here s).at ≡ here.at + 1 =
      ap (next_after here.registers here.at) is_branch ∙ not_taken here.registers here.at w.rd k zero_there zero_here in
      omega (arith, next, own, back)

  behind_swap : read start.registers 0 ≡ 0 → (w : SwapsAt code k) → All (FindsFreeOrTaken code) (front ++ (s ∷ rest))
      → EndsIdleTurn asked start front s rest
  behind_swap zero_register w all =
      let first = Amo Swap w.ann w.rd w.value w.base in
      let fresh = fresh_swap w.ann w.rd w.value w.base w.others.1 w.others.2 in
      let b : Before n code start front s rest steps ends k first w.swap fresh w.whole own back branch from_start =
      came_from n code start front s rest steps ends k first w.swap fresh w.whole own back branch from_start in
      let access : Accesses n (hart_after start b.before) b.q first =
      subst (Accesses n (hart_after start b.before) b.q) b.instr b.step.2 in
      let regrouped : front ++ (s ∷ rest) ≡ b.before ++ (b.q ∷ (s ∷ rest)) =
      ap (λ xs. xs ++ (s ∷ rest)) b.front_is ∙ append_assoc b.before (b.q ∷ []) (s ∷ rest) in
      let found : FindsFreeOrTaken code b.q =
      last_of_all (FindsFreeOrTaken code) b.before b.q (s ∷ rest) (subst (All (FindsFreeOrTaken code)) regrouped all) in
      let at : b.q.at ≡ k = b.step.0 ∙ b.at in
      let at_swap : target_at code (b.q.at + 1) ≡ Some b.q.at =
      subst (λ m. target_at code (m + 1) ≡ Some m) (sym at) (ap (option_and_then target_of) w.again) in
      let stores : StoresWhatItLoads b.q = elim (found (ap is_amo b.instr) at_swap) [
        | inl free ↦ absurd (found_taken zero_register w b.before b.q b.front_is b.instr free)
        | inr same ↦ inr (word_is_there b.q.loaded access.1, same)
      ] in
      ends_idle_turn n code start front s rest steps ends k first w.swap fresh w.whole own back branch from_start asked
      b stores

-- ---- all steps that go back

module _ (asked : ℕ → ℕ → Bool) (t : Test) (p : List Entry) where
  -- the run as it is split, and where its step goes
  module _ (e : Execution) (hart : ℕ) (front : List Step) (s : Step) (rest : List Step) (is : IsExecution t p e)
      (low : hart < length t.codes) (run : steps_of e.traces hart ≡ front ++ (s ∷ rest))
      (back : goes_back (hart_after (start_with (registers_of t hart)) front) s ≡ true) where
    abbrev start : Hart
    start = start_with (registers_of t hart)

    abbrev code : List Instr
    code = code_of t hart

    whole_run : IsTrace t hart (front ++ (s ∷ rest))
    whole_run = subst (IsTrace t hart) run (is.runs hart low)

    goes : (target_at code (hart_after start front).at ≡ Some (after_step (hart_after start front) s).at)
        × ((after_step (hart_after start front) s).at ≤ (hart_after start front).at)
    goes =
        goes_to code (hart_after start front) s
        (last_steps (length t.locations) code start front (s ∷ rest) whole_run.0).0.1 back

    abbrev next : ℕ
    next = (after_step (hart_after start front) s).at

    after_load : (hart_after start front).at ≡ next + 1 → LoadsAt code next
        → EndsIdleTurn (asked hart) start front s rest
    after_load own l =
        behind_load (length t.locations) code start refl front s rest whole_run.0 whole_run.1
        (asked hart) next own refl goes.0 l

    after_swap : StartsWithZero t → LocksAreFreeOrTaken t p → (hart_after start front).at ≡ next + 1 → SwapsAt code next
        → EndsIdleTurn (asked hart) start front s rest
    after_swap zero_register locks own w =
        behind_swap (length t.locations) code start refl front s rest whole_run.0 whole_run.1
        (asked hart) next own refl goes.0 (zero_register hart low) w
        (subst (All (FindsFreeOrTaken code)) run (locks e hart is low))

  pub flags : ((hart : ℕ) → hart < length t.codes → OnlyWaits (code_of t hart)) → TurnsAreIdle asked t p
  flags only e hart front s rest is low run never back =
      let goes = goes e hart front s rest is low run back in
      elim (only hart low _ _ goes.0) [
        | inl forward ↦ absurd (omega (arith, forward, goes.1))
        | inr waits ↦ after_load e hart front s rest is low run back waits.0 waits.1
      ]

  pub locks : StartsWithZero t → LocksAreFreeOrTaken t p
      → ((hart : ℕ) → hart < length t.codes → OnlyWaitsOrSwaps (code_of t hart)) → TurnsAreIdle asked t p
  locks zero_register free_or_taken only e hart front s rest is low run never back =
      let goes = goes e hart front s rest is low run back in
      elim (only hart low _ _ goes.0) [
        | inl forward ↦ absurd (omega (arith, forward, goes.1))
        | inr waits ↦ elim waits.1 [
          | inl load ↦ after_load e hart front s rest is low run back waits.0 load
          | inr swap ↦ after_swap e hart front s rest is low run back zero_register free_or_taken waits.0 swap
        ]
      ]

-- ---- the examples

only_forward : (instrs : List Instr) → GoesForward instrs → OnlyWaits instrs
only_forward instrs forward at target e = inl (forward at target e).0

forward_too : (instrs : List Instr) → GoesForward instrs → OnlyWaitsOrSwaps instrs
forward_too instrs forward at target e = inl (forward at target e).0

-- the branch at 1 goes to 0
flag_target : (at target : ℕ) → target_at waits_for_a_flag at ≡ Some target → (at ≡ 1) × (target ≡ 0)
flag_target zero target e = absurd (let none : None ≡ Some target = e in cc)
flag_target (suc zero) target e = (refl, sym (same_Some 0 target e))
flag_target (suc (suc zero)) target e = absurd (let none : None ≡ Some target = e in cc)
flag_target (suc (suc (suc at))) target e = absurd (let none : None ≡ Some target = e in cc)

lock_target : (ann : Ann) (at target : ℕ) → target_at (waits_for_a_lock ann) at ≡ Some target → (at ≡ 1) × (target ≡ 0)
lock_target ann zero target e = absurd (let none : None ≡ Some target = e in cc)
lock_target ann (suc zero) target e = (refl, sym (same_Some 0 target e))
lock_target ann (suc (suc zero)) target e = absurd (let none : None ≡ Some target = e in cc)
lock_target ann (suc (suc (suc at))) target e = absurd (let none : None ≡ Some target = e in cc)

flag_loads : LoadsAt waits_for_a_flag 0
flag_loads = record {
  ann = plain;
  rd = 5;
  base = 6;
  offset = pos 0;
  load = refl;
  other = λ e. omega (arith, e);
  whole = λ at e. (let goes = (flag_target at 1 e).1 in omega (arith, goes));
}

lock_swaps : (ann : Ann) → SwapsAt (waits_for_a_lock ann) 0
lock_swaps ann = record {
  ann = ann;
  rd = 5;
  value = 9;
  base = 6;
  swap = refl;
  again = refl;
  others = (λ e. omega (arith, e), λ e. omega (arith, e), λ e. omega (arith, e));
  whole = λ at e. (let goes = (lock_target ann at 1 e).1 in omega (arith, goes));
}

flag_waits : OnlyWaits waits_for_a_flag
flag_waits at target e =
    let goes = flag_target at target e in
    inr (omega (arith, goes.0, goes.1), subst (LoadsAt waits_for_a_flag) (sym goes.1) flag_loads)

lock_waits : (ann : Ann) → OnlyWaitsOrSwaps (waits_for_a_lock ann)
lock_waits ann at target e =
    let goes = lock_target ann at target e in
    inr (omega (arith, goes.0, goes.1), inr (subst (SwapsAt (waits_for_a_lock ann)) (sym goes.1) (lock_swaps ann)))

-- of hart 0, and of the others
each_hart : (t : Test) (Good : List Instr → Type 0) → Good (code_of t 0)
    → ((hart : ℕ) → 0 < hart → hart < length t.codes → Good (code_of t hart))
    → (hart : ℕ) → hart < length t.codes → Good (code_of t hart)
each_hart t Good first others zero low = first
each_hart t Good first others (suc k) low = others (suc k) (omega arith) low

pub flag_example : (asked : ℕ → ℕ → Bool) (t : Test) (p : List Entry) → code_of t 0 ≡ waits_for_a_flag
    → ((hart : ℕ) → 0 < hart → hart < length t.codes → GoesForward (code_of t hart)) → TurnsAreIdle asked t p
flag_example asked t p code others =
    flags asked t p (each_hart t OnlyWaits (subst OnlyWaits (sym code) flag_waits)
    (λ hart more low. only_forward (code_of t hart) (others hart more low)))

pub lock_example : (asked : ℕ → ℕ → Bool) (t : Test) (p : List Entry) (ann : Ann) → code_of t 0 ≡ waits_for_a_lock ann
    → ((hart : ℕ) → 0 < hart → hart < length t.codes → GoesForward (code_of t hart))
    → StartsWithZero t → LocksAreFreeOrTaken t p → TurnsAreIdle asked t p
lock_example asked t p ann code others zero_register free_or_taken =
    locks asked t p zero_register free_or_taken
    (each_hart t OnlyWaitsOrSwaps (subst OnlyWaitsOrSwaps (sym code) (lock_waits ann))
    (λ hart more low. forward_too (code_of t hart) (others hart more low)))

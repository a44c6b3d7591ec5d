-- Harts that take a lock by a swap and release it: the lock's word is always 0 or that of a lock that is taken.
use Rattle.std.proofs.Common.{◌≡◌, ◌⊎◌, inl, inr, ℕ, zero, suc, ◌<◌, Bool, true, false, Option, None, Some, is_some, option_and_then, List, [], ◌∷◌, length, get_or, refl, ap, sym, subst, ◌∙◌, arith}
use Rattle.std.specs.Prelude.{All, pos, slice_get}
use Rattle.std.proofs.lemmas.Bool.{or_from, false≢true}
use Rattle.std.proofs.lemmas.Option.{same_Some, slice_get-get_or}
use Rattle.fs_instr.specs.Names.{plain}
use Rattle.fs_instr.specs.declared.names.Ann.{Ann}
use Rattle.fs_instr.specs.declared.names.AmoOp.TheVariants.{Swap}
use Rattle.fs_instr.specs.declared.names.BranchOp.TheVariants.{Bne}
use Rattle.fs_instr.specs.declared.instr.Instr.{Instr}
use Rattle.fs_instr.specs.declared.instr.Instr.TheVariants.{Sw, Amo, Branch}
use Rattle.fs_instr.specs.Roles.{is_amo, dest_of}
use Rattle.fs_kinds.specs.declared.placement.Entry.{Entry}
use Rattle.fs_model.specs.declared.hart.Hart.{Hart}
use Rattle.fs_model.specs.declared.step.Step.{Step}
use Rattle.fs_model.specs.declared.test.Test.{Test}
use Rattle.fs_model.specs.Instructions.{read, stored_in}
use Rattle.fs_model.specs.Runs.{Accesses, IsStep, AreSteps, start_with, after_step}
use Rattle.fs_model.specs.Operations.{PreExecution, steps_of, operation, is_same}
use Rattle.fs_model.specs.Source.{source_in}
use Rattle.fs_model.specs.Execution.{Execution, IsExecution, code_of, registers_of, initial_words, pre_execution}
use Rattle.fs_model.proofs.HartOperations.{access_is}
use Rattle.fs_model.proofs.WhichOperation.{which, Access, Initial, Past}
use Rattle.fs_app_plain.specs.Turns.{TurnsAreIdle, writes}
use Rattle.fs_app_plain.specs.Waiting.{FindsFreeOrTaken, LocksAreFreeOrTaken, OnlyLocks, OnlyWaitsOrSwaps, SwapsAt, target_at, takes_and_releases}
use Rattle.fs_app_plain.proofs.KeptRuns.{unwritten}
use Rattle.fs_app_plain.proofs.Waiting.{word_is_there, locks}
use Rattle.fs_app_plain.proofs.WaitingOperations.{operation_there}

-- ---- words in memory

-- 0, or the word of a lock that is taken, or none
abbrev IsKnown : (taken : ℕ) → Option ℕ → Type 0
IsKnown taken o = (o ≡ None) ⊎ ((o ≡ Some 0) ⊎ (o ≡ Some taken))

known_word : (taken word : ℕ) → (word ≡ 0) ⊎ (word ≡ taken) → IsKnown taken (Some word)
known_word taken word (inl e) = inr (inl (ap Some e))
known_word taken word (inr e) = inr (inr (ap Some e))

known_source : (taken : ℕ) (stored : ℕ → Option ℕ) → ((s : ℕ) → IsKnown taken (stored s)) → (o : Option ℕ)
    → IsKnown taken (option_and_then stored o)
known_source taken stored known None = inl refl
known_source taken stored known (Some s) = known s

-- where all steps store such words, and all locations begin with them, all steps load such words
module _ (taken : ℕ) (t : Test) (p : List Entry) (e : Execution) (is : IsExecution t p e)
    (stores : (hart k : ℕ) (s : Step) → hart < length t.codes → slice_get (steps_of e.traces hart) k ≡ Some s
    → IsKnown taken s.stored)
    (begins : All (λ word. (word ≡ 0) ⊎ (word ≡ taken)) (initial_words t)) where
  abbrev x : PreExecution
  x = pre_execution t e.traces

  stored_known : (a : ℕ) → IsKnown taken (operation x a).stored
  stored_known a = elim (which x a) [
    | Access low ↦
        let access = access_is x a low in
        let inside : access.hart < length t.codes = subst (λ n. access.hart < n) is.harts access.low in
        subst (IsKnown taken) (sym (ap (λ o. o.stored) access.is))
        (stores access.hart _ access.step inside access.there)
    | Initial k low at is_initial ↦
        subst (IsKnown taken) (sym (ap (λ o. o.stored) is_initial))
        (known_word taken (get_or x.words k 0) (begins k 0 low))
    | Past past is_none ↦ inl (ap (λ o. o.stored) is_none)
  ]

  loaded_known : (hart k : ℕ) (s : Step) → slice_get (steps_of e.traces hart) k ≡ Some s → is_some s.address ≡ true
      → is_some s.loaded ≡ true → IsKnown taken s.loaded
  loaded_known hart k s there accessing loads =
      let found = operation_there x hart k s there accessing in
      let same : (operation x found.0).loaded ≡ s.loaded = ap (λ o. o.loaded) found.2 in
      let value = is.axioms.values found.0 (ap is_some same ∙ loads) in
      subst (IsKnown taken) (sym value ∙ same)
      (known_source taken (λ a. (operation x a).stored) stored_known (source_in x e.order found.0))

-- ---- the steps of such a hart

-- the instruction at a position
data At (ann : Ann) (i : Instr) : Type 0 where
  Takes : (is : i ≡ Amo Swap ann 5 9 6) → At ann i
  Again : (is : i ≡ Branch Bne 5 0 0) → At ann i
  Releases : (is : i ≡ Sw plain 0 6 (pos 0)) → At ann i

at_position : (ann : Ann) (k : ℕ) (i : Instr) → slice_get (takes_and_releases ann) k ≡ Some i → At ann i
at_position ann zero i e = Takes (sym (same_Some (Amo Swap ann 5 9 6) i e))
at_position ann (suc zero) i e = Again (sym (same_Some (Branch Bne 5 0 0) i e))
at_position ann (suc (suc zero)) i e = Releases (sym (same_Some (Sw plain 0 6 (pos 0)) i e))
at_position ann (suc (suc (suc k))) i e = absurd (let none : None ≡ Some i = e in cc)

-- it writes no register but x5
writes_none : (ann : Ann) (i : Instr) (r : ℕ) → is_same (Some 5) (Some r) ≡ false → At ann i
    → is_same (dest_of i) (Some r) ≡ false
writes_none ann i r other (Takes is) = subst (λ j. is_same (dest_of j) (Some r) ≡ false) (sym is) other
writes_none ann i r other (Again is) = subst (λ j. is_same (dest_of j) (Some r) ≡ false) (sym is) refl
writes_none ann i r other (Releases is) = subst (λ j. is_same (dest_of j) (Some r) ≡ false) (sym is) refl

module _ (n taken : ℕ) (ann : Ann) where
  abbrev IsReady : Hart → Type 0
  IsReady h = (read h.registers 0 ≡ 0) × (read h.registers 9 ≡ taken)

  left : (h : Hart) (s : Step) (r : ℕ) → is_same (Some 5) (Some r) ≡ false → At ann s.instr
      → read (after_step h s).registers r ≡ read h.registers r
  left h s r other at = unwritten h (s ∷ []) r (or_from (writes r s) false (writes_none ann s.instr r other at) refl)

  record IsMade (s : Step) : Type 0 where
    pub h : Hart
    pub ready : IsReady h
    pub step : IsStep n (takes_and_releases ann) h s

  made : (h : Hart) (ss : List Step) (k : ℕ) (s : Step) → IsReady h → AreSteps n (takes_and_releases ann) h ss
      → slice_get ss k ≡ Some s → IsMade s
  made h [] k s ready r e = absurd (let none : None ≡ Some s = e in cc)
  made h (u ∷ us) zero s ready r e =
      subst IsMade (same_Some u s e) (record { h = h; ready = ready; step = r.0 })
  made h (u ∷ us) (suc k) s ready r e =
      let at = at_position ann h.at u.instr r.0.1 in
      made (after_step h u) us k s (left h u 0 refl at ∙ ready.0, left h u 9 refl at ∙ ready.1) r.1 e

  abbrev stores_taken : (s : Step) → s.instr ≡ Amo Swap ann 5 9 6 → IsMade s → s.stored ≡ Some taken
  stores_taken s is m =
      let access : Accesses n m.h s (Amo Swap ann 5 9 6) = subst (Accesses n m.h s) is m.step.2 in
      access.2 ∙ ap (λ i. stored_in m.h.registers s.loaded i) is ∙ ap Some m.ready.1

  stores_known : (s : Step) → IsMade s → IsKnown taken s.stored
  stores_known s m = elim (at_position ann m.h.at s.instr m.step.1) [
    | Takes is ↦ inr (inr (stores_taken s is m))
    | Again is ↦ (
        let access : Accesses n m.h s (Branch Bne 5 0 0) = subst (Accesses n m.h s) is m.step.2 in
        inl access.2)
    | Releases is ↦
        let access : Accesses n m.h s (Sw plain 0 6 (pos 0)) = subst (Accesses n m.h s) is m.step.2 in
        inr (inl (access.2 ∙ ap (λ i. stored_in m.h.registers s.loaded i) is ∙ ap Some m.ready.0))
  ]

  -- a swap loads a word, from a location
  loads : (s : Step) → s.instr ≡ Amo Swap ann 5 9 6 → IsMade s → (is_some s.address ≡ true) × (is_some s.loaded ≡ true)
  loads s is m =
      let access : Accesses n m.h s (Amo Swap ann 5 9 6) = subst (Accesses n m.h s) is m.step.2 in
      (ap is_some access.0.1.2, word_is_there s.loaded access.1)

  free_or_taken : (code : List Instr) (s : Step) → IsMade s
      → (is_some s.address ≡ true → is_some s.loaded ≡ true → IsKnown taken s.loaded)
      → FindsFreeOrTaken code s
  free_or_taken code s m known is_amo_true again = elim (at_position ann m.h.at s.instr m.step.1) [
    | Takes is ↦
        let there = loads s is m in
        elim (known there.0 there.1) [
          | inl none ↦ absurd (false≢true (ap is_some (sym none) ∙ there.1))
          | inr word ↦ elim word [
            | inl zero_word ↦ inl zero_word
            | inr taken_word ↦ inr (stores_taken s is m ∙ sym taken_word)
          ]
        ]
    | Again is ↦ absurd (false≢true (ap is_amo (sym is) ∙ is_amo_true))
    | Releases is ↦ absurd (false≢true (ap is_amo (sym is) ∙ is_amo_true))
  ]

-- ---- all harts

module _ (taken : ℕ) (t : Test) (p : List Entry) (only : OnlyLocks t taken) where
  made_in : (e : Execution) → IsExecution t p e → (hart k : ℕ) (s : Step) → (low : hart < length t.codes)
      → slice_get (steps_of e.traces hart) k ≡ Some s → IsMade (length t.locations) taken (only.codes hart low).0 s
  made_in e is hart k s low there =
      let code = only.codes hart low in
      let n = length t.locations in
      let start = start_with (registers_of t hart) in
      let steps = steps_of e.traces hart in
      let run : AreSteps n (takes_and_releases code.0) start steps =
      subst (λ c. AreSteps n c start steps) code.1 (is.runs hart low).0 in
      made n taken code.0 start steps k s
      (only.zero_register hart low, only.word hart low) run there

  pub always_free_or_taken : LocksAreFreeOrTaken t p
  always_free_or_taken e hart is low k d inside =
      let n = length t.locations in
      let steps = steps_of e.traces hart in
      let s = get_or steps k d in
      let there : slice_get steps k ≡ Some s = slice_get-get_or steps k d inside in
      let stores : (hart k : ℕ) (s : Step) → hart < length t.codes → slice_get (steps_of e.traces hart) k ≡ Some s
      → IsKnown taken s.stored =
      λ hart k s low there. stores_known n taken (only.codes hart low).0 s (made_in e is hart k s low there) in
      free_or_taken n taken (only.codes hart low).0 (code_of t hart) s (made_in e is hart k s low there)
      (λ accessing loads. loaded_known taken t p e is stores only.words hart k s there accessing loads)

-- ---- its turns

goes_to_swap : (ann : Ann) (at target : ℕ) → target_at (takes_and_releases ann) at ≡ Some target
    → (at ≡ 1) × (target ≡ 0)
goes_to_swap ann zero target e = absurd (let none : None ≡ Some target = e in cc)
goes_to_swap ann (suc zero) target e = (refl, sym (same_Some 0 target e))
goes_to_swap ann (suc (suc zero)) target e = absurd (let none : None ≡ Some target = e in cc)
goes_to_swap ann (suc (suc (suc at))) target e = absurd (let none : None ≡ Some target = e in cc)

swaps_first : (ann : Ann) → SwapsAt (takes_and_releases ann) 0
swaps_first ann = record {
  ann = ann;
  rd = 5;
  value = 9;
  base = 6;
  swap = refl;
  again = refl;
  others = (λ e. omega (arith, e), λ e. omega (arith, e), λ e. omega (arith, e));
  whole = λ at e. (let goes = (goes_to_swap ann at 1 e).1 in omega (arith, goes));
}

only_swaps : (ann : Ann) → OnlyWaitsOrSwaps (takes_and_releases ann)
only_swaps ann at target e =
    let goes = goes_to_swap ann at target e in
    inr (omega (arith, goes.0, goes.1), inr (subst (SwapsAt (takes_and_releases ann)) (sym goes.1) (swaps_first ann)))

pub locks_example : (asked : ℕ → ℕ → Bool) (t : Test) (p : List Entry) (taken : ℕ) → OnlyLocks t taken
    → TurnsAreIdle asked t p
locks_example asked t p taken only =
    locks asked t p only.zero_register (always_free_or_taken taken t p only)
    (λ hart low. subst OnlyWaitsOrSwaps (sym (only.codes hart low).1) (only_swaps (only.codes hart low).0))

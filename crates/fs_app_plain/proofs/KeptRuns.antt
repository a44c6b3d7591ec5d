-- A run without an idle turn is a run, and ends with the same words in the registers, but for those that the turn
-- writes and nothing after it does.
use Rattle.std.proofs.Common.{◌≡◌, ◌⊎◌, ℕ, zero, suc, ◌≤◌, List, [], ◌∷◌, ◌++◌, length, get_or, set, true, false, Option, Some, None, refl, sym, ap, subst, ◌∙◌, inl, inr, arith}
use Rattle.std.specs.Prelude.{slice_get}
use Rattle.std.specs.List.{list_any}
use Rattle.std.proofs.lemmas.Bool.{cases_eq, cases_Bool, eq-eqb, ne_eqb, or_parts, or_left, or_right, or_cases, and_from, not_from_false, false_from_ne_true, both_ways, false≢true}
use Rattle.std.proofs.lemmas.List.{get_or-set_other, length-set}
use Rattle.fs_instr.specs.declared.instr.Instr.{Instr}
use Rattle.fs_instr.specs.declared.instr.Instr.TheVariants.{Register, Immediate, Shift, Lui, Li, Lw, Sw, Lr, Sc, Amo, Branch, Jump, Fence, FenceTso, FenceI}
use Rattle.fs_instr.specs.Roles.{named, is_lr, is_sc, dest_of, sources_of}
use Rattle.fs_model.specs.declared.hart.Hart.{Hart}
use Rattle.fs_model.specs.declared.step.Step.{Step}
use Rattle.fs_model.specs.Instructions.{read, address_in, stored_in, result_in, written, next_after}
use Rattle.fs_model.specs.Runs.{IsAtLocation, Accesses, IsStep, AreSteps, Runs, paired_after, after_step, hart_after, start_with}
use Rattle.fs_model.specs.Operations.{is_same}
use Rattle.fs_app_plain.specs.Turns.{reads, writes, is_read_first, tries_first, reserves, IsIdle}
use Rattle.fs_app_plain.proofs.Cut.{whole, short}
use Rattle.fs_app_plain.proofs.KeptSources.{IsIn, has_to, named_cases, dest_not_zero, ReadAlike, result_same, address_same, stored_same, next_same}

-- ---- registers that are written

-- a word set at one place
same_set : (x y : List ℕ) (d v w : ℕ) → length x ≡ length y → v ≡ w → get_or (set x d v) d 0 ≡ get_or (set y d w) d 0
same_set [] [] d v w l e = refl
same_set [] (b ∷ y) d v w l e = absurd (omega (arith, l))
same_set (a ∷ x) [] d v w l e = absurd (omega (arith, l))
same_set (a ∷ x) (b ∷ y) zero v w l e = e
same_set (a ∷ x) (b ∷ y) (suc d) v w l e = same_set x y d v w (omega (arith, l)) e

-- the same word in both, where the register is written or had the same word
written_same : (dest : Option ℕ) (x y : List ℕ) (v w r : ℕ) → length x ≡ length y → v ≡ w
    → (is_same dest (Some r) ≡ false → read x r ≡ read y r) → read (written dest v x) r ≡ read (written dest w y) r
written_same None x y v w r l e other = other refl
written_same (Some d) x y v w r l e other = elim (cases_eq d r) [
  | inl same ↦ subst (λ (k : ℕ). read (set x d v) k ≡ read (set y d w) k) same (same_set x y d v w l e)
  | inr ne ↦ get_or-set_other x d r v 0 (λ q. ne (sym q)) ∙ other (ne_eqb d r ne)
      ∙ sym (get_or-set_other y d r w 0 (λ q. ne (sym q)))
]

written_other : (dest : Option ℕ) (x : List ℕ) (v r : ℕ) → is_same dest (Some r) ≡ false
    → read (written dest v x) r ≡ read x r
written_other None x v r e = refl
written_other (Some d) x v r e = get_or-set_other x d r v 0 (λ q. both_ways _ e (eq-eqb d r (sym q)))

written_size : (dest : Option ℕ) (x : List ℕ) (v : ℕ) → length (written dest v x) ≡ length x
written_size None x v = refl
written_size (Some d) x v = length-set x d v

-- after steps of which none writes the register
pub unwritten : (h : Hart) (ss : List Step) (r : ℕ) → list_any (writes r) ss ≡ false
    → read (hart_after h ss).registers r ≡ read h.registers r
unwritten h [] r e = refl
unwritten h (s ∷ ss) r e =
    let parts = or_parts (writes r s) (list_any (writes r) ss) e in
    unwritten (after_step h s) ss r parts.1 ∙ written_other (dest_of s.instr) h.registers _ r parts.0

size_after : (h : Hart) (ss : List Step) → length (hart_after h ss).registers ≡ length h.registers
size_after h [] = refl
size_after h (s ∷ ss) = size_after (after_step h s) ss ∙ written_size (dest_of s.instr) h.registers _

pub none_write_zero : (ss : List Step) → list_any (writes 0) ss ≡ false
none_write_zero [] = refl
none_write_zero (s ∷ ss) = let first = dest_not_zero s.instr in let later = none_write_zero ss in cc

-- ---- the access and the reservation

module _ (n : ℕ) (h g : Hart) (s : Step) (place : address_in h.registers s.instr ≡ address_in g.registers s.instr)
    (word : stored_in h.registers s.loaded s.instr ≡ stored_in g.registers s.loaded s.instr) where
  at_location : IsAtLocation n h s → IsAtLocation n g s
  at_location a = (a.0 ∙ place, a.1)

  accesses_there : (i : Instr) → (is_sc i ≡ true → h.paired ≡ g.paired) → Accesses n h s i → Accesses n g s i
  accesses_there (Register op rd first second) p a = a
  accesses_there (Immediate op rd first immediate) p a = a
  accesses_there (Shift op rd first amount) p a = a
  accesses_there (Lui rd upper) p a = a
  accesses_there (Li rd w) p a = a
  accesses_there (Lw ann rd base offset) p a = (at_location a.0, a.1, a.2)
  accesses_there (Sw ann value base offset) p a = (at_location a.0, a.1, a.2 ∙ word)
  accesses_there (Lr ann rd base) p a = (at_location a.0, a.1, a.2)
  accesses_there (Sc ann rd value base) p a = elim a [
    | inl b ↦ inl (b.0 ∙ place, b.1 ∙ p refl, b.2, b.3 ∙ word)
    | inr b ↦ inr b
  ]
  accesses_there (Amo op ann rd value base) p a = (at_location a.0, a.1, a.2 ∙ word)
  accesses_there (Branch op first second target) p a = a
  accesses_there (Jump target) p a = a
  accesses_there (Fence before after) p a = a
  accesses_there FenceTso p a = a
  accesses_there FenceI p a = a

paired_same : (h g : Hart) (s : Step) (i : Instr) → (is_lr i ≡ false → h.paired ≡ g.paired)
    → paired_after h s i ≡ paired_after g s i
paired_same h g s (Register op rd first second) p = p refl
paired_same h g s (Immediate op rd first immediate) p = p refl
paired_same h g s (Shift op rd first amount) p = p refl
paired_same h g s (Lui rd upper) p = p refl
paired_same h g s (Li rd word) p = p refl
paired_same h g s (Lw ann rd base offset) p = p refl
paired_same h g s (Sw ann value base offset) p = p refl
paired_same h g s (Lr ann rd base) p = refl
paired_same h g s (Sc ann rd value base) p = refl
paired_same h g s (Amo op ann rd value base) p = p refl
paired_same h g s (Branch op first second target) p = p refl
paired_same h g s (Jump target) p = p refl
paired_same h g s (Fence before after) p = p refl
paired_same h g s FenceTso p = p refl
paired_same h g s FenceI p = p refl

-- steps without lr.w and sc.w leave the reservation as it was
paired_kept : (h : Hart) (s : Step) (i : Instr) → is_lr i ≡ false → is_sc i ≡ false → paired_after h s i ≡ h.paired
paired_kept h s (Lr ann rd base) l c = absurd (both_ways _ l refl)
paired_kept h s (Sc ann rd value base) l c = absurd (both_ways _ c refl)
paired_kept h s i l c = refl

unreserved : (h : Hart) (ss : List Step) → list_any reserves ss ≡ false → (hart_after h ss).paired ≡ h.paired
unreserved h [] e = refl
unreserved h (s ∷ ss) e =
    let parts = or_parts (reserves s) (list_any reserves ss) e in
    let none = or_parts (is_lr s.instr) (is_sc s.instr) parts.0 in
    unreserved (after_step h s) ss parts.1 ∙ paired_kept h s s.instr none.0 none.1

-- ---- two states that these steps can't tell apart

record Meets (rest : List Step) (h g : Hart) : Type 0 where
  pub at : h.at ≡ g.at
  pub paired : tries_first rest ≡ true → h.paired ≡ g.paired
  pub size : length h.registers ≡ length g.registers
  pub never_written : read h.registers 0 ≡ read g.registers 0
  pub words : (r : ℕ) → is_read_first r rest ≡ true → read h.registers r ≡ read g.registers r

module _ (s : Step) (ss : List Step) (h g : Hart) (m : Meets (s ∷ ss) h g) where
  source_is_read : (r : ℕ) → IsIn (sources_of s.instr) (named r) → named r ≡ Some r → reads r s ≡ true
  source_is_read r is_in e =
      has_to (λ source. is_same source (Some r)) (sources_of s.instr) (Some r)
      (subst (IsIn (sources_of s.instr)) e is_in) (eq-eqb r r refl)

  read_alike : ReadAlike h.registers g.registers s.instr
  read_alike r is_in = elim (named_cases r) [
    | inl z ↦ subst (λ (k : ℕ). read h.registers k ≡ read g.registers k) (sym z) m.never_written
    | inr e ↦ m.words r (or_left (reads r s) _ (source_is_read r is_in e))
  ]

  result_alike : result_in h.registers s.loaded s.stored s.instr ≡ result_in g.registers s.loaded s.stored s.instr
  result_alike = result_same h.registers g.registers s.loaded s.stored s.instr read_alike

  -- a register that has the same word before the step, or that it writes
  register_after : (r : ℕ) → (writes r s ≡ false → read h.registers r ≡ read g.registers r)
      → read (after_step h s).registers r ≡ read (after_step g s).registers r
  register_after r other = written_same (dest_of s.instr) h.registers g.registers _ _ r m.size result_alike other

  meets_after : Meets ss (after_step h s) (after_step g s)
  meets_after = record {
    at = next_same h.registers g.registers h.at s.instr read_alike ∙ ap (λ at. next_after g.registers at s.instr) m.at;
    paired = λ t. paired_same h g s s.instr (λ l. m.paired
        (or_right (is_sc s.instr) _ (and_from _ _ (not_from_false _ l) t)));
    size = written_size (dest_of s.instr) h.registers _ ∙ m.size ∙ sym (written_size (dest_of s.instr) g.registers _);
    never_written = register_after 0 (λ e. m.never_written);
    words = λ r t. register_after r (λ e. m.words r (or_right (reads r s) _ (and_from _ _ (not_from_false _ e) t)));
  }

  step_there : (n : ℕ) (code : List Instr) → IsStep n code h s → IsStep n code g s
  step_there n code r =
      let place = address_same h.registers g.registers s.instr read_alike in
      let word = stored_same h.registers g.registers s.loaded s.instr read_alike in (
        r.0 ∙ m.at,
        ap (slice_get code) (sym m.at) ∙ r.1,
        accesses_there n h g s place word s.instr (λ c. m.paired (or_left (is_sc s.instr) _ c)) r.2,
      )

steps_there : (n : ℕ) (code : List Instr) (ss : List Step) (h g : Hart) → Meets ss h g → AreSteps n code h ss
    → AreSteps n code g ss
steps_there n code [] h g m r = tt
steps_there n code (s ∷ ss) h g m r =
    let rest = meets_after s ss h g m in
    (step_there s ss h g m n code r.0, steps_there n code ss (after_step h s) (after_step g s) rest r.1)

end_there : (ss : List Step) (h g : Hart) → Meets ss h g → (hart_after h ss).at ≡ (hart_after g ss).at
end_there [] h g m = m.at
end_there (s ∷ ss) h g m = end_there ss (after_step h s) (after_step g s) (meets_after s ss h g m)

-- in the end a register has the same word, if it had before, or if one of the steps writes it
registers_there : (ss : List Step) (h g : Hart) (r : ℕ) → Meets ss h g
    → (read h.registers r ≡ read g.registers r) ⊎ (list_any (writes r) ss ≡ true)
    → read (hart_after h ss).registers r ≡ read (hart_after g ss).registers r
registers_there [] h g r m (inl e) = e
registers_there [] h g r m (inr e) = absurd (false≢true e)
registers_there (s ∷ ss) h g r m (inl e) =
    registers_there ss (after_step h s) (after_step g s) r (meets_after s ss h g m)
    (inl (register_after s ss h g m r (λ w. e)))
registers_there (s ∷ ss) h g r m (inr e) =
    registers_there ss (after_step h s) (after_step g s) r (meets_after s ss h g m) (later (or_cases _ _ e))
  where
    later : (writes r s ≡ true) ⊎ (list_any (writes r) ss ≡ true)
        → (read (after_step h s).registers r ≡ read (after_step g s).registers r) ⊎ (list_any (writes r) ss ≡ true)
    later (inl w) = inl (register_after s ss h g m r (λ n. absurd (both_ways _ n w)))
    later (inr w) = inr w

-- ---- steps one after the other

pub hart_after_both : (h : Hart) (ss us : List Step) → hart_after h (ss ++ us) ≡ hart_after (hart_after h ss) us
hart_after_both h [] us = refl
hart_after_both h (s ∷ ss) us = hart_after_both (after_step h s) ss us

module _ (n : ℕ) (code : List Instr) where
  pub first_steps : (h : Hart) (ss us : List Step) → AreSteps n code h (ss ++ us) → AreSteps n code h ss
  first_steps h [] us r = tt
  first_steps h (s ∷ ss) us r = (r.0, first_steps (after_step h s) ss us r.1)

  pub last_steps : (h : Hart) (ss us : List Step) → AreSteps n code h (ss ++ us) → AreSteps n code (hart_after h ss) us
  last_steps h [] us r = r
  last_steps h (s ∷ ss) us r = last_steps (after_step h s) ss us r.1

  both_steps : (h : Hart) (ss us : List Step) → AreSteps n code h ss → AreSteps n code (hart_after h ss) us
      → AreSteps n code h (ss ++ us)
  both_steps h [] us r q = q
  both_steps h (s ∷ ss) us r q = (r.0, both_steps (after_step h s) ss us r.1 q)

-- ---- without the turn

module _ (before turn after : List Step) where
  module _ (start : Hart) (idle : IsIdle start before turn after) where
    -- the state before the turn, and the one after it
    abbrev old : Hart
    old = hart_after start before

    abbrev new : Hart
    new = hart_after old turn

    read_first_kept : (r : ℕ) → is_read_first r after ≡ true → list_any (writes r) turn ≡ false
    read_first_kept r e = false_from_ne_true _ (λ w. both_ways _ (idle.registers r w) e)

    meets : Meets after new old
    meets = record {
      at = ap (λ (h : Hart). h.at) (sym (hart_after_both start before turn)) ∙ idle.closed;
      paired = λ t. unreserved old turn (false_from_ne_true _ (λ w. both_ways _ (idle.reservation w) t));
      size = size_after old turn;
      never_written = unwritten old turn 0 (none_write_zero turn);
      words = λ r t. unwritten old turn r (read_first_kept r t);
    }

    end_of_whole : hart_after start (whole before turn after) ≡ hart_after new after
    end_of_whole = hart_after_both start before (turn ++ after) ∙ hart_after_both old turn after

    end_of_short : hart_after start (short before turn after) ≡ hart_after old after
    end_of_short = hart_after_both start before after

    steps_without : (n : ℕ) (code : List Instr) → AreSteps n code start (whole before turn after)
        → AreSteps n code start (short before turn after)
    steps_without n code r =
        let rest = last_steps n code old turn after (last_steps n code start before (turn ++ after) r) in
        both_steps n code start before after (first_steps n code start before (turn ++ after) r)
        (steps_there n code after new old meets rest)

    end_without : (hart_after start (whole before turn after)).at ≡ (hart_after start (short before turn after)).at
    end_without =
        ap (λ (h : Hart). h.at) end_of_whole ∙ end_there after new old meets ∙ ap (λ (h : Hart). h.at) (sym end_of_short)

    was_same : (r : ℕ) → (list_any (writes r) turn ≡ true → list_any (writes r) after ≡ true)
        → (read new.registers r ≡ read old.registers r) ⊎ (list_any (writes r) after ≡ true)
    was_same r h = elim (cases_Bool (list_any (writes r) turn)) [
      | inl w ↦ inr (h w)
      | inr w ↦ inl (unwritten old turn r w)
    ]

    registers_without : (r : ℕ) → (list_any (writes r) turn ≡ true → list_any (writes r) after ≡ true)
        → read (hart_after start (whole before turn after)).registers r
        ≡ read (hart_after start (short before turn after)).registers r
    registers_without r h =
        ap (λ (k : Hart). read k.registers r) end_of_whole
        ∙ registers_there after new old r meets (was_same r h)
        ∙ ap (λ (k : Hart). read k.registers r) (sym end_of_short)

  pub run_without : (n : ℕ) (code : List Instr) (registers : List ℕ) → Runs n code registers (whole before turn after)
      → IsIdle (start_with registers) before turn after → Runs n code registers (short before turn after)
  run_without n code registers r idle =
      let start = start_with registers in
      (steps_without start idle n code r.0, subst (λ (at : ℕ). length code ≤ at) (end_without start idle) r.1)

  pub final_registers : (registers : List ℕ) → IsIdle (start_with registers) before turn after → (r : ℕ)
      → (list_any (writes r) turn ≡ true → list_any (writes r) after ≡ true)
      → read (hart_after (start_with registers) (whole before turn after)).registers r
      ≡ read (hart_after (start_with registers) (short before turn after)).registers r
  final_registers registers idle r h = registers_without (start_with registers) idle r h

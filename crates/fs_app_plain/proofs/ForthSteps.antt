-- One step of a hart in 32 bits, with all words extended, is one in 64 bits, and leaves the same behind.
use Rattle.std.proofs.Common.{◌≡◌, ℕ, ◌^◌, ◌<◌, ◌≤◌, Option, Some, None, option_map, List, map, refl, sym, ap, subst, ◌∙◌, inl, inr}
use Rattle.std.proofs.lemmas.List.{map-set}
use Rattle.std.proofs.lemmas.List.Elements.{All-set}
use Rattle.fs_kinds.specs.Limits.{most_locations}
use Rattle.fs_instr.specs.declared.instr.Instr.{Instr}
use Rattle.fs_instr.specs.declared.instr.Instr.TheVariants.{Lw, Sw, Lr, Sc, Amo}
use Rattle.fs_instr.specs.OfTable.{IsOfTable}
use Rattle.fs_instr.specs.Roles.{dest_of}
use Rattle.fs_model.specs.declared.hart.Hart.{Hart}
use Rattle.fs_model.specs.declared.step.Step.{Step}
use Rattle.fs_model.specs.Instructions as words
use Rattle.fs_model.specs.Instructions.{written}
use Rattle.fs_model.specs.Runs as narrow
use Rattle.fs_model.specs.Runs.{IsDeclared, IsWord, AccessesNothing, paired_after}
use Rattle.fs_app_plain.specs.Instructions64.{extended, result_in}
use Rattle.fs_app_plain.specs.Wide as wide
use Rattle.fs_app_plain.specs.Wide.{IsDoubleword, IsExact, extended_step}
use Rattle.fs_app_plain.proofs.Given.{AreWords, FitsIfThere, WordLaws}

-- the words that a step loads and stores have 32 bits
pub record StepFits (s : Step) : Type 0 where
  pub loaded : FitsIfThere s.loaded
  pub stored : FitsIfThere s.stored

-- the same state with doublewords for words
abbrev pub extended_hart : Hart → Hart
extended_hart h = record { at = h.at; registers = map extended h.registers; paired = h.paired }

-- a state that a run can come to: its registers hold words, and an lr.w was of a location
pub record IsSound (n : ℕ) (h : Hart) : Type 0 where
  pub words : AreWords h.registers
  pub paired : (a : ℕ) → h.paired ≡ Some a → IsDeclared n h.paired

-- ---- the words of a step

fits_none : (o : Option ℕ) → o ≡ None → FitsIfThere o
fits_none o e = subst FitsIfThere (sym e) tt

fits_word : (o : Option ℕ) → IsWord o → FitsIfThere o
fits_word None h = tt
fits_word (Some w) h = h

loaded_fits : (n : ℕ) (h : Hart) (s : Step) (i : Instr) → narrow.Accesses n h s i → FitsIfThere s.loaded
loaded_fits n h s (Lw ann rd base offset) a = fits_word s.loaded a.1
loaded_fits n h s (Lr ann rd base) a = fits_word s.loaded a.1
loaded_fits n h s (Sw ann value base offset) a = fits_none s.loaded a.1
loaded_fits n h s (Amo op ann rd value base) a = fits_word s.loaded a.1
loaded_fits n h s (Sc ann rd value base) a = elim a [
  | inl x ↦ fits_none s.loaded x.2
  | inr x ↦ fits_none s.loaded x.1
]
loaded_fits n h s _ a = fits_none s.loaded a.1

-- ---- the state after it

pub none_some : {X : Type 0} (a : ℕ) → None ≡ Some a → X
none_some a e = absurd (cc)

next_paired : (n : ℕ) (h : Hart) (s : Step) (i : Instr) → IsSound n h → narrow.Accesses n h s i → (a : ℕ)
    → paired_after h s i ≡ Some a → IsDeclared n (paired_after h s i)
next_paired n h s (Lr ann rd base) sound access a e = access.0.1
next_paired n h s (Sc ann rd value base) sound access a e = none_some a e
next_paired n h s _ sound access a e = sound.paired a e

same_paired : (h : Hart) (s : Step) (i : Instr)
    → paired_after (extended_hart h) (extended_step s) i ≡ paired_after h s i
same_paired h s (Lr ann rd base) = refl
same_paired h s (Sc ann rd value base) = refl
same_paired h s _ = refl

words_written : (o : Option ℕ) (w : ℕ) (x : List ℕ) → w < 2 ^ 32 → AreWords x → AreWords (written o w x)
words_written None w x fits are = are
words_written (Some rd) w x fits are = All-set (λ v. v < 2 ^ 32) x rd w fits are

extended_written : (o : Option ℕ) (w : ℕ) (x : List ℕ)
    → written o (extended w) (map extended x) ≡ map extended (written o w x)
extended_written None w x = refl
extended_written (Some rd) w x = sym (map-set extended x rd w)

abbrev state : ℕ → List ℕ → Option ℕ → Hart
state at registers paired = record { at = at; registers = registers; paired = paired }

module _ (laws : WordLaws) (n : ℕ) (low : n ≤ most_locations) (h : Hart) (s : Step) (sound : IsSound n h)
    (table : IsOfTable s.instr) (access : narrow.Accesses n h s s.instr) where
  loads : FitsIfThere s.loaded
  loads = loaded_fits n h s s.instr access

  abbrev result : ℕ
  result = words.result_in h.registers s.loaded s.stored s.instr

  stored_by : (i : Instr) → narrow.Accesses n h s i → FitsIfThere s.stored
  stored_by (Lw ann rd base offset) a = fits_none s.stored a.2
  stored_by (Lr ann rd base) a = fits_none s.stored a.2
  stored_by (Sw ann value base offset) a =
      subst FitsIfThere (sym a.2) (laws.stored h.registers s.loaded s.instr sound.words loads)
  stored_by (Amo op ann rd value base) a =
      subst FitsIfThere (sym a.2) (laws.stored h.registers s.loaded s.instr sound.words loads)
  stored_by (Sc ann rd value base) a = elim a [
    | inl x ↦ subst FitsIfThere (sym x.3) (laws.stored h.registers s.loaded s.instr sound.words loads)
    | inr x ↦ fits_none s.stored x.2
  ]
  stored_by _ a = fits_none s.stored a.2

  pub step_fits : StepFits s
  step_fits = record { loaded = loads; stored = stored_by s.instr access }

  pub sound_after : IsSound n (narrow.after_step h s)
  sound_after =
      let fits = laws.result h.registers s.loaded s.stored s.instr sound.words table loads in
      record {
        words = words_written (dest_of s.instr) result h.registers fits sound.words;
        paired = next_paired n h s s.instr sound access;
      }

  module _ (exact : IsExact h s) where
    -- the states after the step in 64 bits and after that in 32 bits
    pub state_passed : wide.after_step (extended_hart h) (extended_step s) ≡ extended_hart (narrow.after_step h s)
    state_passed =
        let x = map extended h.registers in
        let loaded = option_map extended s.loaded in
        let stored = option_map extended s.stored in
        let paired = paired_after (extended_hart h) (extended_step s) s.instr in
        let next = words.next_after h.registers h.at s.instr in
        ap (λ k. state k (written (dest_of s.instr) (result_in x loaded stored s.instr) x) paired)
        (laws.next h.registers h.at s.instr sound.words)
        ∙ ap (λ w. state next (written (dest_of s.instr) w x) paired) (sym exact.result)
        ∙ ap (λ ws. state next ws paired) (extended_written (dest_of s.instr) result h.registers)
        ∙ ap (state next (map extended (written (dest_of s.instr) result h.registers))) (same_paired h s s.instr)

    -- ---- the access

    location_there : narrow.IsAtLocation n h s → wide.IsAtLocation n (extended_hart h) (extended_step s)
    location_there a = (
      a.0 ∙ sym (laws.address n h.registers s.instr low sound.words table (subst (IsDeclared n) a.0 a.1)),
      a.1,
    )

    doubleword_there : (o : Option ℕ) → IsWord o → IsDoubleword (option_map extended o)
    doubleword_there None is = is
    doubleword_there (Some w) is = laws.fits w is

    stores_there : narrow.StoresItsWord h s → wide.StoresItsWord (extended_hart h) (extended_step s)
    stores_there e = ap (option_map extended) e ∙ exact.stored

    none_there : (o : Option ℕ) → o ≡ None → option_map extended o ≡ None
    none_there o e = ap (option_map extended) e

    nothing_there : AccessesNothing s → AccessesNothing (extended_step s)
    nothing_there a = (a.0, none_there s.loaded a.1, none_there s.stored a.2)

    -- an sc.w that succeeds is paired, so at a location
    success_there : (a : ℕ) → words.address_in h.registers s.instr ≡ Some a → narrow.Succeeds h s
        → wide.Succeeds (extended_hart h) (extended_step s)
    success_there a e x =
        let declared = sound.paired a (sym x.1 ∙ x.0 ∙ e) in
        let there = location_there (x.0, subst (IsDeclared n) (sym x.1) declared) in
        (there.0, x.1, none_there s.loaded x.2, stores_there x.3)

    by_form : (i : Instr) → s.instr ≡ i → narrow.Accesses n h s i
        → wide.Accesses n (extended_hart h) (extended_step s) i
    by_form (Lw ann rd base offset) e a = (location_there a.0, doubleword_there s.loaded a.1, none_there s.stored a.2)
    by_form (Lr ann rd base) e a = (location_there a.0, doubleword_there s.loaded a.1, none_there s.stored a.2)
    by_form (Sw ann value base offset) e a = (location_there a.0, none_there s.loaded a.1, stores_there a.2)
    by_form (Amo op ann rd value base) e a = (location_there a.0, doubleword_there s.loaded a.1, stores_there a.2)
    by_form (Sc ann rd value base) e a = elim a [
      | inl x ↦ inl (success_there (words.read h.registers base) (ap (words.address_in h.registers) e) x)
      | inr x ↦ inr (nothing_there x)
    ]
    by_form _ e a = nothing_there a

    pub access_there : wide.Accesses n (extended_hart h) (extended_step s) s.instr
    access_there = by_form s.instr refl access

-- The derived test `==` of steps is passed by equal steps only, and by each step with itself.
use Rattle.std.proofs.Common.{rules, ◌≡◌, ℕ, Bool, ◌&&◌, refl, true, false, Option, ◌==◌}
use Rattle.std.specs.Option.{option_eq}
use Rattle.std.proofs.lemmas.Bool.{false≢true}
use Rattle.fs_instr.specs.declared.letters.Letters.{Letters}
use Rattle.fs_instr.specs.declared.instr.Instr.{Instr}
use Rattle.fs_instr.specs.declared.instr.Instr.TheVariants.{Register, Immediate, Shift, Lui, Li, Lw, Sw, Lr, Sc, Amo, Branch, Jump, Fence, FenceTso, FenceI}
use Rattle.fs_instr.specs.contracts.letters.LettersPartialEq.TheImpl as letters_test
use Rattle.fs_instr.specs.contracts.instr.InstrPartialEq.TheImpl as instr_test
use Rattle.fs_model.specs.declared.step.Step.{Step}
use Rattle.fs_model.specs.contracts.step.StepPartialEq.TheImpl as step_test
use Rattle.fs_model.specs.contracts.step.StepEq.TheImpl.Laws as step_laws

both : (x y : Bool) → (x && y) ≡ true → (x ≡ true) × (y ≡ true)
both true true e = (refl, refl)
both true false e = absurd (false≢true e)
both false y e = absurd (false≢true e)

same_letters : (a b : Letters) → letters_test.eq-value.it a b ≡ true → a ≡ b
same_letters a b e = search rules

same_instr : (a b : Instr) → instr_test.eq-value.it a b ≡ true → a ≡ b
same_instr (Register op rd first second) (Register op' rd' first' second') e = search rules
same_instr (Immediate op rd first imm) (Immediate op' rd' first' imm') e = search rules
same_instr (Shift op rd first amount) (Shift op' rd' first' amount') e = search rules
same_instr (Lui rd upper) (Lui rd' upper') e = search rules
same_instr (Li rd word) (Li rd' word') e = search rules
same_instr (Lw ann rd base offset) (Lw ann' rd' base' offset') e = search rules
same_instr (Sw ann value base offset) (Sw ann' value' base' offset') e = search rules
same_instr (Lr ann rd base) (Lr ann' rd' base') e = search rules
same_instr (Sc ann rd value base) (Sc ann' rd' value' base') e = search rules
same_instr (Amo op ann rd value base) (Amo op' ann' rd' value' base') e = search rules
same_instr (Branch op first second target) (Branch op' first' second' target') e = search rules
same_instr (Jump target) (Jump target') e = search rules
same_instr (Fence before after) (Fence before' after') e =
    let sides = both (letters_test.eq-value.it before before') (letters_test.eq-value.it after after') e in
    let first = same_letters before before' sides.0 in
    let second = same_letters after after' sides.1 in
    cc
same_instr FenceTso FenceTso e = refl
same_instr FenceI FenceI e = refl
-- the test fails on two instructions of different forms
same_instr a b e = absurd (false≢true e)

same_number : (a b : ℕ) → (a == b) ≡ true → a ≡ b
same_number a b e = search rules

same_word : (a b : Option ℕ) → option_eq ◌==◌ a b ≡ true → a ≡ b
same_word a b e = search rules

abbrev step_of : ℕ → Instr → (address loaded stored : Option ℕ) → Step
step_of at instr address loaded stored = record { at = at; instr = instr; address = address; loaded = loaded; stored = stored }

same_fields : (s u : Step) → s.at ≡ u.at → s.instr ≡ u.instr → s.address ≡ u.address → s.loaded ≡ u.loaded → s.stored ≡ u.stored → s ≡ u
same_fields s u at instr address loaded stored =
    let whole : step_of s.at s.instr s.address s.loaded s.stored ≡ step_of u.at u.instr u.address u.loaded u.stored = cc in whole

pub same_step : (s u : Step) → step_test.eq-value.it s u ≡ true → s ≡ u
same_step s u e =
    let at = both (s.at == u.at) _ e in
    let instr = both (instr_test.eq-value.it s.instr u.instr) _ at.1 in
    let address = both (option_eq ◌==◌ s.address u.address) _ instr.1 in
    let words = both (option_eq ◌==◌ s.loaded u.loaded) (option_eq ◌==◌ s.stored u.stored) address.1 in
    same_fields s u (same_number s.at u.at at.0) (same_instr s.instr u.instr instr.0) (same_word s.address u.address address.0)
    (same_word s.loaded u.loaded words.0) (same_word s.stored u.stored words.1)

pub itself : (s : Step) → step_test.eq-value.it s s ≡ true
itself s = step_laws.laws-law.refl s

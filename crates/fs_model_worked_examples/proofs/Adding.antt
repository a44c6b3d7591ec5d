-- The words that a location can hold to which two harts each add 1.
use Rattle.std.proofs.Common.{◌≡◌, ℕ, zero, suc, ◌+◌, ◌%◌, ◌^◌, ◌*◌, ◌<◌, ◌≤◌, ◌⊎◌, ◌↔◌, Option, None, Some, List, [], ◌∷◌, inl, inr, refl, sym, subst, arith, lit<, lit≤, pos}
use Rattle.fs_instr.specs.declared.names.AmoOp.TheVariants.{Add}
use Rattle.fs_instr.specs.declared.names.ImmOp.TheVariants.{Ori}
use Rattle.fs_instr.specs.declared.instr.Instr.TheVariants.{Immediate, Amo}
use Rattle.fs_model.proofs.Tested.{All-nil, All-cons}
use Rattle.fs_model.specs.Test.{address_of}
use Rattle.fs_model.specs.declared.step.Step.{Step}
use Rattle.fs_model.specs.Execution.{IsTrace, code_of, registers_of}
use Rattle.fs_model.specs.Trace.{start_with, after_step}
use Rattle.fs_model.specs.Values.{LoadsOne, LoadsFrom, StoresWord, IsValue, IsValueAfter}
use Rattle.fs_model_worked_examples.specs.Adding.{relaxed, two_adds}
use Rattle.fs_model_worked_examples.proofs.Inversion.{step_of, computes, exchanges_next, at_end, followed}

abbrev computed : Step
computed = record { at = 0; instr = Immediate Ori 5 0 (pos 1); address = None; loaded = None; stored = None }

-- the load returns this word, and the store writes the next one
abbrev exchanged : (loaded stored : ℕ) → Step
exchanged loaded stored = record { at = 1; instr = Amo Add relaxed 7 5 6; address = Some 4096; loaded = Some loaded; stored = Some stored }

abbrev adds : (loaded stored : ℕ) → List Step
adds loaded stored = computed ∷ exchanged loaded stored ∷ []

abbrev next : ℕ → ℕ
next n = (n + 1) % 2 ^ 32

run_of : (ss : List Step) → IsTrace two_adds 0 ss → (l : ℕ) × (ss ≡ adds l (next l))
run_of ss run =
    let h = start_with (registers_of two_adds 0) in
    let a = computes 1 (code_of two_adds 0) h ss Ori 5 0 (pos 1) refl run in
    let k = after_step h (step_of h (Immediate Ori 5 0 (pos 1)) None) in
    let b = exchanges_next 1 (code_of two_adds 0) k a.rest Add relaxed 7 5 6 refl a.ends in
    let done = at_end 1 (code_of two_adds 0) (after_step k (step_of k (Amo Add relaxed 7 5 6) (Some b.0))) b.1.rest (lit≤ tt) b.1.ends in
    (b.0, followed a _ (followed b.1 _ done))

run_of_hart : (hart : ℕ) (ss : List Step) → hart < 2 → IsTrace two_adds hart ss → (l : ℕ) × (ss ≡ adds l (next l))
run_of_hart zero ss low run = run_of ss run
run_of_hart (suc zero) ss low run = run_of ss run
run_of_hart (suc (suc hart)) ss low run = absurd (omega (arith, low))

same : {a b : ℕ} → Some a ≡ Some b → a ≡ b
same h = cc

stores_next_word : (l word : ℕ) → StoresWord (adds l (next l)) 0 word → next l ≡ word
stores_next_word l word (inl none) = let e = none.1 in absurd cc
stores_next_word l word (inr (inl stored)) = same stored.1
stores_next_word l word (inr (inr none)) = absurd none

small : (l word most : ℕ) → l ≤ most → most < 5 → next l ≡ word → word ≤ most + 1
small l word most low few e = omega (arith, low, few, e)

-- in a round the greatest value rises by 1 at most
rises : (n most : ℕ) → most < 5 → ((word : ℕ) → IsValueAfter two_adds n 0 word → word ≤ most) → (word : ℕ) → IsValueAfter two_adds (suc n) 0 word
    → word ≤ most + 1
rises n most few before word (inl earlier) = let low = before word earlier in omega (arith, low)
rises n most few before word (inr (hart, steps, low, run, loads, stored)) =
    let runs = run_of_hart hart steps low run in
    let l = runs.0 in
    let from = subst (λ ss. LoadsFrom (IsValueAfter two_adds n) ss) runs.1 loads in
    let loaded = from 1 computed (lit< tt) 0 l refl refl in
    small l word most (before l loaded) few (stores_next_word l word (subst (λ ss. StoresWord ss 0 word) runs.1 stored))

at_first : (word : ℕ) → IsValueAfter two_adds 0 0 word → word ≤ 0
at_first word e = let f : 0 ≡ word = same e in omega (arith, f)

after_one : (word : ℕ) → IsValueAfter two_adds 1 0 word → word ≤ 1
after_one word v = rises 0 0 (lit< tt) at_first word v

after_two : (word : ℕ) → IsValueAfter two_adds 2 0 word → word ≤ 2
after_two word v = rises 1 1 (lit< tt) after_one word v

-- the first step loads nothing, and the second one this word of the location
silent : (V : ℕ → ℕ → Type 0) (s : Step) → s.loaded ≡ None → LoadsOne V s
silent V s none k word a l = absurd (nothing_loaded s.loaded word none l)
  where
    nothing_loaded : (loaded : Option ℕ) (word : ℕ) → loaded ≡ None → loaded ≡ Some word → ⊥
    nothing_loaded loaded word none l = cc

of_location : (V : ℕ → ℕ → Type 0) (l : ℕ) → V 0 l → (k word : ℕ) → Some 4096 ≡ Some (address_of k) → Some l ≡ Some word → V k word
of_location V l there zero word a e = subst (λ (word : ℕ). V 0 word) (same e) there
of_location V l there (suc k) word a e = let f : 4096 ≡ 4096 + 16 * suc k = same a in absurd (omega (arith, f))

loads_from : (V : ℕ → ℕ → Type 0) (l stored : ℕ) → V 0 l → LoadsFrom V (adds l stored)
loads_from V l stored there =
    All-cons (LoadsOne V) computed (exchanged l stored ∷ []) (silent V computed refl)
    (All-cons (LoadsOne V) (exchanged l stored) [] (of_location V l there) (All-nil (LoadsOne V)))

runs : (l : ℕ) → l < 5 → IsTrace two_adds 0 (adds l (next l))
runs l few = (((refl, refl, (refl, refl, refl)), ((refl, refl, ((refl, (0, lit< tt, refl)), omega (arith, few), refl)), tt)), lit≤ tt)

-- a word that can be loaded adds the next one
adds_next : (n l : ℕ) → l < 5 → IsValueAfter two_adds n 0 l → IsValueAfter two_adds (suc n) 0 (next l)
adds_next n l few there =
    inr (0, adds l (next l), lit< tt, runs l few, loads_from (IsValueAfter two_adds n) l (next l) there, inr (inl (refl, refl)))

pub first_round : (word : ℕ) → IsValueAfter two_adds 1 0 word ↔ ((word ≡ 0) ⊎ (word ≡ 1))
first_round word = ((λ v. listed word (after_one word v)), (λ is. there word is))
  where
    listed : (word : ℕ) → word ≤ 1 → (word ≡ 0) ⊎ (word ≡ 1)
    listed zero low = inl refl
    listed (suc word) low = inr (omega (arith, low))

    there : (word : ℕ) → (word ≡ 0) ⊎ (word ≡ 1) → IsValueAfter two_adds 1 0 word
    there word (inl e) = subst (λ (word : ℕ). IsValueAfter two_adds 1 0 word) (sym e) (inl refl)
    there word (inr e) = subst (λ (word : ℕ). IsValueAfter two_adds 1 0 word) (sym e) (adds_next 0 0 (lit< tt) refl)

pub all : (word : ℕ) → IsValue two_adds 0 word ↔ ((word ≡ 0) ⊎ ((word ≡ 1) ⊎ (word ≡ 2)))
all word = ((λ v. listed word (after_two word v)), (λ is. there word is))
  where
    listed : (word : ℕ) → word ≤ 2 → (word ≡ 0) ⊎ ((word ≡ 1) ⊎ (word ≡ 2))
    listed zero low = inl refl
    listed (suc zero) low = inr (inl refl)
    listed (suc (suc word)) low = inr (inr (omega (arith, low)))

    there : (word : ℕ) → (word ≡ 0) ⊎ ((word ≡ 1) ⊎ (word ≡ 2)) → IsValue two_adds 0 word
    there word (inl e) = inl ((first_round word).1 (inl e))
    there word (inr (inl e)) = inl ((first_round word).1 (inr e))
    there word (inr (inr e)) = subst (λ (word : ℕ). IsValue two_adds 0 word) (sym e) (adds_next 1 1 (lit< tt) ((first_round 1).1 (inr refl)))

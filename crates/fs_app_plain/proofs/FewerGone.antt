-- The operations of a turn whose steps store nothing or the very word that they load: those that store are AMOs.
use Rattle.std.proofs.Common.{◌≡◌, ℕ, ◌+◌, ◌-◌, ◌<◌, inl, inr, true, false, Bool, cond, is_some, List, [], ◌∷◌, length, map, refl, sym, subst, arith}
use Rattle.std.specs.Prelude.{All}
use Rattle.std.proofs.lemmas.List.Elements.{All-nil, All-cons, All-tail}
use Rattle.fs_instr.specs.Roles.{is_amo}
use Rattle.fs_instr.specs.declared.instr.Instr.{Instr}
use Rattle.fs_instr.specs.declared.instr.Instr.TheVariants.{Register, Immediate, Shift, Lui, Li, Lw, Sw, Lr, Sc, Amo, Branch, Jump, Fence, FenceTso, FenceI}
use Rattle.fs_model.specs.declared.hart.Hart.{Hart}
use Rattle.fs_model.specs.declared.operation.Operation.{Operation}
use Rattle.fs_model.specs.declared.step.Step.{Step}
use Rattle.fs_model.specs.Operations.{access_of, operation, nothing, is_load, is_store, steps_of}
use Rattle.fs_model.specs.Runs.{Accesses, AreSteps, after_step}
use Rattle.fs_model.proofs.OptionalNumbers.{none_there}
use Rattle.fs_app_plain.specs.Turns.{StoresWhatItLoads}
use Rattle.fs_app_plain.proofs.Cut.{whole}
use Rattle.fs_app_plain.proofs.Shortened.{IsGone}
use Rattle.fs_app_plain.proofs.FewerMoved.{accesses_from}
use Rattle.fs_app_plain.proofs.FewerNumbers.{with_turn, number_from, count_of_turn, operation_gone}

-- ---- what loads and stores is an AMO

abbrev pub IsAmoIfBoth : Step → Type 0
IsAmoIfBoth s = is_some s.loaded ≡ true → is_some s.stored ≡ true → is_amo s.instr ≡ true

amo_alone : (n : ℕ) (h : Hart) (s : Step) (i : Instr) → Accesses n h s i → is_some s.loaded ≡ true
    → is_some s.stored ≡ true → is_amo i ≡ true
amo_alone n h s (Register op rd first second) a loads stores = absurd (none_there s.stored a.2 stores)
amo_alone n h s (Immediate op rd first immediate) a loads stores = absurd (none_there s.stored a.2 stores)
amo_alone n h s (Shift op rd first amount) a loads stores = absurd (none_there s.stored a.2 stores)
amo_alone n h s (Lui rd upper) a loads stores = absurd (none_there s.stored a.2 stores)
amo_alone n h s (Li rd word) a loads stores = absurd (none_there s.stored a.2 stores)
amo_alone n h s (Branch op first second target) a loads stores = absurd (none_there s.stored a.2 stores)
amo_alone n h s (Jump target) a loads stores = absurd (none_there s.stored a.2 stores)
amo_alone n h s (Fence before after) a loads stores = absurd (none_there s.stored a.2 stores)
amo_alone n h s FenceTso a loads stores = absurd (none_there s.stored a.2 stores)
amo_alone n h s FenceI a loads stores = absurd (none_there s.stored a.2 stores)
amo_alone n h s (Lw ann rd base offset) a loads stores = absurd (none_there s.stored a.2 stores)
amo_alone n h s (Lr ann rd base) a loads stores = absurd (none_there s.stored a.2 stores)
amo_alone n h s (Sw ann value base offset) a loads stores = absurd (none_there s.loaded a.1 loads)
amo_alone n h s (Amo op ann rd value base) a loads stores = refl
amo_alone n h s (Sc ann rd value base) a loads stores = elim a [
  | inl success ↦ absurd (none_there s.loaded success.2 loads)
  | inr failure ↦ absurd (none_there s.loaded failure.1 loads)
]

pub both_is_amo : (n : ℕ) (code : List Instr) (h : Hart) (turn : List Step) → AreSteps n code h turn
    → All (λ s. is_some s.loaded ≡ true → is_some s.stored ≡ true → is_amo s.instr ≡ true) turn
both_is_amo n code h [] steps = All-nil IsAmoIfBoth
both_is_amo n code h (s ∷ ss) steps =
    All-cons IsAmoIfBoth s ss (amo_alone n h s s.instr steps.0.2) (both_is_amo n code (after_step h s) ss steps.1)

-- ---- what the turn's operations store

abbrev KeepsWord : Operation → Type 0
KeepsWord o = is_some o.stored ≡ true → (is_amo o.instr ≡ true) × (is_some o.loaded ≡ true) × (o.stored ≡ o.loaded)

step_keeps : (hart n : ℕ) (s : Step) → StoresWhatItLoads s → IsAmoIfBoth s → KeepsWord (access_of hart (n, s))
step_keeps hart n s stores amo there = elim stores [
  | inl none ↦ absurd (none_there s.stored none there)
  | inr same ↦ (amo same.0 there, same.0, same.1)
]

one_keeps : (hart n : ℕ) (s : Step) (c : Bool) (xs : List (ℕ × Step)) → KeepsWord (access_of hart (n, s))
    → All KeepsWord (map (access_of hart) xs) → All KeepsWord (map (access_of hart) (cond c ((n, s) ∷ xs) xs))
one_keeps hart n s true xs here rest = All-cons KeepsWord (access_of hart (n, s)) (map (access_of hart) xs) here rest
one_keeps hart n s false xs here rest = rest

turn_keeps : (hart n : ℕ) (turn : List Step) → All StoresWhatItLoads turn → All IsAmoIfBoth turn
    → All KeepsWord (accesses_from hart n turn)
turn_keeps hart n [] stores amos = All-nil KeepsWord
turn_keeps hart n (s ∷ ss) stores amos =
    one_keeps hart n s (is_some s.address) _ (step_keeps hart n s (stores 0 s (omega arith)) (amos 0 s (omega arith)))
    (turn_keeps hart (n + 1) ss (All-tail StoresWhatItLoads s ss stores) (All-tail IsAmoIfBoth s ss amos))

module _ (traces : List (List Step)) (words : List ℕ) (hart : ℕ) (before turn after : List Step)
    (low : hart < length traces) (run : steps_of traces hart ≡ whole before turn after) where
  pub gone_keeps : All StoresWhatItLoads turn → All IsAmoIfBoth turn → (g : ℕ)
      → IsGone (number_from traces hart before) (count_of_turn hart before turn) g
      → is_store (with_turn traces words) g ≡ true
      → (is_amo (operation (with_turn traces words) g).instr ≡ true) × (is_load (with_turn traces words) g ≡ true)
      × ((operation (with_turn traces words) g).stored ≡ (operation (with_turn traces words) g).loaded)
  gone_keeps stores amos g gone =
      let k = g - number_from traces hart before in
      let inside : k < count_of_turn hart before turn = omega (arith, gone.0, gone.1) in
      let found = turn_keeps hart (length before) turn stores amos k nothing inside in
      subst KeepsWord (sym (operation_gone traces words hart before turn after low run g gone)) found

-- The execution in which a hart goes back once is one.
use Rattle.std.proofs.Common.{◌≡◌, ℕ, zero, suc, ◌<◌, Bool, true, ◌&&◌, ◌||◌, not, List, [], ◌∷◌, refl, arith, lit<, lit≤}
use Rattle.std.proofs.lemmas.Bool.{and_from, not-true, false≢true, true≢false, both_ways}
use Rattle.fs_model.specs.Numbers.{stands_before}
use Rattle.fs_model.specs.Operations.{PreExecution, steps_of, po, paired}
use Rattle.fs_model.specs.Source.{gmo, source_in}
use Rattle.fs_model.specs.Preserved.{ppo}
use Rattle.fs_model.specs.Execution.{IsExecution, ObeysAxioms, IsTrace, IsAtomic, ReturnsSources, Respects}
use Rattle.fs_model.proofs.Ranges.{each_two_below, implies_at, po_in_range}
use Rattle.fs_model.proofs.Preserved.{ppo_in_po}
use Rattle.fs_app_plain.specs.Turns.{IsInOneTurn}
use Rattle.fs_app_plain.specs.WaitedOnce.{waiting, waiter, lowerer, waited_once}

abbrev x : PreExecution
x = record { traces = waiter ∷ lowerer ∷ []; words = 1 ∷ 0 ∷ [] }

abbrev order : List ℕ
order = 0 ∷ 3 ∷ 1 ∷ 2 ∷ []

abbrev keeps : ℕ → ℕ → Bool
keeps a b = not (ppo x [] (source_in x order) a b) || stands_before (gmo x order) a b

preserved : Respects (gmo x order) (λ a b. ppo x [] (source_in x order) a b ≡ true)
preserved a b h =
    let there = po_in_range x a b (ppo_in_po x [] (source_in x order) a b h) in
    implies_at _ _ (each_two_below keeps 6 a b refl there.0 there.1) h

abbrev no_pair : ℕ → ℕ → Bool
no_pair a b = not (po x a b && paired x a b)

atomic : IsAtomic x (source_in x order) (gmo x order)
atomic r w s before pair returned =
    let there = po_in_range x r w before in
    absurd (both_ways _ (not-true _ (each_two_below no_pair 6 r w refl there.0 there.1)) (and_from _ _ before pair))

values : ReturnsSources x (source_in x order)
values zero h = refl
values (suc zero) h = refl
values (suc (suc zero)) h = refl
values (suc (suc (suc zero))) h = absurd (false≢true h)
values (suc (suc (suc (suc zero)))) h = absurd (false≢true h)
values (suc (suc (suc (suc (suc zero))))) h = absurd (false≢true h)
values (suc (suc (suc (suc (suc (suc k)))))) h = absurd (false≢true h)

axioms : ObeysAxioms x [] order
axioms = record { once = refl; preserved = preserved; values = values; atomic = atomic }

first : IsTrace waiting 0 waiter
first = (
  (
    (refl, refl, ((refl, (0, lit< tt, refl)), lit< tt, refl)),
    (
      (refl, refl, (refl, refl, refl)),
      (
        (refl, refl, ((refl, (0, lit< tt, refl)), lit< tt, refl)),
        (
          (refl, refl, (refl, refl, refl)),
          ((refl, refl, ((refl, (1, lit< tt, refl)), lit< tt, refl)), tt),
        ),
      ),
    ),
  ),
  lit≤ tt,
)

second : IsTrace waiting 1 lowerer
second = (((refl, refl, ((refl, (0, lit< tt, refl)), refl, refl)), tt), lit≤ tt)

runs : (hart : ℕ) → hart < 2 → IsTrace waiting hart (steps_of waited_once.traces hart)
runs zero h = first
runs (suc zero) h = second
runs (suc (suc hart)) h = absurd (omega arith)

pub execution : IsExecution waiting [] waited_once
execution = record { harts = refl; runs = runs; axioms = axioms }

pub goes_back_once : IsInOneTurn waiting waited_once → ⊥
goes_back_once never = true≢false (never 0 (lit< tt)).1.0

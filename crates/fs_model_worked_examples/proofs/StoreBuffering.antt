-- Store buffering without fences is allowed, and its execution is none with w,r before a load.
use Rattle.std.proofs.Common.{◌≡◌, ℕ, zero, suc, ◌<◌, Bool, true, ◌&&◌, ◌||◌, not, None, Some, List, [], ◌∷◌, refl, arith, lit<, lit≤, Box}
use Rattle.std.specs.declared.alloc.Global.{Global}
use Rattle.std.proofs.lemmas.Bool.{and_from, not-true, false≢true, both_ways}
use Rattle.fs_kinds.specs.declared.kind.Kind.TheVariants.{WR}
use Rattle.fs_model.specs.Numbers.{stands_before}
use Rattle.fs_model.specs.Operations.{PreExecution, steps_of, po, paired}
use Rattle.fs_model.specs.Source.{gmo, source_in}
use Rattle.fs_model.specs.Preserved.{ppo}
use Rattle.fs_model.specs.Execution.{IsExecution, ObeysAxioms, IsTrace, IsAtomic, ReturnsSources, Respects}
use Rattle.fs_model.proofs.Ranges.{each_two_below, implies_at, po_in_range}
use Rattle.fs_model.proofs.Preserved.{ppo_in_po}
use Rattle.fs_model.specs.Allows.{Allows}
use Rattle.fs_model_worked_examples.specs.StoreBuffering.{sb, steps, buffered, fences}

abbrev pub x : PreExecution
x = record { traces = steps 4096 4112 ∷ steps 4112 4096 ∷ []; words = 0 ∷ 0 ∷ [] }

abbrev pub order : List ℕ
order = 1 ∷ 3 ∷ 0 ∷ 2 ∷ []

abbrev keeps : ℕ → ℕ → Bool
keeps a b = not (ppo x (fences None None) (source_in x order) a b) || stands_before (gmo x order) a b

preserved : Respects (gmo x order) (λ a b. ppo x (fences None None) (source_in x order) a b ≡ true)
preserved a b h =
    let there = po_in_range x a b (ppo_in_po x (fences None None) (source_in x order) a b h) in
    implies_at _ _ (each_two_below keeps 6 a b refl there.0 there.1) h

abbrev no_pair : ℕ → ℕ → Bool
no_pair a b = not (po x a b && paired x a b)

atomic : IsAtomic x (source_in x order) (gmo x order)
atomic r w s before pair returned =
    let there = po_in_range x r w before in
    absurd (both_ways _ (not-true _ (each_two_below no_pair 6 r w refl there.0 there.1)) (and_from _ _ before pair))

pub values : ReturnsSources x (source_in x order)
values zero h = absurd (false≢true h)
values (suc zero) h = refl
values (suc (suc zero)) h = absurd (false≢true h)
values (suc (suc (suc zero))) h = refl
values (suc (suc (suc (suc zero)))) h = absurd (false≢true h)
values (suc (suc (suc (suc (suc zero))))) h = absurd (false≢true h)
values (suc (suc (suc (suc (suc (suc k)))))) h = absurd (false≢true h)

axioms : ObeysAxioms x (fences None None) order
axioms = record { once = refl; preserved = preserved; values = values; atomic = atomic }

module _ (p q : Box (Unit {0}) Global) where
  pub first : IsTrace (sb p q) 0 (steps 4096 4112)
  first = (((refl, refl, (refl, refl, refl)), ((refl, refl, ((refl, (0, lit< tt, refl)), refl, refl)), ((refl, refl, ((refl, (1, lit< tt, refl)), lit< tt, refl)), tt))), lit≤ tt)

  pub second : IsTrace (sb p q) 1 (steps 4112 4096)
  second = (((refl, refl, (refl, refl, refl)), ((refl, refl, ((refl, (1, lit< tt, refl)), refl, refl)), ((refl, refl, ((refl, (0, lit< tt, refl)), lit< tt, refl)), tt))), lit≤ tt)

  runs : (hart : ℕ) → hart < 2 → IsTrace (sb p q) hart (steps_of buffered.traces hart)
  runs zero h = first
  runs (suc zero) h = second
  runs (suc (suc hart)) h = absurd (omega arith)

  pub execution : IsExecution (sb p q) (fences None None) buffered
  execution = record { harts = refl; runs = runs; axioms = axioms }

  pub allowed : Allows (sb p q) (fences None None)
  allowed = (buffered, record { execution = execution; outcome = refl })

  -- with w,r in hart 0 the order goes against preserved program order
  pub refused : IsExecution (sb p q) (fences (Some WR) None) buffered → ⊥
  refused e = false≢true (e.axioms.preserved 0 1 refl)

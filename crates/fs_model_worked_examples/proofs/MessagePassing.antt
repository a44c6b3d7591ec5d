-- Message passing where both loads return 1: with rw,rw in each slot it has an execution.
use Rattle.std.proofs.Common.{◌≡◌, ℕ, zero, suc, ◌<◌, Bool, true, ◌&&◌, ◌||◌, not, Some, List, [], ◌∷◌, refl, arith, lit<, lit≤, Box}
use Rattle.std.specs.declared.alloc.Global.{Global}
use Rattle.std.specs.List.{slice_index_or}
use Rattle.std.proofs.lemmas.Bool.{and_from, not-true, false≢true, both_ways}
use Rattle.fs_kinds.specs.declared.kind.Kind.TheVariants.{RwRw}
use Rattle.fs_kinds.specs.declared.placement.Entry.{Entry}
use Rattle.fs_model.specs.Numbers.{stands_before}
use Rattle.fs_model.specs.Operations.{PreExecution, steps_of, po, paired}
use Rattle.fs_model.specs.Source.{gmo, source_in}
use Rattle.fs_model.specs.Preserved.{ppo}
use Rattle.fs_model.specs.Execution.{IsExecution, ObeysAxioms, IsTrace, IsAtomic, ReturnsSources, Respects}
use Rattle.fs_model.specs.Witness.{Chooses, IsOfWitness}
use Rattle.fs_model.specs.Allows.{Shows}
use Rattle.fs_cert_evidence.specs.Shown.{IsShownBy}
use Rattle.fs_model.proofs.Ranges.{each_two_below, implies_at, po_in_range}
use Rattle.fs_model.proofs.Preserved.{ppo_in_po}
use Rattle.fs_model_worked_examples.specs.MessagePassing.{passing, mp11, two_stores, two_loads, passed, passes, passing_fences}

abbrev x : PreExecution
x = record { traces = passed.traces; words = 0 ∷ 0 ∷ [] }

abbrev order : List ℕ
order = passed.order

abbrev full : List Entry
full = passing_fences (Some RwRw) (Some RwRw)

abbrev keeps : ℕ → ℕ → Bool
keeps a b = not (ppo x full (source_in x order) a b) || stands_before (gmo x order) a b

preserved : Respects (gmo x order) (λ a b. ppo x full (source_in x order) a b ≡ true)
preserved a b h =
    let there = po_in_range x a b (ppo_in_po x full (source_in x order) a b h) in
    implies_at _ _ (each_two_below keeps 6 a b refl there.0 there.1) h

abbrev no_pair : ℕ → ℕ → Bool
no_pair a b = not (po x a b && paired x a b)

atomic : IsAtomic x (source_in x order) (gmo x order)
atomic r w s before pair returned =
    let there = po_in_range x r w before in
    absurd (both_ways _ (not-true _ (each_two_below no_pair 6 r w refl there.0 there.1)) (and_from _ _ before pair))

values : ReturnsSources x (source_in x order)
values zero h = absurd (false≢true h)
values (suc zero) h = absurd (false≢true h)
values (suc (suc zero)) h = refl
values (suc (suc (suc zero))) h = refl
values (suc (suc (suc (suc zero)))) h = absurd (false≢true h)
values (suc (suc (suc (suc (suc zero))))) h = absurd (false≢true h)
values (suc (suc (suc (suc (suc (suc k)))))) h = absurd (false≢true h)

axioms : ObeysAxioms x full order
axioms = record { once = refl; preserved = preserved; values = values; atomic = atomic }

module _ (word : ℕ) (p q : Box (Unit {0}) Global) where
  pub storing : IsTrace (passing word p q) 0 two_stores
  storing = (
    (
      (refl, refl, (refl, refl, refl)),
      (
        (refl, refl, ((refl, (0, lit< tt, refl)), refl, refl)),
        ((refl, refl, (refl, refl, refl)), ((refl, refl, ((refl, (1, lit< tt, refl)), refl, refl)), tt)),
      ),
    ),
    lit≤ tt,
  )

  pub loading : (flag loaded : ℕ) → flag < 2 → loaded < 2 → IsTrace (passing word p q) 1 (two_loads flag loaded)
  loading flag loaded low high = (
    (
      (refl, refl, ((refl, (1, lit< tt, refl)), omega (arith, low), refl)),
      ((refl, refl, ((refl, (0, lit< tt, refl)), omega (arith, high), refl)), tt),
    ),
    lit≤ tt,
  )

  runs : (hart : ℕ) → hart < 2 → IsTrace (passing word p q) hart (steps_of passed.traces hart)
  runs zero h = storing
  runs (suc zero) h = loading 1 1 (lit< tt) (lit< tt)
  runs (suc (suc hart)) h = absurd (omega arith)

  pub chosen : (hart : ℕ) → hart < 2 → Chooses (passing word p q) hart (slice_index_or passes.choices hart []) (steps_of passed.traces hart)
  chosen zero h = (storing, refl)
  chosen (suc zero) h = (loading 1 1 (lit< tt) (lit< tt), refl)
  chosen (suc (suc hart)) h = absurd (omega arith)

  pub execution : IsExecution (passing word p q) full passed
  execution = record { harts = refl; runs = runs; axioms = axioms }

  pub given : IsOfWitness (passing word p q) passes passed
  given = record { lists = refl; harts = refl; runs = chosen; order = refl }

module _ (p q : Box (Unit {0}) Global) where
  pub shows : Shows (mp11 p q) full passed
  shows = record { execution = execution 1 p q; outcome = refl }

  pub shown : IsShownBy (mp11 p q) full passes
  shown = (passed, (given 1 p q, shows))

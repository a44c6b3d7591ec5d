-- Coherent reads have a candidate that shows the outcome, and a cycle against it.
use Rattle.std.proofs.Common.{◌≡◌, ℕ, zero, suc, ◌+◌, ◌*◌, ◌<◌, Bool, true, ◌&&◌, not, Option, None, Some, [], ◌∷◌, inl, inr, refl, sym, subst, arith, lit<, lit≤, Box}
use Rattle.std.specs.declared.alloc.Global.{Global}
use Rattle.std.proofs.lemmas.Bool.{and_from, not-true, false≢true, both_ways}
use Rattle.fs_model.proofs.Tested.{All-nil, All-cons}
use Rattle.fs_model.specs.declared.test.Test.{Test}
use Rattle.fs_model.specs.Test.{address_of}
use Rattle.fs_model.specs.declared.step.Step.{Step}
use Rattle.fs_model.specs.Operations.{PreExecution, steps_of, is_store, same_hart, po, paired}
use Rattle.fs_model.specs.Execution.{IsTrace}
use Rattle.fs_model.specs.Values.{LoadsOne, LoadsFrom, IsValue}
use Rattle.fs_cert_evidence.specs.Candidates.{IsRaw, IsShowing, rf, is_sourced, is_store_order, stores_to}
use Rattle.fs_cert_evidence.specs.Cycles.{IsCycle}
use Rattle.fs_model_worked_examples.specs.CoherentReads.{corr, store, loads, stale, circle}
use Rattle.fs_model.proofs.Ranges.{each_two_below, po_in_range}

abbrev x : PreExecution
x = record { traces = store ∷ loads ∷ []; words = 0 ∷ [] }

same : {a b : ℕ} → Some a ≡ Some b → a ≡ b
same h = cc

-- no store comes before another operation in program order, and no two operations are paired
abbrev no_store_first : ℕ → ℕ → Bool
no_store_first m a = not (is_store x m && po x m a)

abbrev no_pair : ℕ → ℕ → Bool
no_pair r w = not (po x r w && paired x r w)

never_first : (m a : ℕ) → is_store x m ≡ true → po x m a ≡ true → ⊥
never_first m a store before =
    let there = po_in_range x m a before in
    both_ways _ (not-true _ (each_two_below no_store_first 4 m a refl there.0 there.1)) (and_from _ _ store before)

never_paired : (r w : ℕ) → po x r w ≡ true → paired x r w ≡ true → ⊥
never_paired r w before pair =
    let there = po_in_range x r w before in
    both_ways _ (not-true _ (each_two_below no_pair 4 r w refl there.0 there.1)) (and_from _ _ before pair)

-- no source is of the load's hart
never_own : (a s : ℕ) → rf stale a ≡ Some s → same_hart x s a ≡ true → ⊥
never_own zero s h e = cc
never_own (suc zero) s h e = false≢true (subst (λ (s : ℕ). same_hart x s 1 ≡ true) (sym (same h)) e)
never_own (suc (suc zero)) s h e = false≢true (subst (λ (s : ℕ). same_hart x s 2 ≡ true) (sym (same h)) e)
never_own (suc (suc (suc zero))) s h e = cc
never_own (suc (suc (suc (suc a)))) s h e = cc

-- what two steps load
silent : (V : ℕ → ℕ → Type 0) (s : Step) → s.loaded ≡ None → LoadsOne V s
silent V s none k word a l = absurd (nothing_loaded s.loaded word none l)
  where
    nothing_loaded : (loaded : Option ℕ) (word : ℕ) → loaded ≡ None → loaded ≡ Some word → ⊥
    nothing_loaded loaded word none l = cc

both : (V : ℕ → ℕ → Type 0) (s u : Step) → LoadsOne V s → LoadsOne V u → LoadsFrom V (s ∷ u ∷ [])
both V s u first second = All-cons (LoadsOne V) s (u ∷ []) first (All-cons (LoadsOne V) u [] second (All-nil (LoadsOne V)))

both_silent : (V : ℕ → ℕ → Type 0) (s u : Step) → s.loaded ≡ None → u.loaded ≡ None → LoadsFrom V (s ∷ u ∷ [])
both_silent V s u first second = both V s u (silent V s first) (silent V u second)

module _ (p q : Box (Unit {0}) Global) where
  abbrev t : Test
  t = corr p q

  storing : IsTrace t 0 store
  storing = (((refl, refl, (refl, refl, refl)), ((refl, refl, ((refl, (0, lit< tt, refl)), refl, refl)), tt)), lit≤ tt)

  loading : IsTrace t 1 loads
  loading = (
    ((refl, refl, ((refl, (0, lit< tt, refl)), lit< tt, refl)), ((refl, refl, ((refl, (0, lit< tt, refl)), lit< tt, refl)), tt)),
    lit≤ tt,
  )

  runs : (hart : ℕ) → hart < 2 → IsTrace t hart (steps_of stale.traces hart)
  runs zero h = storing
  runs (suc zero) h = loading
  runs (suc (suc hart)) h = absurd (omega arith)

  -- the location holds 0 at first, and 1 after the store
  at_first : (k word : ℕ) → Some 4096 ≡ Some (address_of k) → Some 0 ≡ Some word → IsValue t k word
  at_first zero word a l = inl l
  at_first (suc k) word a l = let e : 4096 ≡ 4096 + 16 * suc k = same a in absurd (omega (arith, e))

  stores_none : (V : ℕ → ℕ → Type 0) → LoadsFrom V store
  stores_none V = both_silent V _ _ refl refl

  later : (k word : ℕ) → Some 4096 ≡ Some (address_of k) → Some 1 ≡ Some word → IsValue t k word
  later zero word a l = inr (0, store, lit< tt, storing, stores_none _, inr (inl (refl, l)))
  later (suc k) word a l = let e : 4096 ≡ 4096 + 16 * suc k = same a in absurd (omega (arith, e))

  values : (hart : ℕ) → hart < 2 → LoadsFrom (IsValue t) (steps_of stale.traces hart)
  values zero h = stores_none (IsValue t)
  values (suc zero) h = both (IsValue t) _ _ later at_first
  values (suc (suc hart)) h = absurd (omega arith)

  sources : (a : ℕ) → a < 4 → is_sourced x a (rf stale a) ≡ true
  sources zero h = refl
  sources (suc zero) h = refl
  sources (suc (suc zero)) h = refl
  sources (suc (suc (suc zero))) h = refl
  sources (suc (suc (suc (suc a)))) h = absurd (omega arith)

  orders : (location : ℕ) → location < 1 → is_store_order x location (stores_to stale location) ≡ true
  orders zero h = refl
  orders (suc location) h = absurd (omega arith)

  raw : IsRaw t stale
  raw = record {
    runs = record { harts = refl; runs = runs; values = values };
    sources_for_each = refl;
    sources = sources;
    locations = refl;
    orders = orders;
  }

  pub showing : IsShowing t stale
  showing = record {
    raw = raw;
    outcome = refl;
    own = (λ a s h e. absurd (never_own a s h e));
    latest = (λ a s m h w k before. absurd (never_first m a w before));
    atomic = (λ r w s before pair h. absurd (never_paired r w before pair));
  }

  pub cycle : IsCycle t [] stale circle
  cycle = record { some = lit≤ tt; most = lit≤ tt; operations = 0 ∷ 1 ∷ 2 ∷ []; names = refl; edges = refl }

-- Message passing has one candidate that shows the outcome.
use Rattle.std.proofs.Common.{◌≡◌, ℕ, zero, suc, ◌+◌, ◌*◌, ◌<◌, ◌==◌, ◌&&◌, not, Bool, true, Option, None, Some, is_some, List, [], ◌∷◌, length, inl, inr, refl, sym, ◌∙◌, ap, subst, arith, lit<, lit≤, Box, pos}
use Rattle.std.specs.List.{Contains, slice_index_or}
use Rattle.std.specs.declared.alloc.Global.{Global}
use Rattle.std.proofs.lemmas.Bool.{and_from, and_parts, eqb-true, not-true, false≢true, both_ways}
use Rattle.fs_instr.specs.Names.{plain}
use Rattle.fs_instr.specs.declared.names.ImmOp.TheVariants.{Ori}
use Rattle.fs_instr.specs.declared.instr.Instr.TheVariants.{Immediate, Lw, Sw}
use Rattle.fs_model.proofs.Tested.{All-nil, All-cons}
use Rattle.fs_model.specs.declared.test.Test.{Test}
use Rattle.fs_model.specs.Condition.{condition_of}
use Rattle.fs_model.specs.Test.{address_of}
use Rattle.fs_model.specs.declared.step.Step.{Step}
use Rattle.fs_model.specs.Operations.{PreExecution, steps_of, operations, is_store, same_hart, po, paired}
use Rattle.fs_model.specs.Execution.{IsTrace, code_of, registers_of}
use Rattle.fs_model.specs.Shows.{holds, final_register}
use Rattle.fs_model.specs.Trace.{start_with, after_step}
use Rattle.fs_model.specs.Values.{LoadsOne, LoadsFrom, IsValue}
use Rattle.fs_model.proofs.Ranges.{each_two_below, po_in_range}
use Rattle.fs_cert_evidence.specs.Candidates.{Candidate, IsRaw, IsShowing, rf, is_sourced, is_store_order, stores_to, last_word}
use Rattle.fs_cert_evidence.specs.Listings.{IsListing}
use Rattle.fs_model_worked_examples.specs.MessagePassing.{mp, two_stores, two_loads, overtaken}
use Rattle.fs_model_worked_examples.proofs.Inversion.{step_of, computes, stores_next, loads_next, at_end, followed, two_runs, same_candidate, two_in_order}
use Rattle.fs_model_worked_examples.proofs.MessagePassing.{storing, loading}

abbrev x : PreExecution
x = record { traces = overtaken.traces; words = 0 ∷ 0 ∷ [] }

same : {a b : ℕ} → Some a ≡ Some b → a ≡ b
same h = cc

-- ---- the candidate

-- no store comes before a load in program order, and no two operations are paired
abbrev no_store_first : ℕ → ℕ → Bool
no_store_first m a = not (is_store x m && po x m a && is_some (rf overtaken a))

abbrev no_pair : ℕ → ℕ → Bool
no_pair r w = not (po x r w && paired x r w)

never_first : (a s m : ℕ) → rf overtaken a ≡ Some s → is_store x m ≡ true → po x m a ≡ true → ⊥
never_first a s m source store before =
    let there = po_in_range x m a before in
    let loads : is_some (rf overtaken a) ≡ true = ap (λ o. is_some o) source in
    both_ways _ (not-true _ (each_two_below no_store_first 6 m a refl there.0 there.1)) (and_from _ _ (and_from _ _ store before) loads)

never_paired : (r w : ℕ) → po x r w ≡ true → paired x r w ≡ true → ⊥
never_paired r w before pair =
    let there = po_in_range x r w before in
    both_ways _ (not-true _ (each_two_below no_pair 6 r w refl there.0 there.1)) (and_from _ _ before pair)

-- no source is of the load's hart
never_own : (a s : ℕ) → rf overtaken a ≡ Some s → same_hart x s a ≡ true → ⊥
never_own zero s h e = cc
never_own (suc zero) s h e = cc
never_own (suc (suc zero)) s h e = false≢true (subst (λ (s : ℕ). same_hart x s 2 ≡ true) (sym (same h)) e)
never_own (suc (suc (suc zero))) s h e = false≢true (subst (λ (s : ℕ). same_hart x s 3 ≡ true) (sym (same h)) e)
never_own (suc (suc (suc (suc zero)))) s h e = cc
never_own (suc (suc (suc (suc (suc zero))))) s h e = cc
never_own (suc (suc (suc (suc (suc (suc a)))))) s h e = cc

sources : (a : ℕ) → a < 6 → is_sourced x a (rf overtaken a) ≡ true
sources zero h = refl
sources (suc zero) h = refl
sources (suc (suc zero)) h = refl
sources (suc (suc (suc zero))) h = refl
sources (suc (suc (suc (suc zero)))) h = refl
sources (suc (suc (suc (suc (suc zero))))) h = refl
sources (suc (suc (suc (suc (suc (suc a)))))) h = absurd (omega arith)

orders : (location : ℕ) → location < 2 → is_store_order x location (stores_to overtaken location) ≡ true
orders zero h = refl
orders (suc zero) h = refl
orders (suc (suc location)) h = absurd (omega arith)

-- what steps load
silent : (V : ℕ → ℕ → Type 0) (s : Step) → s.loaded ≡ None → LoadsOne V s
silent V s none k word a l = absurd (nothing_loaded s.loaded word none l)
  where
    nothing_loaded : (loaded : Option ℕ) (word : ℕ) → loaded ≡ None → loaded ≡ Some word → ⊥
    nothing_loaded loaded word none l = cc

one_more : (V : ℕ → ℕ → Type 0) (s : Step) (ss : List Step) → LoadsOne V s → LoadsFrom V ss → LoadsFrom V (s ∷ ss)
one_more V s ss first rest = All-cons (LoadsOne V) s ss first rest

none_of_four : (V : ℕ → ℕ → Type 0) (a b c d : Step) → a.loaded ≡ None → b.loaded ≡ None → c.loaded ≡ None → d.loaded ≡ None
    → LoadsFrom V (a ∷ b ∷ c ∷ d ∷ [])
none_of_four V a b c d e f g h =
    one_more V a (b ∷ c ∷ d ∷ []) (silent V a e)
    (one_more V b (c ∷ d ∷ []) (silent V b f)
    (one_more V c (d ∷ []) (silent V c g) (one_more V d [] (silent V d h) (All-nil (LoadsOne V)))))

stores_none : (V : ℕ → ℕ → Type 0) → LoadsFrom V two_stores
stores_none V = none_of_four V _ _ _ _ refl refl refl refl

two_load : (V : ℕ → ℕ → Type 0) (a b : Step) → LoadsOne V a → LoadsOne V b → LoadsFrom V (a ∷ b ∷ [])
two_load V a b first second = one_more V a (b ∷ []) first (one_more V b [] second (All-nil (LoadsOne V)))

-- ---- any candidate that shows the outcome

source_none : (a : ℕ) (o : Option ℕ) → ((s : ℕ) → is_sourced x a (Some s) ≡ true → ⊥) → is_sourced x a o ≡ true → o ≡ None
source_none a None never h = refl
source_none a (Some s) never h = absurd (never s h)

source_2 : (o : Option ℕ) → is_sourced x 2 o ≡ true → o ≡ Some 1
source_2 None h = absurd (false≢true h)
source_2 (Some zero) h = absurd (false≢true h)
source_2 (Some (suc zero)) h = refl
source_2 (Some (suc (suc zero))) h = absurd (false≢true h)
source_2 (Some (suc (suc (suc zero)))) h = absurd (false≢true h)
source_2 (Some (suc (suc (suc (suc zero))))) h = absurd (false≢true h)
source_2 (Some (suc (suc (suc (suc (suc zero)))))) h = absurd (false≢true h)
source_2 (Some (suc (suc (suc (suc (suc (suc s))))))) h = absurd (false≢true h)

source_3 : (o : Option ℕ) → is_sourced x 3 o ≡ true → o ≡ Some 4
source_3 None h = absurd (false≢true h)
source_3 (Some zero) h = absurd (false≢true h)
source_3 (Some (suc zero)) h = absurd (false≢true h)
source_3 (Some (suc (suc zero))) h = absurd (false≢true h)
source_3 (Some (suc (suc (suc zero)))) h = absurd (false≢true h)
source_3 (Some (suc (suc (suc (suc zero))))) h = refl
source_3 (Some (suc (suc (suc (suc (suc zero)))))) h = absurd (false≢true h)
source_3 (Some (suc (suc (suc (suc (suc (suc s))))))) h = absurd (false≢true h)

sources_are : (os : List (Option ℕ)) → length os ≡ 6 → ((a : ℕ) → a < length os → is_sourced x a (slice_index_or os a None) ≡ true)
    → os ≡ None ∷ None ∷ Some 1 ∷ Some 4 ∷ None ∷ None ∷ []
sources_are [] e sourced = absurd (omega (arith, e))
sources_are (a ∷ []) e sourced = absurd (omega (arith, e))
sources_are (a ∷ b ∷ []) e sourced = absurd (omega (arith, e))
sources_are (a ∷ b ∷ c ∷ []) e sourced = absurd (omega (arith, e))
sources_are (a ∷ b ∷ c ∷ d ∷ []) e sourced = absurd (omega (arith, e))
sources_are (a ∷ b ∷ c ∷ d ∷ f ∷ []) e sourced = absurd (omega (arith, e))
sources_are (a ∷ b ∷ c ∷ d ∷ f ∷ g ∷ []) e sourced =
    let i = source_none 0 a (λ s h. false≢true h) (sourced 0 (lit< tt)) in
    let j = source_none 1 b (λ s h. false≢true h) (sourced 1 (lit< tt)) in
    let k = source_2 c (sourced 2 (lit< tt)) in
    let l = source_3 d (sourced 3 (lit< tt)) in
    let m = source_none 4 f (λ s h. false≢true h) (sourced 4 (lit< tt)) in
    let n = source_none 5 g (λ s h. false≢true h) (sourced 5 (lit< tt)) in
    cc
sources_are (a ∷ b ∷ c ∷ d ∷ f ∷ g ∷ o ∷ os) e sourced = absurd (omega (arith, e))

orders_are : (orders : List (List ℕ)) → length orders ≡ 2 → ((k : ℕ) → k < 2 → is_store_order x k (slice_index_or orders k []) ≡ true)
    → orders ≡ (4 ∷ 0 ∷ []) ∷ (5 ∷ 1 ∷ []) ∷ []
orders_are [] e h = absurd (omega (arith, e))
orders_are (a ∷ []) e h = absurd (omega (arith, e))
orders_are (a ∷ b ∷ []) e h =
    let i = two_in_order a 4 0 refl (h 0 (lit< tt)) in
    let j = two_in_order b 5 1 refl (h 1 (lit< tt)) in
    cc
orders_are (a ∷ b ∷ c ∷ orders) e h = absurd (omega (arith, e))

module _ (p q : Box (Unit {0}) Global) where
  abbrev t : Test
  t = mp p q

  runs : (hart : ℕ) → hart < 2 → IsTrace t hart (steps_of overtaken.traces hart)
  runs zero h = storing 0 p q
  runs (suc zero) h = loading 0 p q 1 0 (lit< tt) (lit< tt)
  runs (suc (suc hart)) h = absurd (omega arith)

  -- y can hold 1, and x holds 0 at first
  flag : (k word : ℕ) → Some 4112 ≡ Some (address_of k) → Some 1 ≡ Some word → IsValue t k word
  flag zero word a l = let e : 4112 ≡ 4096 + 16 * 0 = same a in absurd (omega (arith, e))
  flag (suc zero) word a l = inl (inr (0, two_stores, lit< tt, storing 0 p q, stores_none _, inr (inr (inr (inl (refl, l))))))
  flag (suc (suc k)) word a l = let e : 4112 ≡ 4096 + 16 * suc (suc k) = same a in absurd (omega (arith, e))

  at_first : (k word : ℕ) → Some 4096 ≡ Some (address_of k) → Some 0 ≡ Some word → IsValue t k word
  at_first zero word a l = inl (inl l)
  at_first (suc k) word a l = let e : 4096 ≡ 4096 + 16 * suc k = same a in absurd (omega (arith, e))

  values : (hart : ℕ) → hart < 2 → LoadsFrom (IsValue t) (steps_of overtaken.traces hart)
  values zero h = stores_none (IsValue t)
  values (suc zero) h = two_load (IsValue t) _ _ flag at_first
  values (suc (suc hart)) h = absurd (omega arith)

  raw : IsRaw t overtaken
  raw = record {
    runs = record { harts = refl; runs = runs; values = values };
    sources_for_each = refl;
    sources = sources;
    locations = refl;
    orders = orders;
  }

  pub showing : IsShowing t overtaken
  showing = record {
    raw = raw;
    outcome = refl;
    own = (λ a s h e. absurd (never_own a s h e));
    latest = (λ a s m h w k before. absurd (never_first a s m h w before));
    atomic = (λ r w s before pair h. absurd (never_paired r w before pair));
  }

  pub stores_run : (ss : List Step) → IsTrace t 0 ss → ss ≡ two_stores
  stores_run ss run =
      let code = code_of t 0 in
      let h = start_with (registers_of t 0) in
      let a = computes 2 code h ss Ori 5 0 (pos 1) refl run in
      let i = after_step h (step_of h (Immediate Ori 5 0 (pos 1)) None) in
      let b = stores_next 2 code i a.rest 5 6 (pos 0) refl a.ends in
      let j = after_step i (step_of i (Sw plain 5 6 (pos 0)) None) in
      let c = computes 2 code j b.rest Ori 7 0 (pos 1) refl b.ends in
      let k = after_step j (step_of j (Immediate Ori 7 0 (pos 1)) None) in
      let d = stores_next 2 code k c.rest 7 8 (pos 0) refl c.ends in
      let done = at_end 2 code (after_step k (step_of k (Sw plain 7 8 (pos 0)) None)) d.rest (lit≤ tt) d.ends in
      followed a _ (followed b _ (followed c _ (followed d _ done)))

  loads_run : (ss : List Step) → IsTrace t 1 ss → (l m : ℕ) × (ss ≡ two_loads l m)
  loads_run ss run =
      let code = code_of t 1 in
      let h = start_with (registers_of t 1) in
      let a = loads_next 2 code h ss 5 6 (pos 0) refl run in
      let k = after_step h (step_of h (Lw plain 5 6 (pos 0)) (Some a.0)) in
      let b = loads_next 2 code k a.1.rest 7 8 (pos 0) refl a.1.ends in
      let done = at_end 2 code (after_step k (step_of k (Lw plain 7 8 (pos 0)) (Some b.0))) b.1.rest (lit≤ tt) b.1.ends in
      (a.0, b.0, followed a.1 _ (followed b.1 _ done))

  -- the outcome says what the loads return
  abbrev shows : Candidate → List (List Step) → Bool
  shows c runs = holds (final_register t runs) (last_word t c) (condition_of t.condition)

  returned : (c : Candidate) (l m : ℕ) → shows c (two_stores ∷ two_loads l m ∷ []) ≡ true → (l ≡ 1) × (m ≡ 0)
  returned c l m h =
      let parts = and_parts (l == 1) (m == 0) h in
      (eqb-true l 1 parts.0, eqb-true m 0 parts.1)

  traces_are : (c : Candidate) → IsShowing t c → c.traces ≡ two_stores ∷ two_loads 1 0 ∷ []
  traces_are c s =
      let first = stores_run (steps_of c.traces 0) (s.raw.runs.runs 0 (lit< tt)) in
      let second = loads_run (steps_of c.traces 1) (s.raw.runs.runs 1 (lit< tt)) in
      let both : c.traces ≡ two_stores ∷ two_loads second.0 second.1 ∷ [] = two_runs c.traces s.raw.runs.harts ∙ (let a = first in let b = second.2 in cc) in
      let words = returned c second.0 second.1 (subst (λ runs. shows c runs ≡ true) both s.outcome) in
      both ∙ (let a = words.0 in let b = words.1 in cc)

  abbrev run_with : List (List Step) → PreExecution
  run_with runs = record { traces = runs; words = 0 ∷ 0 ∷ [] }

  alone : (c : Candidate) → IsShowing t c → c ≡ overtaken
  alone c s =
      let traces = traces_are c s in
      let each = subst (λ runs. length c.source ≡ length (operations (run_with runs))) traces s.raw.sources_for_each in
      let sourced = subst (λ runs. (a : ℕ) → a < length c.source → is_sourced (run_with runs) a (rf c a) ≡ true) traces s.raw.sources in
      let ordered = subst (λ runs. (k : ℕ) → k < 2 → is_store_order (run_with runs) k (stores_to c k) ≡ true) traces s.raw.orders in
      let source = sources_are c.source each sourced in
      let orders = orders_are c.store_order s.raw.locations ordered in
      same_candidate c overtaken traces source orders

  pub listing : IsListing t (overtaken ∷ [])
  listing = record {
    rising = (λ i j d before low. absurd (omega (arith, before, low)));
    exact = (λ c. (λ there. shown c there, λ s. (0, lit< tt, sym (alone c s))));
  }
    where
      shown : (c : Candidate) → Contains (overtaken ∷ []) c → IsShowing t c
      shown c (zero, low, same) = subst (λ d. IsShowing t d) same showing
      shown c (suc k, low, same) = absurd (omega (arith, low))

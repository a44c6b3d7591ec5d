-- The operations of runs all of whose words are changed are those of the runs, with these words.
use Rattle.std.proofs.Common.{◌≡◌, ℕ, ◌+◌, Bool, true, false, cond, List, [], ◌∷◌, ◌++◌, map, filter, flat_map, length, Option, None, Some, refl, ap, sym, ◌∙◌}
use Rattle.std.specs.Prelude.{is_some, option_map, unwrap_or}
use Rattle.std.specs.List.{enumerate_from, slice_index_or}
use Rattle.std.proofs.Math.ListN.{get_or-map}
use Rattle.std.proofs.lemmas.List.{map-append, length-map}
use Rattle.fs_model.specs.declared.operation.Operation.{Operation}
use Rattle.fs_model.specs.declared.step.Step.{Step}
use Rattle.fs_model.specs.Operations.{PreExecution, access_of, accesses_of, accesses, initial_store, operations, operation, nothing, steps_of, trace_of}

module _ (f : ℕ → ℕ) where
  -- the same step, operation, runs and pre-execution with f of each word
  abbrev pub changed_step : Step → Step
  changed_step s =
      record {
        at = s.at;
        instr = s.instr;
        address = s.address;
        loaded = option_map f s.loaded;
        stored = option_map f s.stored;
      }

  abbrev pub changed_operation : Operation → Operation
  changed_operation o =
      record {
        hart = o.hart;
        place = o.place;
        instr = o.instr;
        address = o.address;
        loaded = option_map f o.loaded;
        stored = option_map f o.stored;
      }

  abbrev pub changed_traces : List (List Step) → List (List Step)
  changed_traces traces = map (map changed_step) traces

  abbrev pub changed : PreExecution → PreExecution
  changed x = record { traces = changed_traces x.traces; words = map f x.words }

  abbrev counted_from : (n : ℕ) → List Step → List (ℕ × Step)
  counted_from n steps = filter (λ numbered. is_some numbered.1.address) (enumerate_from n steps)

  abbrev accesses_from : (hart n : ℕ) → List Step → List Operation
  accesses_from hart n steps = map (access_of hart) (counted_from n steps)

  -- with that of a step before them, if it is one
  abbrev after_one : (hart n : ℕ) → Step → List Step → Bool → List Operation
  after_one hart n s ss c = map (access_of hart) (cond c ((n, s) ∷ counted_from (n + 1) ss) (counted_from (n + 1) ss))

  one_more : (hart n : ℕ) (s : Step) (ss : List Step) (c : Bool)
      → accesses_from hart (n + 1) (map changed_step ss) ≡ map changed_operation (accesses_from hart (n + 1) ss)
      → after_one hart n (changed_step s) (map changed_step ss) c ≡ map changed_operation (after_one hart n s ss c)
  one_more hart n s ss true rest = ap (λ os. changed_operation (access_of hart (n, s)) ∷ os) rest
  one_more hart n s ss false rest = rest

  hart_accesses : (hart n : ℕ) (steps : List Step)
      → accesses_from hart n (map changed_step steps) ≡ map changed_operation (accesses_from hart n steps)
  hart_accesses hart n [] = refl
  hart_accesses hart n (s ∷ ss) = one_more hart n s ss (is_some s.address) (hart_accesses hart (n + 1) ss)

  all_accesses : (n : ℕ) (ts : List (List Step))
      → flat_map accesses_of (enumerate_from n (changed_traces ts))
      ≡ map changed_operation (flat_map accesses_of (enumerate_from n ts))
  all_accesses n [] = refl
  all_accesses n (steps ∷ ts) =
      ap (λ os. os ++ flat_map accesses_of (enumerate_from (n + 1) (changed_traces ts))) (hart_accesses n 0 steps)
      ∙ ap (λ os. map changed_operation (accesses_of (n, steps)) ++ os) (all_accesses (n + 1) ts)
      ∙ sym (map-append changed_operation (accesses_of (n, steps)) (flat_map accesses_of (enumerate_from (n + 1) ts)))

  stores_changed : (n : ℕ) (ws : List ℕ)
      → map initial_store (enumerate_from n (map f ws))
      ≡ map changed_operation (map initial_store (enumerate_from n ws))
  stores_changed n [] = refl
  stores_changed n (w ∷ ws) = ap (λ os. initial_store (n, f w) ∷ os) (stores_changed (n + 1) ws)

  pub trace_changed : (traces : List (List Step)) (hart : ℕ)
      → steps_of (changed_traces traces) hart ≡ map changed_step (steps_of traces hart)
  trace_changed traces hart = get_or-map (map changed_step) traces hart []

  by_hart : (traces : List (List Step)) (h : Option ℕ) → unwrap_or (option_map (steps_of (changed_traces traces)) h) []
      ≡ map changed_step (unwrap_or (option_map (steps_of traces) h) [])
  by_hart traces None = refl
  by_hart traces (Some hart) = trace_changed traces hart

  module _ (x : PreExecution) where
    accesses_changed : accesses (changed x) ≡ map changed_operation (accesses x)
    accesses_changed = all_accesses 0 x.traces

    pub count_changed : length (accesses (changed x)) ≡ length (accesses x)
    count_changed = ap length accesses_changed ∙ length-map (accesses x) changed_operation

    pub operation_changed : (a : ℕ) → operation (changed x) a ≡ changed_operation (operation x a)
    operation_changed a =
        ap (λ os. slice_index_or (os ++ map initial_store (enumerate_from 0 (map f x.words))) a nothing)
        accesses_changed
        ∙ ap (λ os. slice_index_or (map changed_operation (accesses x) ++ os) a nothing) (stores_changed 0 x.words)
        ∙ ap (λ os. slice_index_or os a nothing)
        (sym (map-append changed_operation (accesses x) (map initial_store (enumerate_from 0 x.words))))
        ∙ get_or-map changed_operation (operations x) a nothing

    pub run_changed : (a : ℕ) → trace_of (changed x) a ≡ map changed_step (trace_of x a)
    run_changed a =
        ap (λ (o : Operation). unwrap_or (option_map (steps_of (changed_traces x.traces)) o.hart) [])
        (operation_changed a)
        ∙ by_hart x.traces (operation x a).hart

-- The operations of the emptied runs are those of the runs.
use Rattle.std.proofs.Common.{◌≡◌, ℕ, ◌+◌, Bool, true, false, cond, List, [], ◌∷◌, ◌++◌, map, filter, flat_map, Option, None, Some, refl, ap, sym, ◌∙◌}
use Rattle.std.specs.Prelude.{is_some, option_map, unwrap_or}
use Rattle.std.specs.List.{enumerate_from, slice_index_or}
use Rattle.std.proofs.lemmas.List.{map-append}
use Rattle.fs_kinds.specs.declared.kind.Classes.{Classes}
use Rattle.fs_model.specs.declared.operation.Operation.{Operation}
use Rattle.fs_model.specs.declared.step.Step.{Step}
use Rattle.fs_model.specs.Operations.{PreExecution, access_of, accesses_of, accesses, initial_store, operations, operation, nothing, place, steps_of, trace_of, classes, po, precedes}
use Rattle.fs_model_laws.proofs.FencedOperations.{index_mapped}
use Rattle.fs_model_laws.specs.InPlace.{emptied_instr}
use Rattle.fs_model_laws.proofs.Emptying.{emptied_step}

abbrev pub emptied_operation : Operation → Operation
emptied_operation o =
    record {
      hart = o.hart;
      place = o.place;
      instr = emptied_instr o.instr;
      address = o.address;
      loaded = o.loaded;
      stored = o.stored;
    }

abbrev pub emptied_traces : List (List Step) → List (List Step)
emptied_traces traces = map (map emptied_step) traces

abbrev counted_from : (n : ℕ) → List Step → List (ℕ × Step)
counted_from n steps = filter (λ numbered. is_some numbered.1.address) (enumerate_from n steps)

abbrev accesses_from : (hart n : ℕ) → List Step → List Operation
accesses_from hart n steps = map (access_of hart) (counted_from n steps)

one_more : (hart n : ℕ) (s : Step) (ss : List Step) (c : Bool)
    → accesses_from hart (n + 1) (map emptied_step ss) ≡ map emptied_operation (accesses_from hart (n + 1) ss)
    → map (access_of hart) (cond c ((n, emptied_step s) ∷ counted_from (n + 1) (map emptied_step ss)) (counted_from (n + 1) (map emptied_step ss)))
    ≡ map emptied_operation (map (access_of hart) (cond c ((n, s) ∷ counted_from (n + 1) ss) (counted_from (n + 1) ss)))
one_more hart n s ss true rest = ap (λ os. emptied_operation (access_of hart (n, s)) ∷ os) rest
one_more hart n s ss false rest = rest

hart_accesses : (hart n : ℕ) (steps : List Step)
    → accesses_from hart n (map emptied_step steps) ≡ map emptied_operation (accesses_from hart n steps)
hart_accesses hart n [] = refl
hart_accesses hart n (s ∷ ss) = one_more hart n s ss (is_some s.address) (hart_accesses hart (n + 1) ss)

all_accesses : (n : ℕ) (ts : List (List Step))
    → flat_map accesses_of (enumerate_from n (emptied_traces ts)) ≡ map emptied_operation (flat_map accesses_of (enumerate_from n ts))
all_accesses n [] = refl
all_accesses n (steps ∷ ts) =
    ap (λ os. os ++ flat_map accesses_of (enumerate_from (n + 1) (emptied_traces ts))) (hart_accesses n 0 steps)
    ∙ ap (λ os. map emptied_operation (accesses_of (n, steps)) ++ os) (all_accesses (n + 1) ts)
    ∙ sym (map-append emptied_operation (accesses_of (n, steps)) (flat_map accesses_of (enumerate_from (n + 1) ts)))

stores_stay : (zs : List (ℕ × ℕ)) → map emptied_operation (map initial_store zs) ≡ map initial_store zs
stores_stay [] = refl
stores_stay (z ∷ zs) = ap (λ os. initial_store z ∷ os) (stores_stay zs)

pub trace_emptied : (traces : List (List Step)) (hart : ℕ)
    → steps_of (emptied_traces traces) hart ≡ map emptied_step (steps_of traces hart)
trace_emptied traces hart = index_mapped (map emptied_step) traces hart []

by_hart : (traces : List (List Step)) (h : Option ℕ) → unwrap_or (option_map (steps_of (emptied_traces traces)) h) []
    ≡ map emptied_step (unwrap_or (option_map (steps_of traces) h) [])
by_hart traces None = refl
by_hart traces (Some hart) = trace_emptied traces hart

module _ (x : PreExecution) where
  -- the same with the emptied runs
  abbrev pub emptied_pre : PreExecution
  emptied_pre = record { traces = emptied_traces x.traces; words = x.words }

  pub accesses_emptied : accesses emptied_pre ≡ map emptied_operation (accesses x)
  accesses_emptied = all_accesses 0 x.traces

  pub operation_emptied : (a : ℕ) → operation emptied_pre a ≡ emptied_operation (operation x a)
  operation_emptied a =
      ap (λ os. slice_index_or (os ++ map initial_store (enumerate_from 0 x.words)) a nothing) accesses_emptied
      ∙ ap (λ os. slice_index_or (map emptied_operation (accesses x) ++ os) a nothing)
      (sym (stores_stay (enumerate_from 0 x.words)))
      ∙ ap (λ os. slice_index_or os a nothing)
      (sym (map-append emptied_operation (accesses x) (map initial_store (enumerate_from 0 x.words))))
      ∙ index_mapped emptied_operation (operations x) a nothing

  pub place_same : (a : ℕ) → place emptied_pre a ≡ place x a
  place_same a = ap (λ (o : Operation). o.place) (operation_emptied a)

  pub classes_same : (a : ℕ) → classes emptied_pre a ≡ classes x a
  classes_same a =
      let made : Operation → Classes = λ o. record { reads = is_some o.loaded; writes = is_some o.stored } in
      ap made (operation_emptied a)

  pub hart_same : (a : ℕ) → (operation emptied_pre a).hart ≡ (operation x a).hart
  hart_same a = ap (λ (o : Operation). o.hart) (operation_emptied a)

  pub order_same : (a b : ℕ) → po emptied_pre a b ≡ po x a b
  order_same a b =
      ap (λ o. precedes o (operation emptied_pre b)) (operation_emptied a)
      ∙ ap (precedes (emptied_operation (operation x a))) (operation_emptied b)

  pub run_same : (a : ℕ) → trace_of emptied_pre a ≡ map emptied_step (trace_of x a)
  run_same a =
      ap (λ h. unwrap_or (option_map (steps_of (emptied_traces x.traces)) h) []) (hart_same a)
      ∙ by_hart x.traces (operation x a).hart

-- The operations of the fenced runs: those of the runs, at their places there.
use Rattle.std.proofs.Common.{◌≡◌, ℕ, zero, suc, ◌+◌, Bool, true, false, cond, List, [], ◌∷◌, ◌++◌, map, filter, flat_map, Option, None, Some, refl, ap, sym, ◌∙◌, arith, add-zero}
use Rattle.std.specs.Prelude.{is_some, option_map, unwrap_or}
use Rattle.std.specs.List.{enumerate_from, slice_index_or}
use Rattle.std.proofs.lemmas.List.{map-append}
use Rattle.std.proofs.lemmas.Bool.{false≢true, eqb-true}
use Rattle.fs_kinds.specs.declared.kind.Kind.{Kind}
use Rattle.fs_kinds.specs.declared.placement.Entry.{Entry}
use Rattle.fs_kinds.specs.Placement.{kind_at}
use Rattle.fs_model.specs.Slots.{slot_at}
use Rattle.fs_model.specs.Fenced.{is_filled, moved}
use Rattle.fs_model.proofs.FencedPlaces.{bit}
use Rattle.fs_model.specs.declared.step.Step.{Step}
use Rattle.fs_model.specs.declared.operation.Operation.{Operation}
use Rattle.fs_model.specs.Numbers.{is_same}
use Rattle.fs_model.specs.Operations.{PreExecution, access_of, accesses_of, accesses, initial_store, operations, operation, nothing, place, steps_of, trace_of, same_hart}
use Rattle.fs_model_laws.specs.Fenced.{fence_steps, moved_step, fenced_steps, fenced_traces}
use Rattle.fs_model_laws.proofs.FencedSteps.{fenced_place}

-- what is at index k of a list made by numbers
pub index_numbered : {X Y : Type 0} (f : ℕ × X → Y) (d : X) (e : Y) → ((n : ℕ) → f (n, d) ≡ e) → (n : ℕ) (xs : List X) (k m : ℕ)
    → m ≡ n + k → slice_index_or (map f (enumerate_from n xs)) k e ≡ f (m, slice_index_or xs k d)
index_numbered f d e h n [] k m at = sym (h m)
index_numbered f d e h n (x ∷ xs) zero m at = let same : n ≡ m = omega (arith, at) in ap (λ i. f (i, x)) same
index_numbered f d e h n (x ∷ xs) (suc k) m at = index_numbered f d e h (n + 1) xs k m (omega (arith, at))

pub index_mapped : {X Y : Type 0} (f : X → Y) (xs : List X) (k : ℕ) (d : X)
    → slice_index_or (map f xs) k (f d) ≡ f (slice_index_or xs k d)
index_mapped f [] k d = refl
index_mapped f (x ∷ xs) zero d = refl
index_mapped f (x ∷ xs) (suc k) d = index_mapped f xs k d

-- the run of each hart
pub trace_fenced : (p : List Entry) (traces : List (List Step)) (hart : ℕ)
    → steps_of (fenced_traces p traces) hart ≡ fenced_steps p (hart, steps_of traces hart)
trace_fenced p traces hart = index_numbered (fenced_steps p) [] [] (λ n. refl) 0 traces hart hart (omega arith)

module _ (p : List Entry) (traces : List (List Step)) where
  abbrev pub moved_in : Option ℕ → Operation → Operation
  moved_in None o = o
  moved_in (Some hart) o =
      record {
        hart = o.hart;
        place = fenced_place p hart
            (steps_of traces hart) o.place;
        instr = moved p hart o.instr;
        address = o.address;
        loaded = o.loaded;
        stored = o.stored;
      }

  -- the operation as it is in the fenced run of its hart
  abbrev pub moved_operation : Operation → Operation
  moved_operation o = moved_in o.hart o

  abbrev accesses_from : (hart n : ℕ) → List Step → List Operation
  accesses_from hart n steps = map (access_of hart) (filter (λ numbered. is_some numbered.1.address) (enumerate_from n steps))

  one_access : (hart n : ℕ) (c : Bool) (s : Step) (rest : List (ℕ × Step))
      → map (access_of hart) (cond c ((n, s) ∷ rest) rest) ≡ cond c (access_of hart (n, s) ∷ map (access_of hart) rest)
      (map (access_of hart) rest)
  one_access hart n true s rest = refl
  one_access hart n false s rest = refl

  one_moved : (c : Bool) (o : Operation) (os : List Operation)
      → map moved_operation (cond c (o ∷ os) os) ≡ cond c (moved_operation o ∷ map moved_operation os) (map moved_operation os)
  one_moved true o os = refl
  one_moved false o os = refl

  -- an access, after its fence
  after_fence : (hart at m n : ℕ) (o : Option Kind) (u : Step) (rest : List Step) → n ≡ m + bit (is_some o)
      → accesses_from hart m ((fence_steps p hart at o ++ u ∷ []) ++ rest) ≡ cond (is_some u.address)
      (access_of hart (n, u) ∷ accesses_from hart (n + 1) rest) (accesses_from hart (n + 1) rest)
  after_fence hart at m n None u rest e =
      let same : m ≡ n = omega (arith, e) in
      ap (λ k. accesses_from hart k (u ∷ rest)) same
      ∙ one_access hart n (is_some u.address) u (filter (λ numbered. is_some numbered.1.address) (enumerate_from (n + 1) rest))
  after_fence hart at m n (Some kind) u rest e =
      let same : m + 1 ≡ n = omega (arith, e) in
      ap (λ k. accesses_from hart k (u ∷ rest)) same
      ∙ one_access hart n (is_some u.address) u (filter (λ numbered. is_some numbered.1.address) (enumerate_from (n + 1) rest))

  hart_accesses : (hart n m : ℕ) (steps : List Step)
      → ((k : ℕ) → fenced_place p hart (steps_of traces hart) (n + k) ≡ m + fenced_place p hart steps k)
      → accesses_from hart m (fenced_steps p (hart, steps)) ≡ map moved_operation (accesses_from hart n steps)
  hart_accesses hart n m [] h = refl
  hart_accesses hart n m (s ∷ ss) h =
      let there = m + bit (is_filled p hart s.at) in
      let first : fenced_place p hart (steps_of traces hart) n ≡ there = ap (fenced_place p hart (steps_of traces hart))
      (sym (add-zero n)) ∙ h 0 in
      let rest = hart_accesses hart (n + 1) (there + 1) ss
      (λ k. ap (fenced_place p hart (steps_of traces hart)) (omega arith) ∙ h (suc k) ∙ omega arith) in
      let one : access_of hart (there, moved_step p hart s) ≡ moved_operation (access_of hart (n, s)) = ap
      (λ k. access_of hart (k, moved_step p hart s)) (sym first) in
      after_fence hart s.at m there (kind_at (slot_at hart s.at) p) (moved_step p hart s) (fenced_steps p (hart, ss)) refl
      ∙ ap (λ o. cond (is_some s.address) (o ∷ accesses_from hart (there + 1) (fenced_steps p (hart, ss)))
      (accesses_from hart (there + 1) (fenced_steps p (hart, ss)))) one
      ∙ ap (λ os. cond (is_some s.address) (moved_operation (access_of hart (n, s)) ∷ os) os) rest
      ∙ sym (one_moved (is_some s.address) (access_of hart (n, s)) (accesses_from hart (n + 1) ss))
      ∙ ap (map moved_operation) (sym
      (one_access hart n (is_some s.address) s (filter (λ numbered. is_some numbered.1.address) (enumerate_from (n + 1) ss))))

  all_accesses : (n : ℕ) (ts : List (List Step)) → ((k : ℕ) → steps_of traces (n + k) ≡ slice_index_or ts k [])
      → flat_map accesses_of (enumerate_from n (map (fenced_steps p) (enumerate_from n ts))) ≡ map moved_operation
      (flat_map accesses_of (enumerate_from n ts))
  all_accesses n [] h = refl
  all_accesses n (steps ∷ ts) h =
      let own : steps_of traces n ≡ steps = ap (steps_of traces) (sym (add-zero n)) ∙ h 0 in
      let first = hart_accesses n 0 0 steps
      (λ k. let same : 0 + k ≡ k = omega arith in let here = ap (fenced_place p n steps) same in ap
      (λ ss. fenced_place p n ss (0 + k)) own ∙ omega (arith, here)) in
      let rest = all_accesses (n + 1) ts (λ k. ap (steps_of traces) (omega arith) ∙ h (suc k)) in
      ap (λ os. os ++ flat_map accesses_of (enumerate_from (n + 1) (map (fenced_steps p) (enumerate_from (n + 1) ts)))) first
      ∙ ap (λ os. map moved_operation (accesses_of (n, steps)) ++ os) rest
      ∙ sym (map-append moved_operation (accesses_of (n, steps)) (flat_map accesses_of (enumerate_from (n + 1) ts)))

  stores_stay : (zs : List (ℕ × ℕ)) → map moved_operation (map initial_store zs) ≡ map initial_store zs
  stores_stay [] = refl
  stores_stay (z ∷ zs) = ap (λ os. initial_store z ∷ os) (stores_stay zs)

module _ (p : List Entry) (x : PreExecution) where
  -- the same with the fenced runs
  abbrev pub fenced_pre : PreExecution
  fenced_pre = record { traces = fenced_traces p x.traces; words = x.words }

  pub accesses_moved : accesses fenced_pre ≡ map (moved_operation p x.traces) (accesses x)
  accesses_moved = all_accesses p x.traces 0 x.traces (λ k. ap (steps_of x.traces) (omega arith))

  pub operation_moved : (a : ℕ) → operation fenced_pre a ≡ moved_operation p x.traces (operation x a)
  operation_moved a =
      ap (λ os. slice_index_or (os ++ map initial_store (enumerate_from 0 x.words)) a nothing) accesses_moved
      ∙ ap (λ os. slice_index_or (map (moved_operation p x.traces) (accesses x) ++ os) a nothing)
      (sym (stores_stay p x.traces (enumerate_from 0 x.words)))
      ∙ ap (λ os. slice_index_or os a nothing)
      (sym (map-append (moved_operation p x.traces) (accesses x) (map initial_store (enumerate_from 0 x.words))))
      ∙ index_mapped (moved_operation p x.traces) (operations x) a nothing

  -- an operation of a hart, in both
  pub place_moved : (a hart : ℕ) → (operation x a).hart ≡ Some hart
      → place fenced_pre a ≡ fenced_place p hart (steps_of x.traces hart) (place x a)
  place_moved a hart e = ap (λ o. o.place) (operation_moved a) ∙ ap (λ h. (moved_in p x.traces h (operation x a)).place) e

  pub trace_was : (a hart : ℕ) → (operation x a).hart ≡ Some hart → trace_of x a ≡ steps_of x.traces hart
  trace_was a hart e = ap (λ h. unwrap_or (option_map (steps_of x.traces) h) []) e

  same_in : (h : Option ℕ) (o : Operation) → (moved_in p x.traces h o).hart ≡ o.hart
  same_in None o = refl
  same_in (Some hart) o = refl

  pub hart_kept : (a : ℕ) → (operation fenced_pre a).hart ≡ (operation x a).hart
  hart_kept a = ap (λ o. o.hart) (operation_moved a) ∙ same_in (operation x a).hart (operation x a)

  pub trace_moved : (a hart : ℕ) → (operation x a).hart ≡ Some hart
      → trace_of fenced_pre a ≡ fenced_steps p (hart, steps_of x.traces hart)
  trace_moved a hart e =
      ap (λ h. unwrap_or (option_map (steps_of fenced_pre.traces) h) []) (hart_kept a ∙ e) ∙ trace_fenced p x.traces hart

-- operations of one hart
same_number : (h k : Option ℕ) → is_same h k ≡ true → (hart : ℕ) × (h ≡ Some hart) × (k ≡ Some hart)
same_number None k e = absurd (false≢true e)
same_number (Some a) None e = absurd (false≢true e)
same_number (Some a) (Some b) e = (a, refl, ap Some (sym (eqb-true a b e)))

pub one_hart : (x : PreExecution) (a b : ℕ) → same_hart x a b ≡ true
    → (hart : ℕ) × ((operation x a).hart ≡ Some hart) × ((operation x b).hart ≡ Some hart)
one_hart x a b e = same_number (operation x a).hart (operation x b).hart e

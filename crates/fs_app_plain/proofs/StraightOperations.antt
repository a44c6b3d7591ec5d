-- Runs that differ in the targets of branches, and in steps at their ends that access nothing, have the same operations.
use Rattle.std.proofs.Common.{◌≡◌, ℕ, zero, suc, ◌+◌, ◌<◌, Bool, true, false, cond, List, [], ◌∷◌, ◌++◌, map, filter, flat_map, length, Some, refl, ap, sym, ◌∙◌, arith}
use Rattle.std.specs.Prelude.{is_some, option_map, slice_get}
use Rattle.std.specs.List.{enumerate_from, slice_index_or}
use Rattle.std.proofs.Math.ListN.{get_or-map}
use Rattle.std.proofs.lemmas.List.{map-append, length-map}
use Rattle.fs_model.specs.declared.operation.Operation.{Operation}
use Rattle.fs_model.specs.declared.step.Step.{Step}
use Rattle.fs_model.specs.Operations.{PreExecution, access_of, accesses_of, accesses, initial_store, operations, operation, nothing, steps_of, instr_at}
use Rattle.fs_app_plain.proofs.StraightSteps.{bare, bare_step}
use Rattle.fs_app_plain.proofs.StraightRuns.{Tails}

abbrev pub bare_operation : Operation → Operation
bare_operation o =
    record { hart = o.hart; place = o.place; instr = bare o.instr; address = o.address; loaded = o.loaded; stored = o.stored }

abbrev counted_from : (n : ℕ) → List Step → List (ℕ × Step)
counted_from n steps = filter (λ numbered. is_some numbered.1.address) (enumerate_from n steps)

abbrev accesses_from : (hart n : ℕ) → List Step → List Operation
accesses_from hart n steps = map bare_operation (map (access_of hart) (counted_from n steps))

-- with that of a step before them, if it is one
abbrev after_one : (hart n : ℕ) → Step → List Step → Bool → List Operation
after_one hart n s ss c =
    map bare_operation (map (access_of hart) (cond c ((n, s) ∷ counted_from (n + 1) ss) (counted_from (n + 1) ss)))

one_more : (hart n : ℕ) (s u : Step) (ss us : List Step) (c : Bool) → bare_step s ≡ bare_step u
    → accesses_from hart (n + 1) ss ≡ accesses_from hart (n + 1) us → after_one hart n s ss c ≡ after_one hart n u us c
one_more hart n s u ss us true e rest =
    ap (λ v. access_of hart (n, v) ∷ accesses_from hart (n + 1) ss) e ∙ ap (λ os. access_of hart (n, bare_step u) ∷ os) rest
one_more hart n s u ss us false e rest = rest

hart_accesses : (hart n : ℕ) (ss us : List Step) → Tails ss us → accesses_from hart n ss ≡ accesses_from hart n us
hart_accesses hart n [] [] t = refl
hart_accesses hart n [] (u ∷ us) t =
    hart_accesses hart (n + 1) [] us t.1 ∙ ap (after_one hart n u us) (sym (ap is_some t.0))
hart_accesses hart n (s ∷ ss) [] t = absurd t
hart_accesses hart n (s ∷ ss) (u ∷ us) t =
    one_more hart n s u ss us (is_some s.address) t.0 (hart_accesses hart (n + 1) ss us t.1)
    ∙ ap (after_one hart n u us) (ap (λ (v : Step). is_some v.address) t.0)

all_accesses : (n : ℕ) (xs ys : List (List Step)) → length xs ≡ length ys
    → ((k : ℕ) → Tails (slice_index_or xs k []) (slice_index_or ys k []))
    → map bare_operation (flat_map accesses_of (enumerate_from n xs))
    ≡ map bare_operation (flat_map accesses_of (enumerate_from n ys))
all_accesses n [] [] long tails = refl
all_accesses n [] (y ∷ ys) long tails = absurd (omega (arith, long))
all_accesses n (x ∷ xs) [] long tails = absurd (omega (arith, long))
all_accesses n (x ∷ xs) (y ∷ ys) long tails =
    let rest = all_accesses (n + 1) xs ys (omega (arith, long)) (λ k. tails (suc k)) in
    map-append bare_operation (accesses_of (n, x)) (flat_map accesses_of (enumerate_from (n + 1) xs))
    ∙ ap (λ os. os ++ map bare_operation (flat_map accesses_of (enumerate_from (n + 1) xs))) (hart_accesses n 0 x y (tails 0))
    ∙ ap (λ os. map bare_operation (accesses_of (n, y)) ++ os) rest
    ∙ sym (map-append bare_operation (accesses_of (n, y)) (flat_map accesses_of (enumerate_from (n + 1) ys)))

-- ---- the steps of the first run

pub step_same : (ss us : List Step) (k : ℕ) → k < length ss → Tails ss us
    → option_map bare_step (slice_get us k) ≡ option_map bare_step (slice_get ss k)
step_same [] us k low t = absurd (omega (arith, low))
step_same (s ∷ ss) [] k low t = absurd t
step_same (s ∷ ss) (u ∷ us) zero low t = ap Some (sym t.0)
step_same (s ∷ ss) (u ∷ us) (suc k) low t = step_same ss us k (omega (arith, low)) t.1

pub instr_same : (ss us : List Step) (k : ℕ) → k < length ss → Tails ss us → bare (instr_at us k) ≡ bare (instr_at ss k)
instr_same [] us k low t = absurd (omega (arith, low))
instr_same (s ∷ ss) [] k low t = absurd t
instr_same (s ∷ ss) (u ∷ us) zero low t = ap (λ (v : Step). v.instr) (sym t.0)
instr_same (s ∷ ss) (u ∷ us) (suc k) low t = instr_same ss us k (omega (arith, low)) t.1

module _ (x y : PreExecution) (words : y.words ≡ x.words) (long : length x.traces ≡ length y.traces)
    (tails : (k : ℕ) → Tails (steps_of x.traces k) (steps_of y.traces k)) where
  accesses_same : map bare_operation (accesses x) ≡ map bare_operation (accesses y)
  accesses_same = all_accesses 0 x.traces y.traces long tails

  pub count_same : length (accesses y) ≡ length (accesses x)
  count_same =
      sym (length-map (accesses y) bare_operation) ∙ ap length (sym accesses_same) ∙ length-map (accesses x) bare_operation

  operations_same : map bare_operation (operations x) ≡ map bare_operation (operations y)
  operations_same =
      map-append bare_operation (accesses x) (map initial_store (enumerate_from 0 x.words))
      ∙ ap (λ os. os ++ map bare_operation (map initial_store (enumerate_from 0 x.words))) accesses_same
      ∙ ap (λ ws. map bare_operation (accesses y) ++ map bare_operation (map initial_store (enumerate_from 0 ws))) (sym words)
      ∙ sym (map-append bare_operation (accesses y) (map initial_store (enumerate_from 0 y.words)))

  pub operation_same : (a : ℕ) → bare_operation (operation y a) ≡ bare_operation (operation x a)
  operation_same a =
      sym (get_or-map bare_operation (operations y) a nothing)
      ∙ ap (λ os. slice_index_or os a nothing) (sym operations_same)
      ∙ get_or-map bare_operation (operations x) a nothing

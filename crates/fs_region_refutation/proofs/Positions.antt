-- Tables by positions: what they have, and that past the code there is nothing.
use Rattle.std.proofs.Common.{◌≡◌, ℕ, ◌+◌, ◌≤◌, ◌==◌, inl, inr, Bool, true, false, not, ◌&&◌, Option, None, Some, option_map, option_and_then, unwrap_or, List, [], ◌∷◌, map, length, get_or, refl, sym, ◌∙◌, ap, arith}
use Rattle.std.specs.Prelude.{slice_get, if◌then◌else◌}
use Rattle.std.specs.List.{position, position_or_len}
use Rattle.std.proofs.lemmas.Bool.{cases_lt, eqb-true, ne_eqb, lt-ltb, le-ltb}
use Rattle.std.proofs.lemmas.List.{get_or_past, length-map}
use Rattle.std.proofs.lemmas.List.Folds.{find_at}
use Rattle.std.proofs.lemmas.List.FromFn.{length-map-range_with_len, get_or-map-range_with_len}
use Rattle.std.proofs.lemmas.Option.{slice_get-get_or, slice_get_past}
use Rattle.fs_model.specs.declared.operation.Operation.{Operation}
use Rattle.fs_model.specs.declared.step.Step.{Step}
use Rattle.fs_model.specs.declared.test.Test.{Test}
use Rattle.fs_model.specs.Execution.{IsTrace, code_of, registers_of}
use Rattle.fs_model.specs.Numbers.{is_same, numbers_below}
use Rattle.fs_model.specs.Operations.{PreExecution, accesses, nothing, operation, operations, place, steps_of}
use Rattle.fs_model.specs.Trace.{start_with}
use Rattle.fs_model.specs.Witness.{name_of, step_name}
use Rattle.fs_model.proofs.WhichOperation.{length_operations, no_hart_past}
use Rattle.fs_cand.proofs.RunNames.{in_code}
use Rattle.fs_verdict_laws.specs.Local.{place_of}
use Rattle.fs_cert_evidence.specs.Musts.{has_name, number_of}
use Rattle.fs_cert_evidence.specs.Regions.{step_at}
use Rattle.fs_region_refutation.specs.inner.Tables.{listed_at, name_at, is_at, position_in}
use Rattle.fs_region_refutation.proofs.Found.{none_at, found_below}

-- ---- a table of a function

pub listed : (f : ℕ → Option ℕ) (n at : ℕ) → (n ≤ at → f at ≡ None) → listed_at (map f (numbers_below n)) at ≡ f at
listed f n at past = elim (cases_lt at n) [
  | inl low ↦ get_or-map-range_with_len f 0 n at at None low (omega arith)
  | inr high ↦ (let long = length-map-range_with_len f 0 n in get_or_past (map f (numbers_below n)) at None (omega (arith, high, long)) ∙ sym (past high))
]

-- ---- the first of a list by what a function makes of it

first_of : {X Y : Type 0} (f : X → Y) (p : Y → Bool) (q : X → Bool) → ((x : X) → p (f x) ≡ q x) → (xs : List X)
    → position_or_len p (map f xs) ≡ position_or_len q xs
first_of f p q same [] = refl
first_of f p q same (x ∷ xs) =
    ap (λ (b : Bool). if not b then 1 + position_or_len p (map f xs) else 0) (same x)
    ∙ ap (λ (n : ℕ). if not (q x) then 1 + n else 0) (first_of f p q same xs)

pub position_of : {X Y : Type 0} (f : X → Y) (p : Y → Bool) (q : X → Bool) → ((x : X) → p (f x) ≡ q x) → (xs : List X)
    → position p (map f xs) ≡ position q xs
position_of f p q same xs = rw (first_of f p q same xs, length-map xs f) refl

-- ---- the number of an operation by its name

-- the position of an operation is the one
is_position : (hart at : ℕ) (steps : List Step) (o : Operation) → is_same (position_in hart steps o) (Some at) ≡ is_at hart steps at o
is_position hart at steps o = by_hart (is_same o.hart (Some hart)) (slice_get steps o.place)
  where
    by_hart : (b : Bool) (step : Option Step) → is_same (if b then option_map (λ s. s.at) step else None) (Some at)
        ≡ (b && unwrap_or (option_map (λ s. s.at == at) step) false)
    by_hart true None = refl
    by_hart true (Some s) = refl
    by_hart false step = refl

pub number_among : (hart at : ℕ) (steps : List Step) (os : List Operation)
    → position (λ p. is_same p (Some at)) (map (position_in hart steps) os) ≡ position (is_at hart steps at) os
number_among hart at steps os =
    position_of (position_in hart steps) (λ p. is_same p (Some at)) (is_at hart steps at) (is_position hart at steps) os

-- the hart is the one, and the step has the position
abbrev stands_at : (hart h at : ℕ) → Option Step → Bool
stands_at hart h at step = (h == hart) && unwrap_or (option_map (λ s. s.at == at) step) false

by_step : (hart h at : ℕ) (step : Option Step) → stands_at hart h at step ≡ has_name (option_map (step_name h) step) (name_at hart at)
by_step hart h at None = no_step (h == hart)
  where
    no_step : (b : Bool) → (b && false) ≡ false
    no_step true = refl
    no_step false = refl
by_step hart h at (Some s) = refl

by_hart : (traces : List (List Step)) (hart h at k : ℕ) → stands_at hart h at (slice_get (steps_of traces hart) k) ≡ stands_at hart h at (slice_get (steps_of traces h) k)
by_hart traces hart h at k = by_same (h == hart) refl
  where
    by_same : (b : Bool) → (h == hart) ≡ b → stands_at hart h at (slice_get (steps_of traces hart) k) ≡ stands_at hart h at (slice_get (steps_of traces h) k)
    by_same true e = ap (λ (i : ℕ). stands_at hart h at (slice_get (steps_of traces i) k)) (sym (eqb-true h hart e))
    by_same false e = rw e refl

named_at : (traces : List (List Step)) (k : ℕ) (o : Option ℕ) (hart at : ℕ)
    → (is_same o (Some hart) && unwrap_or (option_map (λ s. s.at == at) (slice_get (steps_of traces hart) k)) false)
    ≡ has_name (option_and_then (λ h. option_map (step_name h) (slice_get (unwrap_or (option_map (steps_of traces) o) []) k)) o) (name_at hart at)
named_at traces k None hart at = refl
named_at traces k (Some h) hart at = by_hart traces hart h at k ∙ by_step hart h at (slice_get (steps_of traces h) k)

pub number_is : (x : PreExecution) (hart at : ℕ) → position (is_at hart (steps_of x.traces hart) at) (operations x) ≡ number_of x (name_at hart at)
number_is x hart at =
    let long = length_operations x in
    found_below (is_at hart (steps_of x.traces hart) at) (operations x) nothing (λ a. has_name (name_of x a) (name_at hart at)) (length (accesses x))
    (omega (arith, long))
    (λ k low. named_at x.traces (place x k) (operation x k).hart hart at)
    (λ k past. ap (λ o. has_name (option_and_then (λ h. option_map (step_name h) (slice_get (unwrap_or (option_map (steps_of x.traces) o) []) (place x k))) o) (name_at hart at)) (no_hart_past x k past))

-- ---- the step that executes an instruction

pub step_is : (run : List Step) (at : ℕ) → option_and_then (slice_get run) (place_of run at) ≡ step_at run at
step_is run at =
    elim (cases_lt (position_or_len (λ (s : Step). s.at == at) run) (length run)) [
      | inl low ↦ (
          ap (λ (b : Bool). option_and_then (slice_get run) (if b then Some (position_or_len (λ (s : Step). s.at == at) run) else None)) (lt-ltb (position_or_len (λ (s : Step). s.at == at) run) (length run) low)
          ∙ sym (find_at (λ (s : Step). s.at == at) run))
      | inr past ↦ (
          ap (λ (b : Bool). option_and_then (slice_get run) (if b then Some (position_or_len (λ (s : Step). s.at == at) run) else None)) (le-ltb (position_or_len (λ (s : Step). s.at == at) run) (length run) past)
          ∙ sym (find_at (λ (s : Step). s.at == at) run ∙ slice_get_past run (position_or_len (λ (s : Step). s.at == at) run) past))
    ]

-- ---- past the code

not_there : (t : Test) (hart : ℕ) (run : List Step) → IsTrace t hart run → (at : ℕ) → length (code_of t hart) ≤ at → (j : ℕ) (s : Step)
    → slice_get run j ≡ Some s → (s.at == at) ≡ false
not_there t hart run is at past j s e =
    let low = in_code (length t.locations) (code_of t hart) (start_with (registers_of t hart)) run j s is.0 e in
    ne_eqb s.at at (λ same. omega (arith, low, past, same))

pub no_place : (t : Test) (hart : ℕ) (run : List Step) → IsTrace t hart run → (at : ℕ) → length (code_of t hart) ≤ at → place_of run at ≡ None
no_place t hart [] is at past = refl
no_place t hart (s ∷ ss) is at past =
    none_at (λ u. u.at == at) (s ∷ ss) s (λ j low. not_there t hart (s ∷ ss) is at past j (get_or (s ∷ ss) j s) (slice_get-get_or (s ∷ ss) j s low))

-- nor is an operation
never_at : (hart : ℕ) (run : List Step) (at : ℕ) → ((j : ℕ) (s : Step) → slice_get run j ≡ Some s → (s.at == at) ≡ false) → (o : Operation)
    → is_at hart run at o ≡ false
never_at hart run at none o = by_step_there (is_same o.hart (Some hart)) (slice_get run o.place) refl
  where
    by_step_there : (b : Bool) (step : Option Step) → slice_get run o.place ≡ step → (b && unwrap_or (option_map (λ s. s.at == at) step) false) ≡ false
    by_step_there true None e = refl
    by_step_there true (Some s) e = none o.place s e
    by_step_there false step e = refl

pub no_number : (t : Test) (hart : ℕ) (run : List Step) → IsTrace t hart run → (at : ℕ) → length (code_of t hart) ≤ at → (os : List Operation)
    → position (is_at hart run at) os ≡ None
no_number t hart run is at past os =
    none_at (is_at hart run at) os nothing (λ j low. never_at hart run at (not_there t hart run is at past) (get_or os j nothing))

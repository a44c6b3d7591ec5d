-- The operations of runs whose words have 32 bits load and store such words. So the axioms hold of them where they hold
-- of the operations with all words extended.
use Rattle.std.proofs.Common.{◌≡◌, ℕ, ◌+◌, ◌<◌, ◌^◌, Bool, true, false, cond, List, [], ◌∷◌, map, filter, flat_map, length, All, Option, Some, None, refl, sym, ap, subst, inl, inr, arith}
use Rattle.std.specs.Prelude.{is_some, option_map, option_and_then, unwrap_or}
use Rattle.std.specs.List.{enumerate_from, last_or}
use Rattle.std.proofs.lemmas.Bool.{cases_lt}
use Rattle.std.proofs.lemmas.List.{get_or_past}
use Rattle.std.proofs.lemmas.List.Elements.{All-nil, All-cons, All-head, All-tail, All-append, All-map, All-get_or, All-from_get_or}
use Rattle.fs_kinds.specs.declared.placement.Entry.{Entry}
use Rattle.fs_model.specs.declared.operation.Operation.{Operation}
use Rattle.fs_model.specs.declared.step.Step.{Step}
use Rattle.fs_model.specs.declared.test.Test.{Test}
use Rattle.fs_model.specs.Operations.{PreExecution, access_of, accesses_of, accesses, initial_store, operations, operation, nothing, steps_of}
use Rattle.fs_model.specs.Executions.{source_in, last_word, is_store_to, gmo}
use Rattle.fs_model.specs.Execution.{ObeysAxioms, pre_execution, initial_words}
use Rattle.fs_values.specs.ThinAir.{BeginsWithWords}
use Rattle.fs_app_plain.specs.Instructions64.{extended}
use Rattle.fs_app_plain.specs.Wide as wide
use Rattle.fs_app_plain.specs.Wide.{extended_step}
use Rattle.fs_app_plain.proofs.Given.{AreWords, FitsIfThere, WordLaws}
use Rattle.fs_app_plain.proofs.ForthSteps.{StepFits}
use Rattle.fs_app_plain.proofs.ForthAxioms.{axioms_there, axioms_from}

pub record OperationFits (o : Operation) : Type 0 where
  pub loaded : FitsIfThere o.loaded
  pub stored : FitsIfThere o.stored

nothing_fits : OperationFits nothing
nothing_fits = record { loaded = tt; stored = tt }

-- ---- the steps of runs

abbrev accesses_from : (hart n : ℕ) → List Step → List Operation
accesses_from hart n steps =
    map (access_of hart) (filter (λ numbered. is_some numbered.1.address) (enumerate_from n steps))

one_more : (hart n : ℕ) (s : Step) (c : Bool) (zs : List (ℕ × Step)) → StepFits s
    → All OperationFits (map (access_of hart) zs) → All OperationFits (map (access_of hart) (cond c ((n, s) ∷ zs) zs))
one_more hart n s true zs fits rest =
    All-cons OperationFits (access_of hart (n, s)) (map (access_of hart) zs)
    (record { loaded = fits.loaded; stored = fits.stored }) rest
one_more hart n s false zs fits rest = rest

hart_fits : (hart n : ℕ) (ss : List Step) → All StepFits ss → All OperationFits (accesses_from hart n ss)
hart_fits hart n [] fit = All-nil OperationFits
hart_fits hart n (s ∷ ss) fit =
    one_more hart n s (is_some s.address) (filter (λ numbered. is_some numbered.1.address) (enumerate_from (n + 1) ss))
    (All-head StepFits s ss fit) (hart_fits hart (n + 1) ss (All-tail StepFits s ss fit))

all_fit : (n : ℕ) (traces : List (List Step)) → All (All StepFits) traces
    → All OperationFits (flat_map accesses_of (enumerate_from n traces))
all_fit n [] fit = All-nil OperationFits
all_fit n (ss ∷ traces) fit =
    All-append OperationFits (accesses_of (n, ss)) (flat_map accesses_of (enumerate_from (n + 1) traces))
    (hart_fits n 0 ss (All-head (All StepFits) ss traces fit))
    (all_fit (n + 1) traces (All-tail (All StepFits) ss traces fit))

-- ---- the initial stores

initial_fit : (n : ℕ) (ws : List ℕ) → AreWords ws → All OperationFits (map initial_store (enumerate_from n ws))
initial_fit n [] fit = All-nil OperationFits
initial_fit n (w ∷ ws) fit =
    All-cons OperationFits (initial_store (n, w)) (map initial_store (enumerate_from (n + 1) ws))
    (record { loaded = tt; stored = All-head (λ v. v < 2 ^ 32) w ws fit })
    (initial_fit (n + 1) ws (All-tail (λ v. v < 2 ^ 32) w ws fit))

module _ (x : PreExecution) (runs : All (All StepFits) x.traces) (words : AreWords x.words) where
  pub operation_fits : (a : ℕ) → OperationFits (operation x a)
  operation_fits a =
      let all =
      All-append OperationFits (accesses x) (map initial_store (enumerate_from 0 x.words)) (all_fit 0 x.traces runs)
      (initial_fit 0 x.words words) in
      elim (cases_lt a (length (operations x))) [
        | inl low ↦ All-get_or OperationFits (operations x) a nothing low all
        | inr past ↦ subst OperationFits (sym (get_or_past (operations x) a nothing past)) nothing_fits
      ]

  word_fits : (o : Option ℕ) → FitsIfThere (option_and_then (λ s. (operation x s).stored) o)
  word_fits None = tt
  word_fits (Some s) = (operation_fits s).stored

  or_zero : (o : Option ℕ) → FitsIfThere o → unwrap_or o 0 < 2 ^ 32
  or_zero None h = omega arith
  or_zero (Some w) h = h

  pub last_fits : (order : List ℕ) (location : ℕ) → last_word x order location < 2 ^ 32
  last_fits order location =
      let last = last_or None (filter (is_store_to x location) (gmo x order)) in
      or_zero (option_and_then (λ a. (operation x a).stored) last) (word_fits last)

  module _ (laws : WordLaws) where
    same_option : (u v : Option ℕ) → FitsIfThere u → FitsIfThere v → option_map extended u ≡ option_map extended v
        → u ≡ v
    same_option None None h k e = refl
    same_option None (Some w) h k e = absurd (cc)
    same_option (Some v) None h k e = absurd (cc)
    same_option (Some v) (Some w) h k e =
        let same : extended v ≡ extended w = ap (λ o. unwrap_or o 0) e in
        ap (λ n. Some n) (laws.injective v w h k same)

    pub read_back : (order : List ℕ) (a : ℕ) → option_map extended (operation x a).loaded
        ≡ option_map extended (option_and_then (λ s. (operation x s).stored) (source_in x order a))
        → (operation x a).loaded ≡ option_and_then (λ s. (operation x s).stored) (source_in x order a)
    read_back order a e =
        same_option (operation x a).loaded (option_and_then (λ s. (operation x s).stored) (source_in x order a))
        (operation_fits a).loaded (word_fits (source_in x order a)) e

-- ---- of a test

-- by harts
pub traces_fit : (traces : List (List Step)) → ((hart : ℕ) → hart < length traces → All StepFits (steps_of traces hart))
    → All (All StepFits) traces
traces_fit traces h = All-from_get_or (All StepFits) traces [] h

pub initial_are_words : (t : Test) → BeginsWithWords t → AreWords (initial_words t)
initial_are_words t words = All-map (λ w. w < 2 ^ 32) (λ location. location.word) t.locations words

pub axioms_extended : (t : Test) (traces : List (List Step)) (p : List Entry) (order : List ℕ)
    → ObeysAxioms (pre_execution t traces) p order
    → ObeysAxioms (wide.pre_execution t (map (map extended_step) traces)) p order
axioms_extended t traces p order obeys = axioms_there extended (pre_execution t traces) order p obeys

pub axioms_back : (laws : WordLaws) (t : Test) (traces : List (List Step)) → All (All StepFits) traces
    → BeginsWithWords t → (p : List Entry) (order : List ℕ)
    → ObeysAxioms (wide.pre_execution t (map (map extended_step) traces)) p order
    → ObeysAxioms (pre_execution t traces) p order
axioms_back laws t traces fit words p order obeys =
    let x = pre_execution t traces in
    axioms_from extended x order p (read_back x fit (initial_are_words t words) laws order) obeys

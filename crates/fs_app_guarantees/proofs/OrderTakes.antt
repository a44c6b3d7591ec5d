-- A witness gives an execution with rw,rw in every slot, as `order` has it, exactly where it gives one of the program
-- with these fences.
use Rattle.std.proofs.Common.{◌≡◌, ℕ, zero, suc, ◌+◌, ◌-◌, ◌<◌, ◌≤◌, Bool, true, inl, inr, Some, List, [], ◌∷◌, map, length, refl, ap, ap₂, sym, subst, ◌∙◌, arith}
use Rattle.std.specs.Prelude.{◌↔◌}
use Rattle.std.specs.List.{slice_index_or}
use Rattle.std.proofs.lemmas.Bool.{cases_order, or_right}
use Rattle.std.proofs.lemmas.List.{length-map}
use Rattle.fs_kinds.specs.declared.placement.Entry.{Entry}
use Rattle.fs_kinds.specs.declared.reason.OperationName.{OperationName as Name}
use Rattle.fs_model.specs.declared.test.Test.{Test}
use Rattle.fs_model.specs.Allows.{RefutesAll, full_fences}
use Rattle.fs_model.specs.Choices.{choices_of}
use Rattle.fs_model.specs.Execution as placed
use Rattle.fs_model.specs.Execution.{Execution}
use Rattle.fs_model.specs.Executions.{pre_execution}
use Rattle.fs_model.specs.Fenced.{fenced, is_filled}
use Rattle.fs_model.specs.Moved.{place}
use Rattle.fs_model.specs.Numbers.{has_number}
use Rattle.fs_model.specs.OfTests.{program_of, outcome_of, has_outcome}
use Rattle.fs_model.specs.Operations.{PreExecution, accesses, steps_of}
use Rattle.fs_model.specs.Reasons.{IsYes}
use Rattle.fs_model.specs.Witness.{Witness, IsOfWitness, name_of}
use Rattle.fs_model.proofs.FencedPlaces.{count, count_last}
use Rattle.fs_model.proofs.FencedSteps.{length-fenced_codes}
use Rattle.fs_model.proofs.HartOperations.{has_name}
use Rattle.fs_model.proofs.ListedNumbers.{has-here}
use Rattle.fs_model.proofs.OnceListed.{order_below}
use Rattle.fs_model_laws.specs.Fenced.{fenced_execution, fenced_traces}
use Rattle.fs_model_laws.proofs.FencedChoices.{keeps_choices}
use Rattle.fs_model_laws.proofs.FencedExecutions.{execution_back}
use Rattle.fs_model_laws.proofs.FencedLaw as no_fence
use Rattle.fs_model_laws.proofs.FencedOperations.{fenced_pre, index_mapped, trace_fenced}
use Rattle.fs_model_laws.proofs.FencedOutcome.{outcome_same}
use Rattle.fs_model_laws.proofs.NoPlacement as no_placement
use Rattle.fs_app_guarantees.specs.Meanings.{ShowsOutcome, moved_name}
use Rattle.fs_app_guarantees.proofs.FullFences.{name_moved, shows}

-- ---- no two instructions come to one place

grows : (f : ℕ → Bool) (k d m : ℕ) → m ≡ k + d → count f 0 k ≤ count f 0 m
grows f k zero m e = let same : m ≡ k = omega (arith, e) in subst (λ n. count f 0 k ≤ count f 0 n) (sym same) (omega arith)
grows f k (suc d) m e =
    let last = count_last f 0 (k + d) (k + d) (omega arith) in
    let rest = grows f k d (k + d) refl in
    let same : m ≡ suc (k + d) = omega (arith, e) in
    subst (λ n. count f 0 k ≤ count f 0 n) (sym same) (omega (arith, last, rest))

module _ (p : List Entry) (hart : ℕ) where
  later : (a b : ℕ) → a < b → place p hart a ≡ place p hart b → ⊥
  later a b low e =
      let more = grows (is_filled p hart) (a + 1) (b - a) (b + 1) (omega (arith, low)) in
      omega (arith, low, e, more)

  one_place : (a b : ℕ) → place p hart a ≡ place p hart b → a ≡ b
  one_place a b e = elim (cases_order a b) [
    | inl same ↦ same
    | inr other ↦ (elim other [
      | inl low ↦ absurd (later a b low e)
      | inr low ↦ absurd (later b a low (sym e))
    ])
  ]

one_name : (p : List Entry) (n m : Name) → moved_name p n ≡ moved_name p m → n ≡ m
one_name p n m e =
    let hart : n.hart ≡ m.hart = ap (λ (x : Name). x.hart) e in
    let there : place p n.hart n.at ≡ place p m.hart m.at = ap (λ (x : Name). x.at) e in
    let at : n.at ≡ m.at = one_place p m.hart n.at m.at (sym (ap (λ h. place p h n.at) hart) ∙ there) in
    ap (λ h. record { hart = h; at = n.at }) hart ∙ ap (λ k. record { hart = m.hart; at = k }) at

-- ---- the witness of the execution without these fences

module _ (p : List Entry) (x : PreExecution) where
  names_were : (order : List ℕ) (names : List Name) → ((a : ℕ) → has_number order a ≡ true → a < length (accesses x))
      → map (name_of (fenced_pre p x)) order ≡ map (λ name. Some (moved_name p name)) names
      → map (name_of x) order ≡ map (λ name. Some name) names
  names_were [] [] below e = refl
  names_were [] (n ∷ names) below e = absurd (cc)
  names_were (a ∷ order) [] below e = absurd (cc)
  names_were (a ∷ order) (n ∷ names) below e =
      let whole : name_of (fenced_pre p x) a ∷ map (name_of (fenced_pre p x)) order ≡ Some (moved_name p n) ∷ map (λ name. Some (moved_name p name)) names = e in
      let first : name_of (fenced_pre p x) a ≡ Some (moved_name p n) = cc in
      let rest : map (name_of (fenced_pre p x)) order ≡ map (λ name. Some (moved_name p name)) names = cc in
      let found = has_name x a (below a (has-here a order a refl)) in
      let both : Some (moved_name p found.0) ≡ Some (moved_name p n) = sym (name_moved p x a found.0 found.1) ∙ first in
      let moved : moved_name p found.0 ≡ moved_name p n = cc in
      ap₂ (λ y ys. y ∷ ys) (found.1 ∙ ap (λ m. Some m) (one_name p found.0 n moved))
      (names_were order names (λ b there. below b (or_right _ _ there)) rest)

-- of the execution from which the fenced one comes
was : (t : Test) (w : Witness) (s : ShowsOutcome (program_of t) (outcome_of t) w) (e : Execution) → placed.IsExecution t (full_fences t) e
    → fenced_execution (full_fences t) e ≡ s.execution → IsOfWitness t w e × (has_outcome t e ≡ true)
was t w s e is same =
    let p = full_fences t in
    let x = pre_execution (program_of t) e.traces in
    let choices : map choices_of (fenced_traces p e.traces) ≡ w.choices = ap (λ (u : Execution). map choices_of u.traces) same ∙ s.choices in
    let names : map (name_of (fenced_pre p x)) e.order ≡ map (λ name. Some (moved_name p name)) w.order =
    ap (λ (u : Execution). map (name_of (pre_execution (program_of (fenced t p)) u.traces)) u.order) same ∙ s.order in (
      record {
        lists = sym (ap length s.choices) ∙ length-map s.execution.traces choices_of ∙ s.is_execution.harts ∙ length-fenced_codes p t.codes;
        harts = is.harts;
        runs = λ hart low. (
          is.runs hart low,
          ap (λ cs. slice_index_or cs hart []) (sym choices)
              ∙ index_mapped choices_of (fenced_traces p e.traces) hart []
              ∙ ap choices_of (trace_fenced p e.traces hart)
              ∙ sym (keeps_choices t p hart (choices_of (steps_of e.traces hart)) (steps_of e.traces hart) (is.runs hart low, refl)).1,
        );
        order = names_were p x e.order w.order (order_below x e.order is.axioms.once) names;
      },
      sym (outcome_same t p e) ∙ ap (has_outcome (fenced t p)) same ∙ s.shows,
    )

yes : (t : Test) (w : Witness) → ShowsOutcome (program_of t) (outcome_of t) w → IsYes t (full_fences t) w
yes t w s =
    let u = fenced t (full_fences t) in
    let back =
    execution_back t (full_fences t) s.execution
    ((no_fence.same_executions u s.execution).0 ((no_placement.same_executions u s.execution).0 s.is_execution)) in
    let given = was t w s back.0 back.1 back.2 in
    (back.0, given.0, back.1, given.1)

shown : (t : Test) (w : Witness) → IsYes t (full_fences t) w → ShowsOutcome (program_of t) (outcome_of t) w
shown t w (e, given, is, outcome) =
    let refutes : RefutesAll t e = record { execution = is; outcome = outcome } in
    shows t w e given refutes

pub takes : (t : Test) (w : Witness) → ShowsOutcome (program_of t) (outcome_of t) w ↔ IsYes t (full_fences t) w
takes t w = (yes t w, shown t w)

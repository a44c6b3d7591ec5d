-- Rows of a candidate and of placed fences, joined.
use Rattle.std.proofs.Common.{◌≡◌, ℕ, ◌+◌, ◌<◌, ◌&&◌, ◌||◌, Bool, true, false, List, [], length, refl, sym, ◌∙◌, ap, inl, inr, arith}
use Rattle.std.specs.Prelude.{nat_lt}
use Rattle.std.specs.List.{list_any}
use Rattle.std.proofs.lemmas.Bool.{false≢true, or_left, and_from, lt-ltb, cases_Bool}
use Rattle.fs_kinds.specs.declared.placement.Entry.{Entry}
use Rattle.fs_model.specs.declared.test.Test.{Test}
use Rattle.fs_model.specs.Numbers.{between}
use Rattle.fs_model.specs.Operations.{PreExecution, accesses, operations, classes, place, trace_of, instr_at, po}
use Rattle.fs_model.specs.Fences.{fence_between, instr_orders, kind_orders, placed_before}
use Rattle.fs_model.specs.Preserved.{Rule4, rule}
use Rattle.fs_model.proofs.ByRule.{any_there}
use Rattle.fs_model.proofs.WhichOperation.{length_operations}
use Rattle.fs_cert_evidence.specs.Candidates.{Candidate, IsRaw, runs_of, rf}
use Rattle.fs_cert_evidence.specs.Judged.{is_judged}
use Rattle.fs_verdict_laws.proofs.JudgedEdges.{edge_low, edge_from}
use Rattle.fs_verdict_laws.proofs.FenceEdges.{fences_add}
use Rattle.fs_verdict_laws.proofs.Rules.{judged_ppo}
use Rattle.fs_cand_witness.specs.Fencing.{is_fenced}

-- where the one part gives the other already
absorbed : (judged before written placed : Bool) → ((before && written) ≡ true → judged ≡ true)
    → (judged || (before && (written || placed))) ≡ (judged || (before && placed))
absorbed true before written placed gives = refl
absorbed false false written placed gives = refl
absorbed false true false placed gives = refl
absorbed false true true placed gives = absurd (false≢true (gives refl))

pub joined : (t : Test) (p : List Entry) (c : Candidate) (a b : ℕ)
    → is_judged (runs_of t c) p c a b ≡ (is_judged (runs_of t c) [] c a b || is_fenced (runs_of t c) p a b)
joined t p c a b =
    fences_add t p c a b
    ∙ absorbed (is_judged x [] c a b) (po x a b) written placed
    (λ holds. judged_ppo t [] c a b (any_there (rule x [] (rf c) a b) Rule4 (in_rule (po x a b) written _ holds)))
  where
    x : PreExecution
    x = runs_of t c

    written : Bool
    written = list_any (λ k. instr_orders (classes x a) (classes x b) (instr_at (trace_of x a) k)) (between (place x a) (place x b))

    placed : Bool
    placed = list_any (λ k. kind_orders (classes x a) (classes x b) (placed_before x p a k)) (between (place x a) (place x b + 1))

    in_rule : (before written placed : Bool) → (before && written) ≡ true → (before && (written || placed)) ≡ true
    in_rule true true placed h = refl
    in_rule true false placed h = absurd (false≢true h)
    in_rule false written placed h = absurd (false≢true h)

pub among : (t : Test) (p : List Entry) (c : Candidate) (a b : ℕ) → IsRaw t c → is_judged (runs_of t c) p c a b ≡ true
    → (a < length (operations (runs_of t c))) × (b < length (operations (runs_of t c)))
among t p c a b raw edge =
    let low = edge_low t p c raw a b edge in
    let many = length_operations (runs_of t c) in
    (edge_from t p c raw a b edge, omega (arith, low, many))

pub unbounded : (n a b : ℕ) (judged : Bool) → (judged ≡ true → (a < n) × (b < n)) → (nat_lt a n && (nat_lt b n && judged)) ≡ judged
unbounded n a b true within = let low = within refl in rw (lt-ltb a n low.0, lt-ltb b n low.1) refl
unbounded n a b false within = none (nat_lt a n) (nat_lt b n)
  where
    none : (u v : Bool) → (u && (v && false)) ≡ false
    none true true = refl
    none true false = refl
    none false v = refl

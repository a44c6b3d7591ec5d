-- An operation is known by its name: the hart and the position of its instruction.
use Rattle.std.proofs.Common.{◌≡◌, ℕ, zero, suc, ◌<◌, ◌≤◌, inl, inr, Option, None, Some, option_map, option_and_then, List, [], ◌∷◌, length, refl, ap, subst, arith}
use Rattle.std.specs.Prelude.{slice_get, unwrap_or}
use Rattle.std.proofs.lemmas.Bool.{cases_lt, cases_eq}
use Rattle.std.proofs.lemmas.Option.{slice_get_within}
use Rattle.fs_instr.specs.declared.instr.Instr.{Instr}
use Rattle.fs_kinds.specs.declared.reason.OperationName.{OperationName as Name}
use Rattle.fs_model.specs.Test.{GoesForward}
use Rattle.fs_model.specs.declared.hart.Hart.{Hart}
use Rattle.fs_model.specs.declared.step.Step.{Step}
use Rattle.fs_model.specs.Trace.{AreSteps, after_step, start_with}
use Rattle.fs_model.specs.Operations.{PreExecution, operation, place, steps_of}
use Rattle.fs_model.specs.Witness.{name_of}
use Rattle.fs_model.proofs.OptionalNumbers.{same_from}
use Rattle.fs_model.proofs.HartOperations.{in_list}
use Rattle.fs_model.proofs.ProgramOrder.{below_po, po_place}
use Rattle.fs_hart.proofs.Forward.{goes_on}

-- ---- a run goes forward in the code

later_at : (n : ℕ) (code : List Instr) (h : Hart) (steps : List Step) (j : ℕ) (u : Step) → GoesForward code → AreSteps n code h steps → slice_get steps j ≡ Some u → h.at ≤ u.at
later_at n code h [] j u f r e = let none : None ≡ Some u = e in cc
later_at n code h (s ∷ ss) zero u f r e = let same : Some s ≡ Some u = e in let one : s ≡ u = cc in omega (arith, r.0.0, ap (λ z. z.at) one)
later_at n code h (s ∷ ss) (suc j) u f r e =
    let next = goes_on code h.at h.registers s.instr f (slice_get_within code h.at s.instr r.0.1) r.0.1 in
    let rest = later_at n code (after_step h s) ss j u f r.1 e in
    omega (arith, next.0, rest)

pub rises : (n : ℕ) (code : List Instr) (h : Hart) (steps : List Step) (i j : ℕ) (s u : Step) → GoesForward code → AreSteps n code h steps
    → i < j → slice_get steps i ≡ Some s → slice_get steps j ≡ Some u → s.at < u.at
rises n code h [] i j s u f r low e k = let none : None ≡ Some s = e in cc
rises n code h (v ∷ ss) i zero s u f r low e k = absurd (omega (arith, low))
rises n code h (v ∷ ss) zero (suc j) s u f r low e k =
    let same : Some v ≡ Some s = e in
    let one : v ≡ s = cc in
    let next = goes_on code h.at h.registers v.instr f (slice_get_within code h.at v.instr r.0.1) r.0.1 in
    let rest = later_at n code (after_step h v) ss j u f r.1 k in
    omega (arith, next.0, rest, r.0.0, ap (λ z. z.at) one)
rises n code h (v ∷ ss) (suc i) (suc j) s u f r low e k = rises n code (after_step h v) ss i j s u f r.1 (omega (arith, low)) e k

-- ---- names

-- what an operation's name says of it
pub record IsNamed (x : PreExecution) (a : ℕ) (name : Name) : Type 0 where
  pub hart : (operation x a).hart ≡ Some name.hart
  pub step : (s : Step) × (slice_get (steps_of x.traces name.hart) (place x a) ≡ Some s) × (s.at ≡ name.at)

from_step : (hart : ℕ) (o : Option Step) (name : Name) → option_map (λ s. record { hart = hart; at = s.at }) o ≡ Some name → (hart ≡ name.hart) × ((s : Step) × (o ≡ Some s) × (s.at ≡ name.at))
from_step hart None name e = absurd (let none : None ≡ Some name = e in cc)
from_step hart (Some s) name e =
    let same : Some (record { hart = hart; at = s.at }) ≡ Some name = e in
    let one : record { hart = hart; at = s.at } ≡ name = cc in
    (ap (λ n. n.hart) one, (s, refl, ap (λ n. n.at) one))

from_hart : (traces : List (List Step)) (k : ℕ) (o : Option ℕ) (name : Name)
    → option_and_then (λ hart. option_map (λ s. record { hart = hart; at = s.at }) (slice_get (unwrap_or (option_map (steps_of traces) o) []) k)) o ≡ Some name
    → (o ≡ Some name.hart) × ((s : Step) × (slice_get (steps_of traces name.hart) k ≡ Some s) × (s.at ≡ name.at))
from_hart traces k None name e = absurd (let none : None ≡ Some name = e in cc)
from_hart traces k (Some hart) name e =
    let parts = from_step hart (slice_get (steps_of traces hart) k) name e in
    (ap Some parts.0, subst (λ h. (s : Step) × (slice_get (steps_of traces h) k ≡ Some s) × (s.at ≡ name.at)) parts.0 parts.1)

pub named : (x : PreExecution) (a : ℕ) (name : Name) → name_of x a ≡ Some name → IsNamed x a name
named x a name e = let parts = from_hart x.traces (place x a) (operation x a).hart name e in record { hart = parts.0; step = parts.1 }

-- each run is one of its hart's code, which branches forward
abbrev pub AreRuns : List (List Step) → Type 0
AreRuns traces = (hart : ℕ) → hart < length traces → (n : ℕ) × (registers : List ℕ) × (code : List Instr) × GoesForward code × AreSteps n code (start_with registers) (steps_of traces hart)

-- an operation that is earlier than another has another name
differ : (x : PreExecution) (a b : ℕ) (name : Name) → AreRuns x.traces → a < b → IsNamed x a name → IsNamed x b name → ⊥
differ x a b name runs low p q =
    let s = p.step in
    let u = q.step in
    let forward = po_place x a b (below_po x a b (same_from (operation x a).hart (operation x b).hart name.hart p.hart q.hart) low) in
    let run = runs name.hart (in_list x.traces name.hart (place x a) s.0 s.1) in
    let at = rises run.0 run.2 (start_with run.1) (steps_of x.traces name.hart) (place x a) (place x b) s.0 u.0 run.3 run.4 forward s.1 u.1 in
    omega (arith, at, s.2, u.2)

-- a name is that of one operation only
pub one_named : (x : PreExecution) (a b : ℕ) (name : Name) → AreRuns x.traces → name_of x a ≡ Some name → name_of x b ≡ Some name → a ≡ b
one_named x a b name runs e k = elim (cases_eq a b) [
  | inl same ↦ same
  | inr ne ↦ absurd (elim (cases_lt a b) [
    | inl low ↦ differ x a b name runs low (named x a name e) (named x b name k)
    | inr high ↦ differ x b a name runs (omega (arith, high, ne)) (named x b name k) (named x a name e)
  ])
]

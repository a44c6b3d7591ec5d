-- The names of the operations of a witness's runs: each is that of one operation, and its numbers are small.
use Rattle.std.proofs.Common.{◌≡◌, ℕ, zero, suc, ◌<◌, ◌≤◌, None, Some, List, [], ◌∷◌, length, refl, ap, arith}
use Rattle.std.specs.Prelude.{All, slice_get}
use Rattle.std.proofs.lemmas.Bool.{and_from, lt-ltb}
use Rattle.std.proofs.lemmas.List.Elements.{All-get_or}
use Rattle.std.proofs.lemmas.Option.{slice_get_within}
use Rattle.fs_instr.specs.declared.instr.Instr.{Instr}
use Rattle.fs_kinds.specs.declared.reason.OperationName.{OperationName as Name}
use Rattle.fs_model.specs.declared.test.Test.{Test}
use Rattle.fs_model.specs.Test.{GoesForward, IsBounded}
use Rattle.fs_model.specs.declared.hart.Hart.{Hart}
use Rattle.fs_model.specs.declared.step.Step.{Step}
use Rattle.fs_model.specs.Trace.{AreSteps, after_step, start_with}
use Rattle.fs_model.specs.Operations.{steps_of}
use Rattle.fs_model.specs.Execution.{pre_execution, code_of, registers_of}
use Rattle.fs_model.specs.Witness.{Witness, name_of}
use Rattle.fs_model.specs.Reasons.{AreRuns}
use Rattle.fs_cert_evidence.specs.WitnessFile.{in_range}
use Rattle.fs_model.proofs.HartOperations.{in_list}
use Rattle.fs_cand.proofs.Distinct.{one_named, named}
use Rattle.fs_cand.proofs.Distinct as distinct
use Rattle.fs_cand.proofs.NamedOrder.{NamesInRange}

-- a step stands in the code
pub in_code : (n : ℕ) (code : List Instr) (h : Hart) (steps : List Step) (j : ℕ) (u : Step) → AreSteps n code h steps → slice_get steps j ≡ Some u → u.at < length code
in_code n code h [] j u r e = absurd (let none : None ≡ Some u = e in cc)
in_code n code h (s ∷ ss) zero u r e =
    let same : Some s ≡ Some u = e in
    let one : s ≡ u = cc in
    let low = slice_get_within code h.at s.instr r.0.1 in
    omega (arith, low, r.0.0, ap (λ z. z.at) one)
in_code n code h (s ∷ ss) (suc j) u r e = in_code n code (after_step h s) ss j u r.1 e

small_name : (n : Name) → n.hart < 256 → n.at < 256 → in_range n ≡ Some n
small_name n low small = rw (and_from _ _ (lt-ltb _ _ low) (lt-ltb _ _ small)) refl

module _ (t : Test) (w : Witness) (traces : List (List Step)) (runs : AreRuns t w traces) where
  steps_are : (hart : ℕ) → hart < length traces → AreSteps (length t.locations) (code_of t hart) (start_with (registers_of t hart)) (steps_of traces hart)
  steps_are hart low = (runs.whole hart (omega (arith, low, runs.harts))).0.0

  forward_runs : All GoesForward t.codes → distinct.AreRuns traces
  forward_runs forward hart low = (
    length t.locations,
    registers_of t hart,
    code_of t hart,
    All-get_or GoesForward t.codes hart [] (omega (arith, low, runs.harts)) forward,
    steps_are hart low,
  )

  -- a name is that of one operation
  pub known : All GoesForward t.codes → (a b : ℕ) (n : Name) → name_of (pre_execution t traces) a ≡ Some n
      → name_of (pre_execution t traces) b ≡ Some n → a ≡ b
  known forward a b n e k = one_named (pre_execution t traces) a b n (forward_runs forward) e k

  -- its numbers are small
  pub ranged : IsBounded t → NamesInRange (pre_execution t traces)
  ranged bounded a n e =
      let of = named (pre_execution t traces) a n e in
      let s = of.step in
      let low = in_list traces n.hart _ s.0 s.1 in
      let at = in_code _ _ _ _ _ s.0 (steps_are n.hart low) s.1 in
      let few = All-get_or (λ code. length code ≤ 32) t.codes n.hart [] (omega (arith, low, runs.harts)) bounded.lengths in
      small_name n (omega (arith, low, runs.harts, bounded.harts)) (omega (arith, at, few, s.2))

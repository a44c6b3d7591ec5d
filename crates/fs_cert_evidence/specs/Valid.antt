-- What certificates show: for a placement one cycle for each showing candidate, or a refutation; for none an execution
-- that shows the outcome with rw,rw in every slot.
use Rattle.std.specs.Prelude.{◌≡◌, ℕ, Some, List, [], ◌∷◌, slice_get}
use Rattle.fs_kinds.specs.declared.placement.Entry.{Entry}
use Rattle.fs_model.specs.declared.test.Test.{Test}
use Rattle.fs_model.specs.Execution.{Execution}
use Rattle.fs_model.specs.Allows.{RefutesAll}
use Rattle.fs_model.specs.Witness.{Witness, IsOfWitness}
use Rattle.fs_cert_evidence.specs.Shown.{ShowsAs}
use Rattle.fs_cert_evidence.specs.Certificate.{Certificate, NoneForbids, Cycles, Listed, Inferred, IsEmpty}
use Rattle.fs_cert_evidence.specs.Cycles.{HasCycles}
use Rattle.fs_cert_evidence.specs.Trees.{IsRefuted}

-- ---- what shows that the placement forbids the outcome

abbrev pub Forbid : Test → List Entry → Cycles → Type 0
Forbid t p (Listed cycles) = HasCycles t p cycles
Forbid t p (Inferred inferences) = IsRefuted t p inferences

-- ---- what shows that a placement allows it

-- the witness of this number gives this execution, and it shows the outcome with these fences
abbrev pub RefutesBy : Test → List Witness → List Entry → ℕ → Execution → Type 0
RefutesBy t witnesses p j e = (w : Witness) × (slice_get witnesses j ≡ Some w) × ShowsAs t p w e

-- it gives an execution that does so
abbrev pub Refutes : Test → List Witness → List Entry → ℕ → Type 0
Refutes t witnesses p j = (e : Execution) × RefutesBy t witnesses p j e

-- ---- a certificate

-- a valid certificate for none
pub record IsValidForNone (t : Test) (c : Certificate) : Type 0 where
  pub answered : c.answer ≡ NoneForbids
  pub cycles : IsEmpty c.cycles
  pub tree : c.tree ≡ []
  pub witness : Witness
  pub only : c.witnesses ≡ witness ∷ []
  pub execution : Execution
  pub given : IsOfWitness t witness execution
  pub refutes : RefutesAll t execution

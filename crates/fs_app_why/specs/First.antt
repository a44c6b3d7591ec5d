-- Which of several witnesses is told: the first that shows the outcome.
use Rattle.std.specs.Prelude.{◌≡◌, ◌<◌, ℕ, List, Some, slice_get}
use Rattle.fs_kinds.specs.declared.placement.Entry.{Entry}
use Rattle.fs_model.specs.declared.test.Test.{Test}
use Rattle.fs_model.specs.Witness.{Witness}
use Rattle.fs_cert_evidence.specs.declared.witness.WitnessFile.{WitnessFile as File}
use Rattle.fs_cert_evidence.specs.Shown.{IsShownBy}
use Rattle.fs_cert_evidence.specs.WitnessFile.{KeepsWitness}
use Rattle.fs_check.specs.declared.ordered.OrderedCandidate.{OrderedCandidate}
use Rattle.fs_check.specs.Ordered.{execution_in}
use Rattle.fs_app_why.specs.Reordered.{IsToldOf}

-- those before this number say none that shows the outcome with these fences
abbrev pub NoneBefore : Test → List Entry → List File → ℕ → Type 0
NoneBefore t p files n =
    (k : ℕ) (file : File) → k < n → slice_get files k ≡ Some file → (w : Witness) → KeepsWitness file w → IsShownBy t p w → ⊥

-- what none of them says shows the outcome with these fences
abbrev pub NoneShows : Test → List File → List Entry → Type 0
NoneShows t files p =
    (k : ℕ) (file : File) → slice_get files k ≡ Some file → (w : Witness) → KeepsWitness file w → IsShownBy t p w → ⊥

-- the runs with their order are told of the first of them that shows the outcome with these fences
pub record IsOfFirst (t : Test) (p : List Entry) (files : List File) (o : OrderedCandidate) : Type 0 where
  pub number : ℕ
  pub file : File
  pub at : slice_get files number ≡ Some file
  pub earlier : NoneBefore t p files number
  pub is_of : (w : Witness) → KeepsWitness file w → IsToldOf t p w (execution_in o)

-- Why what a certificate shows is refused: the first reason in the order in which they stand here.
use Rattle.std.specs.Prelude.{◌≡◌, ◌≢◌, ℕ, ◌+◌, Option, None, Some, if◌then◌else◌, List, [], ◌∷◌, ◌++◌, All, length, take, slice_get}
use Rattle.std.specs.List.{AllZip}
use Rattle.fs_kinds.specs.declared.placement.Entry.{Entry}
use Rattle.fs_kinds.specs.declared.reason.Reason.{Reason}
use Rattle.fs_kinds.specs.declared.reason.Reason.TheVariants as reason
use Rattle.fs_model.specs.declared.test.Test.{Test}
use Rattle.fs_model.specs.declared.step.Step.{Step}
use Rattle.fs_cert_evidence.specs.Candidates.{Candidate}
use Rattle.fs_cert_evidence.specs.Listings.{IsListing}
use Rattle.fs_model.specs.Witness.{Witness}
use Rattle.fs_cert_evidence.specs.Certificate.{Link, Inference, Cycles, Listed, Inferred}
use Rattle.fs_cert_evidence.specs.Cycles.{IsCycle}
use Rattle.fs_cert_evidence.specs.Regions.{Region}
use Rattle.fs_cert_evidence.specs.Trees.{follows, left_after, roots, AreItsRuns}
use Rattle.fs_cert_evidence.specs.Valid.{Refutes}

-- the cycle of this number isn't one of its candidate, and each earlier one is
pub record IsFirstBad (t : Test) (p : List Entry) (cs : List Candidate) (cycles : List (List Link)) (index : ℕ) : Type 0 where
  pub candidate : Candidate
  pub links : List Link
  pub the_candidate : slice_get cs index ≡ Some candidate
  pub the_links : slice_get cycles index ≡ Some links
  pub bad : IsCycle t p candidate links → ⊥
  pub earlier : AllZip (IsCycle t p) (take index cs) (take index cycles)

-- The reason against these inferences as a tree of these regions: the first that can't be drawn, where the first of
-- them has the number k in the whole tree; or one is missing or left over.
abbrev pub first_wrong : Test → List Entry → List Region → List Inference → (k : ℕ) → Option Reason
first_wrong t p [] [] k = None
first_wrong t p [] (inference ∷ inferences) k = Some reason.Cycles
first_wrong t p (region ∷ regions) [] k = Some reason.Cycles
first_wrong t p (region ∷ regions) (inference ∷ inferences) k =
    if follows t p region inference
    then first_wrong t p (left_after t region inference ++ regions) inferences (k + 1)
    else Some (reason.Cycle k)

-- the reason against a list of cycles: there isn't one for each showing candidate, or one isn't its candidate's
abbrev pub IsListRefusal : Test → List Entry → List Candidate → List (List Link) → Reason → Type 0
IsListRefusal t p cs cycles reason.Cycles = length cycles ≢ length cs
IsListRefusal t p cs cycles (reason.Cycle index) = (length cycles ≡ length cs) × IsFirstBad t p cs cycles index
IsListRefusal t p cs cycles other = ⊥

-- the reason against what is to show that the placement forbids the outcome
abbrev pub IsCyclesRefusal : Test → List Entry → Cycles → Reason → Type 0
IsCyclesRefusal t p (Listed cycles) why = (cs : List Candidate) × IsListing t cs × IsListRefusal t p cs cycles why
IsCyclesRefusal t p (Inferred inferences) why =
    (runs : ℕ → List (List Step)) × AreItsRuns t runs × (first_wrong t p (roots t runs) inferences 0 ≡ Some why)

-- of these witnesses j is the first that gives no execution with these fences that shows the outcome
abbrev pub IsFirstUnshown : Test → List Witness → List Entry → List ℕ → ℕ → Type 0
IsFirstUnshown t witnesses p js j =
    (before : List ℕ) × (after : List ℕ) × (js ≡ before ++ j ∷ after) × All (Refutes t witnesses p) before × (Refutes t witnesses p j → ⊥)

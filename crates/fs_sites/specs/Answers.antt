-- The answer to a question, and why there may be none.
use Rattle.std.specs.Prelude.{◌≡◌, ◌⊎◌, ℕ, Some, List, slice_get}
use Rattle.fs_kinds.specs.declared.fault.Fault.{Fault}
use Rattle.fs_kinds.specs.declared.fault.Fault.TheVariants.{NodeLimit}
use Rattle.fs_kinds.specs.declared.placement.Entry.{Entry}
use Rattle.fs_kinds.specs.Placement.{slots_of}
use Rattle.fs_model.specs.declared.test.Test.{Test}
use Rattle.fs_model.specs.Allows.{Shows}
use Rattle.fs_model.specs.Execution.{Execution}
use Rattle.fs_board_offers.specs.Offers.{cost}
use Rattle.fs_cert_evidence.specs.CandidateFaults.{IsCandidateFault}
use Rattle.fs_cert_evidence.specs.Evidence.{Shown, IsWitnessAt}
use Rattle.fs_sites.specs.Questions.{Question, Part, image, top, IsCheapestIn}
use Rattle.fs_sites.specs.declared.answer.Answer.{Answer}
use Rattle.fs_sites.specs.declared.answer.Answer.TheVariants as answer

-- the witness, whose widths are those at the placement's slots, gives an execution that shows the outcome with these
-- fences too
abbrev pub IsShownUnder : Test → List Entry → Shown → Type 0
IsShownUnder t p witness = (e : Execution) × IsWitnessAt t (slots_of p) witness e × Shows t p e

-- the witness, whose widths are those at the places, gives an execution that shows the outcome of the test of this
-- number with these fences of the sites
abbrev pub IsShownIn : List Part → List Entry → ℕ → Shown → Type 0
IsShownIn parts p number witness =
    (part : Part) × (slice_get parts number ≡ Some part) × IsShownUnder part.test (image part.places p) witness

-- The cheapest placement that forbids each outcome, and of those the first, with its cost; or a witness that one test's
-- outcome is allowed even with rw,rw at each site.
abbrev pub IsAnswer : Question → Answer → Type 0
IsAnswer q (answer.Fenced p n) = IsCheapestIn q p × (n ≡ cost q.offers p)
IsAnswer q (answer.None number witness) = IsShownIn q.parts (top q.offers) number witness

-- the fault of a test whose candidates can't be listed
abbrev pub IsPartFault : List Part → Fault → Type 0
IsPartFault parts f = (number : ℕ) × (part : Part) × (slice_get parts number ≡ Some part) × IsCandidateFault part.test f

-- the limit of rounds or of a plan's steps, or such a fault
abbrev pub IsSolveFault : List Part → Fault → Type 0
IsSolveFault parts f = (f ≡ NodeLimit) ⊎ IsPartFault parts f

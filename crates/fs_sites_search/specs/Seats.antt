-- What is asked at seats, one for each test, and what is said there.
use Rattle.std.specs.Prelude.{◌≡◌, ◌≢◌, ◌<◌, ℕ, Option, None, Some, Result, Ok, Err, List, slice_get}
use Rattle.fs_kinds.specs.declared.fault.Fault.{Fault}
use Rattle.fs_kinds.specs.declared.fault.Fault.TheVariants.{Memory}
use Rattle.fs_kinds.specs.declared.placement.Entry.{Entry}
use Rattle.fs_model.specs.declared.test.Test.{Test}
use Rattle.fs_model.specs.Allows.{Allows}
use Rattle.fs_cert_evidence.specs.CandidateFaults.{IsCandidateFault}
use Rattle.fs_cert_evidence.specs.Evidence.{Shown}
use Rattle.fs_sites.specs.Answers.{IsShownUnder}
use Rattle.fs_sites.specs.Questions.{Part, image}

-- whether the test of this number allows its outcome with these fences
pub record Asked : Type 0 where
  pub number : ℕ
  pub test : Test
  pub fences : List Entry

-- that the fences forbid the outcome; or a witness that they allow it; or a fault of the test's candidates, or F19
abbrev pub IsSaid : Test → List Entry → Result (Option Shown) Fault → Type 0
IsSaid t p (Ok None) = Allows t p → ⊥
IsSaid t p (Ok (Some witness)) = IsShownUnder t p witness
IsSaid t p (Err f) = f ≢ Memory → IsCandidateFault t f

-- ---- the seats of a question

-- the seat is of the test of its number
pub record IsOfTest (parts : List Part) (seat : Asked) : Type 0 where
  pub part : Part
  pub at : slice_get parts seat.number ≡ Some part
  pub test : seat.test ≡ part.test

-- and what is asked there is of these fences of the sites
pub record IsAskedIn (parts : List Part) (p : List Entry) (seat : Asked) : Type 0 where
  pub part : Part
  pub at : slice_get parts seat.number ≡ Some part
  pub test : seat.test ≡ part.test
  pub fences : seat.fences ≡ image part.places p

-- ---- what is said at seats

-- the seat at this place is of the test of this number
pub record IsPlaceOf (seats : List Asked) (number place : ℕ) : Type 0 where
  pub seat : Asked
  pub at : slice_get seats place ≡ Some seat
  pub same : seat.number ≡ number

-- at a seat of the test of this number the fences forbid the outcome
pub record ForbidsAt (seats : List Asked) (number : ℕ) : Type 0 where
  pub place : ℕ
  pub is : IsPlaceOf seats number place
  pub forbids : Allows is.seat.test is.seat.fences → ⊥

-- at one they allow it, as the witness shows
pub record ShowsAt (seats : List Asked) (number : ℕ) (witness : Shown) : Type 0 where
  pub place : ℕ
  pub is : IsPlaceOf seats number place
  pub shown : IsShownUnder is.seat.test is.seat.fences witness

-- at one the test has this fault
pub record FailsAt (seats : List Asked) (f : Fault) : Type 0 where
  pub number : ℕ
  pub place : ℕ
  pub is : IsPlaceOf seats number place
  pub fails : IsCandidateFault is.seat.test f

-- so they do at a seat of each of the first tests, so many
abbrev pub ForbidBelow : List Asked → ℕ → Type 0
ForbidBelow seats tests = (number : ℕ) → number < tests → ForbidsAt seats number

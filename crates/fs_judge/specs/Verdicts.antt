-- What is said of a placement.
use Rattle.std.specs.Prelude.{◌≡◌, List}
use Rattle.fs_kinds.specs.declared.placement.Entry.{Entry}
use Rattle.fs_kinds.specs.Placement.{slots_of}
use Rattle.fs_model.specs.declared.test.Test.{Test}
use Rattle.fs_model.specs.Execution.{Execution}
use Rattle.fs_model.specs.Allows.{Shows, Allows}
use Rattle.fs_cert_evidence.specs.Evidence.{Shown, ShowsForbidden, IsWitnessAt}
use Rattle.fs_judge.specs.declared.verdict.Verdict.{Verdict}
use Rattle.fs_judge.specs.declared.verdict.Verdict.TheVariants.{Allowed, Forbids}

-- the witness, whose widths are those at the placement's slots, gives an execution that shows the outcome with the
-- placed fences too
abbrev pub IsShownWith : Test → List Entry → Shown → Type 0
IsShownWith t p witness = (e : Execution) × IsWitnessAt t (slots_of p) witness e × Shows t p e

-- a witness that the outcome is allowed; or the placement, with what shows that it forbids the outcome, and the outcome
-- is forbidden
abbrev pub IsVerdict : Test → List Entry → Verdict → Type 0
IsVerdict t p (Allowed witness) = IsShownWith t p witness
IsVerdict t p (Forbids f) = (f.placement ≡ p) × ShowsForbidden t f × (Allows t p → ⊥)

-- What is found with placed fences.
use Rattle.std.specs.Prelude.{List, map}
use Rattle.fs_kinds.specs.declared.placement.Entry.{Entry}
use Rattle.fs_model.specs.declared.test.Test.{Test}
use Rattle.fs_model.specs.Allows.{Allows}
use Rattle.fs_cert_evidence.specs.Candidates.{Candidate}
use Rattle.fs_cert_evidence.specs.Certificate.{Listed}
use Rattle.fs_cert_evidence.specs.Cycles.{IsCycle}
use Rattle.fs_cert_evidence.specs.Trees.{IsRefuted}
use Rattle.fs_cert_evidence.specs.Evidence.{ShowsForbidden}
use Rattle.fs_cert_evidence.specs.Inferences.{inference_of}
use Rattle.fs_judge.specs.Verdicts.{IsShownWith}
use Rattle.fs_judge.specs.declared.judging.Finding.{Finding}
use Rattle.fs_judge.specs.declared.judging.Finding.TheVariants.{Ordered, Cyclic}
use Rattle.fs_judge.specs.declared.listed.Survey.{Survey}
use Rattle.fs_judge.specs.declared.listed.Survey.TheVariants.{Survives, Cycles}
use Rattle.fs_judge.specs.declared.sought.Sought.{Sought}
use Rattle.fs_judge.specs.declared.sought.Sought.TheVariants.{Refuted, Shown, Nothing}
use Rattle.fs_judge.specs.inner.Bases.{IsKnown}

-- of one candidate: a witness, or a cycle
abbrev pub IsFinding : Test → List Entry → Candidate → Finding → Type 0
IsFinding t p c (Ordered witness) = IsShownWith t p witness
IsFinding t p c (Cyclic links) = IsCycle t p c links

-- of all candidates: the witness of one; or a cycle for each, which shows that the outcome is forbidden
abbrev pub IsSurvey : Test → List Entry → Survey → Type 0
IsSurvey t p (Survives witness) = IsShownWith t p witness
IsSurvey t p (Cycles cycles) = ShowsForbidden t (record { placement = p; cycles = Listed cycles }) × (Allows t p → ⊥)

-- by a hunt: inferences that refute the test; or a candidate that shows the outcome, with some fences or none
abbrev pub IsSought : Test → List Entry → Sought → Type 0
IsSought t p (Refuted inferences) = IsRefuted t p (map inference_of inferences)
IsSought t p (Shown known) = IsKnown t known
IsSought t p Nothing = Unit {0}

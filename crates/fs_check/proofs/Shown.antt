-- What a witness shows, by the verdict on it.
use Rattle.std.proofs.Common.{◌≡◌, List}
use Rattle.std.specs.Prelude.{All}
use Rattle.fs_kinds.specs.declared.placement.Entry.{Entry}
use Rattle.fs_kinds.specs.declared.reason.Reason.{Reason}
use Rattle.fs_model.specs.declared.test.Test.{Test}
use Rattle.fs_model.specs.Test.{GoesForward}
use Rattle.fs_model.specs.Execution.{Execution}
use Rattle.fs_model.specs.Reasons.{IsReason}
use Rattle.fs_model.specs.Witness.{Witness}
use Rattle.fs_cert_evidence.specs.declared.witness.WitnessFile.{WitnessFile}
use Rattle.fs_cert_evidence.specs.Shown.{ShowsAs, IsShownBy}
use Rattle.fs_cert_evidence.specs.WitnessFile.{KeepsWitness}
use Rattle.fs_check.specs.declared.order.OrderVerdict.TheVariants.{No}
use Rattle.fs_check.specs.declared.ordered.OrderedCandidate.{OrderedCandidate}
use Rattle.fs_check.specs.Verdicts.{IsFoundBy, IsJudgement}
use Rattle.fs_check.proofs.OneVerdict.{no_reason_and_yes, order_of, same_execution}
use Rattle.fs_check.proofs.Verdicts.{decided}

-- a witness against which there is a reason shows nothing
pub refused : (t : Test) (p : List Entry) (w : Witness) (why : Reason) → All GoesForward t.codes → IsReason t p w why → IsShownBy t p w → ⊥
refused t p w why forward against shown =
    no_reason_and_yes t p w why forward against (shown.0, shown.1.0, shown.1.1.execution, shown.1.1.outcome)

module _ (t : Test) (p : List Entry) (file : WitnessFile) (w : Witness) (keeps : KeepsWitness file w) (o : OrderedCandidate) (found : IsFoundBy t file w o) where
  pub unshown : (why : Reason) → All GoesForward t.codes → IsJudgement t p o (No why) → IsShownBy t p w → ⊥
  unshown why forward j = refused t p w why forward (decided t p file w keeps o (No why) found.0 found.1 j)

-- a witness shows one execution, whatever the fences
pub one_shown : (t : Test) (p q : List Entry) (w : Witness) (e f : Execution) → All GoesForward t.codes → ShowsAs t p w e → ShowsAs t q w f → e ≡ f
one_shown t p q w e f forward h k =
    same_execution t w forward e f (order_of t p w e h.0 h.1.execution) (order_of t q w f k.0 k.1.execution)

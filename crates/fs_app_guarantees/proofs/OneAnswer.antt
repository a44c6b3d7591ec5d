-- `order` has one answer to the same files and words.
use Rattle.std.proofs.Common.{◌≡◌, ℕ, All, List, None, Some, length, refl, sym, subst, ap, ◌∙◌}
use Rattle.fs_instr.specs.declared.instr.Instr.{Instr}
use Rattle.fs_kinds.specs.declared.placement.Entry.{Entry}
use Rattle.fs_model.specs.declared.test.Test.{Test}
use Rattle.fs_model.specs.Placed.{IsPlaced}
use Rattle.fs_model.specs.Test.{GoesForward, IsSame}
use Rattle.fs_litmus.proofs.ReadsTest.{is_test}
use Rattle.fs_litmus.proofs.ReadsOnce.{reads_once}
use Rattle.fs_model.specs.Witness.{Witness}
use Rattle.fs_cert_evidence.specs.WitnessFile.{IsWitnessFile}
use Rattle.fs_cert_evidence.proofs.Once.{file-once}
use Rattle.fs_check.specs.declared.order.OrderVerdict.{OrderVerdict}
use Rattle.fs_check.specs.declared.order.OrderVerdict.TheVariants.{Yes, No}
use Rattle.fs_check.specs.Verdicts.{IsVerdict}
use Rattle.fs_check.proofs.OneVerdict.{no_reason_and_yes, one_reason}
use Rattle.fs_app_io.specs.declared.status.Status.{Status}
use Rattle.fs_app_guarantees.proofs.KeptReasons.{yes_same, reason_same}
use Rattle.fs_app_guarantees.specs.Agreement.{Place}
use Rattle.fs_app_place_and_order.specs.Order.{IsOrderAnswer, verdict_line, verdict_status}
use Rattle.fs_app_guarantees.proofs.Agrees.{slots_alike}
use Rattle.fs_app_guarantees.proofs.Placing.{one_placement}

judged_alike : (t u : Test) → IsSame t u → (p : List Entry) (w : Witness) (v : OrderVerdict) → IsVerdict t p w v → IsVerdict u p w v
judged_alike t u same p w Yes h = (yes_same t u same p w).0 h
judged_alike t u same p w (No why) h = (reason_same t u same p w why).0 h

one_verdict : (t : Test) (p : List Entry) (w : Witness) → All GoesForward t.codes → (v u : OrderVerdict) → IsVerdict t p w v → IsVerdict t p w u
    → v ≡ u
one_verdict t p w forward Yes Yes h k = refl
one_verdict t p w forward Yes (No why) h k = absurd (no_reason_and_yes t p w why forward k h)
one_verdict t p w forward (No why) Yes h k = absurd (no_reason_and_yes t p w why forward h k)
one_verdict t p w forward (No why) (No other) h k = ap No (one_reason t p w why other forward h k)

pub one_answer : (test witness : List ℕ) (words : List (List ℕ)) (text other : List ℕ) (status end : Status)
    → IsOrderAnswer test witness words text status → IsOrderAnswer test witness words other end → (text ≡ other) × (status ≡ end)
one_answer test witness words text other status end h k =
    let t = h.the_test in
    let u = k.the_test in
    let same : IsSame u t = reads_once test u t k.reads h.reads in
    let bounded = (is_test test t h.reads).bounded in
    let there : Place t words k.placement =
    subst (λ ss. IsPlaced None ss words (Some k.placement)) (slots_alike u t same) k.placed in
    let fences : k.placement ≡ h.placement = one_placement t bounded words k.placement h.placement there h.placed in
    let file : IsWitnessFile (length t.codes) witness k.given =
    subst (λ (codes : List (List Instr)). IsWitnessFile (length codes) witness k.given) same.codes k.says in
    let given : k.given ≡ h.given = file-once (length t.codes) witness k.given h.given file h.says in
    let kept : IsVerdict t k.placement k.given k.verdict = judged_alike u t same k.placement k.given k.verdict k.judged in
    let moved : IsVerdict t h.placement h.given k.verdict =
    subst (λ (w : Witness). IsVerdict t h.placement w k.verdict) given
    (subst (λ (p : List Entry). IsVerdict t p k.given k.verdict) fences kept) in
    let verdict : h.verdict ≡ k.verdict = one_verdict t h.placement h.given bounded.forward h.verdict k.verdict h.judged moved in
    (h.shown ∙ ap verdict_line verdict ∙ sym k.shown, h.ends ∙ ap verdict_status verdict ∙ sym k.ends)

use Rattle.std.proofs.Common.{Err, ap, length, subst}
use Rattle.std.proofs.lemmas.Result.{IfOk-weaker}
use Rattle.fs_model.specs.Witness.{Witness}
use Rattle.fs_cert_evidence.specs.WitnessFile.{IsWitnessFile}
use Rattle.fs_app_place_and_order.specs.Order.{of_memory}
use Rattle.fs_app_place_and_order.proofs.Faults.{IfErr-handed}
use Rattle.fs_app_place_and_order.proofs.OrderFaults.{order-fences, order-memory, order-test, order-witness}
use Rattle.fs_app_why.proofs.Faults.{memory_is}
use Rattle.fs_app_dot.proofs.order.order_pictures.Goals as goal

pub lines_of-requires : goal.lines_of-requires
lines_of-requires c = (c.in_ok-read.read, c.in_ok-read.ensures.ok)

pub returns-clause-shown : goal.returns-clause-shown
returns-clause-shown c =
    let file = c.in_ok-file.ensures.ok in
    IfOk-weaker c.given_pictures.result _ _
    (λ pictures shown. record {
      the_test = c.in_ok-read.read;
      placement = c.in_ok-placement.placement;
      given = file.0;
      reads = c.in_ok-read.ensures.ok;
      placed = c.in_ok-placement.ensures.ok;
      says = subst (λ codes. IsWitnessFile (length codes) c.args.witness.now file.0) c.as_slice.ensures file.1;
      shown = shown;
    })
    (c.given_pictures.ensures.shown file.0 file.2)

pub returns-clause-fault : goal.returns-clause-fault
returns-clause-fault c = memory_is c.given_pictures.result _ of_memory c.given_pictures.ensures.err

pub returns-in_err-read-clause-fault : goal.returns-in_err-read-clause-fault
returns-in_err-read-clause-fault c =
    IfErr-handed c.from_residual.result _ _ c.from_residual.ensures.1 (order-test _ _ _ _ c.in_err-read.ensures.err)

pub returns-in_err-placement-clause-fault : goal.returns-in_err-placement-clause-fault
returns-in_err-placement-clause-fault c =
    IfErr-handed c.from_residual-in_err-placement.result _ _ c.from_residual-in_err-placement.ensures.1
    (order-fences _ _ _ _ _ c.in_ok-read.ensures.ok (λ e. c.in_err-placement.ensures.bad_fence (ap (λ f. Err f) e)) c.in_err-placement.ensures.err)

pub returns-in_err-file-clause-fault : goal.returns-in_err-file-clause-fault
returns-in_err-file-clause-fault c =
    IfErr-handed c.from_residual-in_err-file.result _ _ c.from_residual-in_err-file.ensures.1
    (order-witness _ _ _ _ _ _ c.in_ok-read.ensures.ok c.in_ok-placement.ensures.ok
    (λ e. subst (λ codes. (w : Witness) → IsWitnessFile (length codes) c.args.witness.now w → ⊥) c.as_slice.ensures
    (c.in_err-file.ensures.bad (ap (λ f. Err f) e))) c.in_err-file.ensures.err)

pub returns-in_err-lines-clause-fault : goal.returns-in_err-lines-clause-fault
returns-in_err-lines-clause-fault c =
    IfErr-handed c.from_residual-in_err-lines.result _ _ c.from_residual-in_err-lines.ensures.1
    (order-memory _ _ _ _ c.in_err-lines.ensures.err)

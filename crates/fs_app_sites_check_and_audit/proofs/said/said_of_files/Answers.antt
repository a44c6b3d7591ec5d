use Rattle.std.proofs.Common.{arith, subst, sym, take, ℕ, List, Option}
use Rattle.fs_model.specs.Witness.{Witness}
use Rattle.fs_app_place_and_order.proofs.Faults.{IfErr-handed}
use Rattle.fs_app_test.specs.Verdicts.{IsFirstTestFault, IsTested}
use Rattle.fs_app_test.specs.declared.said.Kind.{Kind}
use Rattle.fs_app_sites_check_and_audit.specs.Audited.{AreSaid, IsSaidOf}
use Rattle.fs_app_sites_check_and_audit.proofs.Reading.{later_fault, own_fault, read_more}
use Rattle.fs_app_sites_check_and_audit.proofs.said.said_of_files.Goals as goal

pub returns-in_err-said_of-clause-err : goal.returns-in_err-said_of-clause-err
returns-in_err-said_of-clause-err c =
    IfErr-handed c.from_residual.result _ _ c.from_residual.ensures.1
    (λ n. c.loop-file.invariant.left _
    (own_fault IsSaidOf (λ file. IsFirstTestFault file.bytes.items) c.args.files.now c.loop-file.file-index c.file-item.result (omega arith) c.file-item.is _
    (subst (λ bytes. IsFirstTestFault bytes c.in_err-said_of.field-0.0) c.deref.ensures.value (c.in_err-said_of.ensures.err n))))

pub loop-file-preserved : goal.loop-file-preserved
loop-file-preserved c =
    let is = subst (λ bytes. (why : List ℕ) × (witness : Option Witness) × IsTested bytes c.in_ok-said_of.field-0 why witness)
    c.deref.ensures.value c.in_ok-said_of.ensures.ok in
    record {
      read = subst (AreSaid (take _ c.args.files.now)) (sym {A = List Kind} c.in_ok-push.ensures.items)
          (read_more IsSaidOf (λ file. IsFirstTestFault file.bytes.items) c.args.files.now c.loop-file.file-index c.file-item.result (omega arith) c.file-item.is _ _ c.loop-file.invariant.read is);
      left = λ f fault. c.loop-file.invariant.left f
          (later_fault IsSaidOf (λ file. IsFirstTestFault file.bytes.items) c.args.files.now c.loop-file.file-index c.file-item.result (omega arith) c.file-item.is _ f is fault);
    }

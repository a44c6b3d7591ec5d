use Rattle.std.proofs.Common.{List, arith, subst, sym, take}
use Rattle.std.specs.List.{All}
use Rattle.std.proofs.lemmas.List.Elements.{All-push}
use Rattle.fs_app_place_and_order.proofs.Faults.{IfErr-handed}
use Rattle.fs_app_sites.specs.Sites.{IsFileFault, IsSound}
use Rattle.fs_app_sites_check_and_audit.specs.Copies.{AreHeld, Held, Holds, IsHeld}
use Rattle.fs_app_sites_check_and_audit.proofs.Reading.{later_fault, own_fault, read_more}
use Rattle.fs_app_sites_check_and_audit.proofs.held.read_files.Goals as goal

pub returns-in_err-read_held-clause-err : goal.returns-in_err-read_held-clause-err
returns-in_err-read_held-clause-err c =
    IfErr-handed c.from_residual.result _ _ c.from_residual.ensures.1
    (λ n. c.loop-file.invariant.left _
    (own_fault Holds (λ file. IsFileFault file.bytes.items) c.args.files.now c.loop-file.file-index c.file-item.result (omega arith) c.file-item.is _
    (subst (λ bytes. IsFileFault bytes c.in_err-read_held.field-0.0) c.deref.ensures.value (c.in_err-read_held.ensures.err n))))

pub loop-file-preserved : goal.loop-file-preserved
loop-file-preserved c =
    let is = subst (λ bytes. IsHeld bytes c.in_ok-read_held.field-0) c.deref.ensures.value c.in_ok-read_held.ensures.ok in
    record {
      read = subst (AreHeld (take _ c.args.files.now)) (sym {A = List Held} c.in_ok-push.ensures.items)
          (read_more Holds (λ file. IsFileFault file.bytes.items) c.args.files.now c.loop-file.file-index c.file-item.result (omega arith) c.file-item.is _ _ c.loop-file.invariant.read is);
      sound = subst (All (λ (h : Held). IsSound h.asked)) (sym {A = List Held} c.in_ok-push.ensures.items)
          (All-push (λ (h : Held). IsSound h.asked) _ _ c.loop-file.invariant.sound c.in_ok-read_held.ensures.sound);
      left = λ f fault. c.loop-file.invariant.left f
          (later_fault Holds (λ file. IsFileFault file.bytes.items) c.args.files.now c.loop-file.file-index c.file-item.result (omega arith) c.file-item.is _ f is fault);
    }

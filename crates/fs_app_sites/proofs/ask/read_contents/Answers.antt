use Rattle.std.proofs.Common.{arith, subst, sym, List}
use Rattle.std.specs.List.{All, AllZip}
use Rattle.std.proofs.lemmas.List.Elements.{All-push}
use Rattle.fs_app_place_and_order.proofs.Faults.{IfErr-handed}
use Rattle.fs_app_sites.specs.Sites.{Content, IsContentOf, IsSound}
use Rattle.fs_app_sites.proofs.Reading.{later-fault, own-fault, read-more}
use Rattle.fs_app_sites.proofs.ask.read_contents.Goals as goal

pub returns-in_err-content_of-clause-err : goal.returns-in_err-content_of-clause-err
returns-in_err-content_of-clause-err c =
    IfErr-handed c.from_residual.result _ _ c.from_residual.ensures.1
    (λ n. c.loop-file.invariant.left _
    (own-fault c.args.tests.now _ c.loop-file.file-index c.file-item.result c.as_slice-file-items.ensures (omega arith)
    c.file-item.is _ (c.in_err-content_of.ensures.err n)))

pub loop-file-preserved : goal.loop-file-preserved
loop-file-preserved c =
    let tests = c.args.tests.now in
    let is = c.in_ok-content_of.ensures.ok in
    record {
      read = subst (AllZip (IsContentOf tests) _) (sym {A = List Content} c.in_ok-push.ensures.items)
          (read-more tests _ c.loop-file.file-index c.file-item.result c.as_slice-file-items.ensures (omega arith) c.file-item.is
          _ _ c.loop-file.invariant.read is);
      sound = subst (All IsSound) (sym {A = List Content} c.in_ok-push.ensures.items)
          (All-push IsSound _ _ c.loop-file.invariant.sound c.in_ok-content_of.ensures.sound);
      left = λ f fault. c.loop-file.invariant.left f
          (later-fault tests _ c.loop-file.file-index c.file-item.result c.as_slice-file-items.ensures (omega arith)
          c.file-item.is _ f is fault);
    }

use Rattle.std.proofs.Common.{subst}
use Rattle.fs_app_place_and_order.proofs.Faults.{IfErr-handed}
use Rattle.fs_app_sites.specs.Sites.{IsFileFault}
use Rattle.fs_app_sites.proofs.ask.content_of.Goals as goal

pub returns-in_err-content-clause-err : goal.returns-in_err-content-clause-err
returns-in_err-content-clause-err c =
    IfErr-handed c.from_residual-in_err-content.result _ _ c.from_residual-in_err-content.ensures.1
    (λ n. subst (λ bytes. IsFileFault bytes c.in_err-content.field-0.0) c.deref.ensures.value (c.in_err-content.ensures.err n))

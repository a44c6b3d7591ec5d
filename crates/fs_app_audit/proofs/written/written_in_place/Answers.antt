use Rattle.std.proofs.Common.{subst, sym}
use Rattle.fs_model.specs.declared.test.Test.{Test}
use Rattle.fs_app_place_and_order.proofs.Faults.{IfErr-handed}
use Rattle.fs_app_test.specs.declared.said.Kind.TheVariants.{Forbidden}
use Rattle.fs_app_test.specs.SaidVerdicts.{IsTestedAs}
use Rattle.fs_app_audit.proofs.written.written_in_place.Goals as goal

pub output_of_file-requires-clause-tested : goal.output_of_file-requires-clause-tested
output_of_file-requires-clause-tested c = (
  c.requires.tested.0,
  c.requires.tested.1,
  subst (λ (t : Test). IsTestedAs t Forbidden c.requires.tested.0 c.requires.tested.1) (sym c.deref.ensures) c.requires.tested.2,
)

pub returns-in_err-output-clause-fault : goal.returns-in_err-output-clause-fault
returns-in_err-output-clause-fault c =
    IfErr-handed c.from_residual.result _ _ c.from_residual.ensures.1 c.in_err-output.ensures.fault

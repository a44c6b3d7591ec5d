use Rattle.std.proofs.Common.{subst, sym, ◌∙◌}
use Rattle.fs_kinds.specs.declared.fault.Fault.TheVariants.{NotRiscv}
use Rattle.fs_app_error_messages.specs.Points.{IsPoint, title}
use Rattle.fs_app_error_messages.specs.declared.point.Point.TheVariants.{Byte}
use Rattle.fs_app_error_messages.proofs.Aims.{titled}
use Rattle.fs_app_error_messages.proofs.point.point_of.Goals as goal

pub returns-in-Title : goal.returns-in-Title
returns-in-Title c =
    let bytes = c.args.bytes.now in
    let its = titled c.args.fault (sym c.aim_of.ensures ∙ c.in-Title.is) in
    subst (λ f. IsPoint bytes f (Byte c.title_start.result)) (sym its) (subst (λ n. IsPoint bytes NotRiscv (Byte n)) (sym c.title_start.ensures) title)

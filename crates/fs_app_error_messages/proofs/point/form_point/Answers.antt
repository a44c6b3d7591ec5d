use Rattle.std.proofs.Common.{refl}
use Rattle.fs_app_error_messages.proofs.Aims.{no_place_in_line, fault_nowhere}
use Rattle.fs_app_error_messages.proofs.point.form_point.Goals as goal

pub returns-in-None : goal.returns-in-None
returns-in-None c = no_place_in_line c.args.bytes.now c.args.fault c.requires (λ n. fault_nowhere c.args.bytes.now c.args.fault n (c.in-None.ensures.absent refl))

use Rattle.std.proofs.Common.{refl}
use Rattle.fs_app_error_messages.proofs.Aims.{atom_nowhere}
use Rattle.fs_app_error_messages.proofs.point.condition_point.Goals as goal

pub returns-in-None : goal.returns-in-None
returns-in-None c = atom_nowhere c.args.bytes.now (c.in-None.ensures.absent refl)

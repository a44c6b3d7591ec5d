use Rattle.fs_app_guarantees.proofs.Mending.{keeps_devices}
use Rattle.fs_app_guarantees.proofs.audits.mended_keeps_devices.Goals as goal

pub returns : goal.returns
returns c = keeps_devices

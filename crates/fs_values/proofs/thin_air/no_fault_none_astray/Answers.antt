use Rattle.fs_values.proofs.Faults.{never_astray}
use Rattle.fs_values.proofs.thin_air.no_fault_none_astray.Goals as goal

pub returns : goal.returns
returns c = never_astray

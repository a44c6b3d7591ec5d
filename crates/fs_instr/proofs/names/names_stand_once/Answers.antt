use Rattle.fs_instr.proofs.DistinctNames.{names_once}
use Rattle.fs_instr.proofs.names.names_stand_once.Goals as goal

pub returns : goal.returns
returns c = names_once

use Rattle.fs_app_guarantees.proofs.FencesTold.{checked, solved}
use Rattle.fs_app_guarantees.proofs.fences.each_fence_is_told.Goals as goal

pub returns-clause-solved : goal.returns-clause-solved
returns-clause-solved c = solved

pub returns-clause-checked : goal.returns-clause-checked
returns-clause-checked c telling test prices lines certificate text said is = checked telling test prices lines certificate text said is

use Rattle.fs_verdict_laws.proofs.FenceEdges.{fences_add}
use Rattle.fs_verdict_laws.proofs.decide.fences_add_edges.Goals as goal

pub returns : goal.returns
returns c = fences_add

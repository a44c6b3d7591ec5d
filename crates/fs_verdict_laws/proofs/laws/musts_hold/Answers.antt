use Rattle.fs_verdict_laws.proofs.Edges.{edge_there}
use Rattle.fs_verdict_laws.proofs.laws.musts_hold.Goals as goal

pub returns : goal.returns
returns c = edge_there

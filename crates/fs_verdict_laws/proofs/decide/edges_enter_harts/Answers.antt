use Rattle.fs_verdict_laws.proofs.JudgedEdges.{edge_low}
use Rattle.fs_verdict_laws.proofs.Sorting.{sorted_ordered}
use Rattle.fs_verdict_laws.proofs.decide.edges_enter_harts.Goals as goal

pub returns-clause-enters : goal.returns-clause-enters
returns-clause-enters c t p candidate a b raw edge = edge_low t p candidate raw a b edge

pub returns-clause-sorted : goal.returns-clause-sorted
returns-clause-sorted c t p candidate sorted raw is = sorted_ordered t p candidate raw sorted is

use Rattle.fs_verdict_laws.proofs.Rules.{judged_by_causes}
use Rattle.fs_verdict_laws.proofs.decide.causes_make_edges.Goals as goal

pub returns : goal.returns
returns c = judged_by_causes

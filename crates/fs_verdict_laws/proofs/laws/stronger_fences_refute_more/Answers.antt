use Rattle.fs_verdict_laws.proofs.Stronger.{placed_refutes, refutes_no_less, unfenced_refutes}
use Rattle.fs_verdict_laws.proofs.laws.stronger_fences_refute_more.Goals as goal

pub returns-clause-placements : goal.returns-clause-placements
returns-clause-placements c = placed_refutes

pub returns-clause-lists : goal.returns-clause-lists
returns-clause-lists c = refutes_no_less

pub returns-clause-unfenced : goal.returns-clause-unfenced
returns-clause-unfenced c = unfenced_refutes

use Rattle.fs_verdict_laws.proofs.Covering.{covers, listed_covers, covers_exist, covered_forbids, forbids, fenced_forbids}
use Rattle.fs_verdict_laws.proofs.laws.covers_forbid.Goals as goal

pub returns-clause-covers : goal.returns-clause-covers
returns-clause-covers c = covers

pub returns-clause-listed : goal.returns-clause-listed
returns-clause-listed c = listed_covers

pub returns-clause-forbids : goal.returns-clause-forbids
returns-clause-forbids c = covered_forbids

pub returns-clause-refuted : goal.returns-clause-refuted
returns-clause-refuted c = forbids

pub returns-clause-fenced : goal.returns-clause-fenced
returns-clause-fenced c = fenced_forbids

pub returns-clause-exist : goal.returns-clause-exist
returns-clause-exist c = covers_exist

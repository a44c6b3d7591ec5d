use Rattle.fs_verdict_laws.proofs.JudgedEdges.{round_excludes, cycle_excludes}
use Rattle.fs_verdict_laws.proofs.Deciding.{cycles_forbid_all}
use Rattle.fs_verdict_laws.proofs.JudgedCycles.{cycles_exist}
use Rattle.fs_verdict_laws.proofs.decide.cycles_forbid.Goals as goal

pub returns-clause-rounds : goal.returns-clause-rounds
returns-clause-rounds c = round_excludes

pub returns-clause-cycles : goal.returns-clause-cycles
returns-clause-cycles c = cycle_excludes

pub returns-clause-forbids : goal.returns-clause-forbids
returns-clause-forbids c = cycles_forbid_all

pub returns-clause-exist : goal.returns-clause-exist
returns-clause-exist c = cycles_exist

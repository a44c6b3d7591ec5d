use Rattle.fs_verdict_laws.proofs.Cycles.{cycle_by_links, links_by_cycle}
use Rattle.fs_verdict_laws.proofs.local.links_make_cycles.Goals as goal

pub returns-clause-cycle : goal.returns-clause-cycle
returns-clause-cycle c = cycle_by_links

pub returns-clause-links : goal.returns-clause-links
returns-clause-links c = links_by_cycle

use Rattle.fs_verdict_laws.proofs.Links.{link_by_runs, edge_by_runs, no_link_by_runs, edge_alike}
use Rattle.fs_verdict_laws.proofs.local.runs_serve.Goals as goal

pub returns-clause-links : goal.returns-clause-links
returns-clause-links c = link_by_runs

pub returns-clause-edges : goal.returns-clause-edges
returns-clause-edges c = edge_by_runs

pub returns-clause-none : goal.returns-clause-none
returns-clause-none c = no_link_by_runs

pub returns-clause-alike : goal.returns-clause-alike
returns-clause-alike c = edge_alike

use Rattle.fs_verdict_laws.proofs.Named.{edge_named, edge_two, edge_three, edge_twelve, place_in}
use Rattle.fs_verdict_laws.proofs.Links.{link_by_run}
use Rattle.fs_verdict_laws.proofs.local.names_decide.Goals as goal

pub returns-clause-edges : goal.returns-clause-edges
returns-clause-edges c = edge_named

pub returns-clause-two : goal.returns-clause-two
returns-clause-two c = edge_two

pub returns-clause-three : goal.returns-clause-three
returns-clause-three c = edge_three

pub returns-clause-links : goal.returns-clause-links
returns-clause-links c = link_by_run

pub returns-clause-twelve : goal.returns-clause-twelve
returns-clause-twelve c = edge_twelve

pub returns-clause-places : goal.returns-clause-places
returns-clause-places c = place_in

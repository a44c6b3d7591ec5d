use Rattle.fs_verdict_laws.proofs.Links.{link_two, link_three, link_twelve}
use Rattle.fs_verdict_laws.proofs.local.runs_and_sources_serve.Goals as goal

pub returns-clause-two : goal.returns-clause-two
returns-clause-two c = link_two

pub returns-clause-three : goal.returns-clause-three
returns-clause-three c = link_three

pub returns-clause-twelve : goal.returns-clause-twelve
returns-clause-twelve c = link_twelve

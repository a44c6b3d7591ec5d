use Rattle.fs_app_sites.proofs.ask.read_one.Goals as goal

pub asked_of-requires-clause-top : goal.asked_of-requires-clause-top
asked_of-requires-clause-top c = c.in_ok-table.ensures.ok.top

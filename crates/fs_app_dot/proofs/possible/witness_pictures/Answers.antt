use Rattle.fs_app_dot.proofs.possible.witness_pictures.Goals as goal

pub returns-clause-shown : goal.returns-clause-shown
returns-clause-shown c w keeps = (c.in_ok-found.found, c.in_ok-found.ensures.shown w keeps, c.in_ok-pictures.ensures)

use Rattle.fs_board_offers.proofs.histories.posted_placements_forbid.Goals as goal

pub returns : goal.returns
returns c = λ t offers old new worker node p (part, held, least, forbids, changed). forbids

use Rattle.fs_board_offers.proofs.OneWitness.{unbroken-shows, unbroken-prunes}
use Rattle.fs_board_offers.proofs.pruning.one_witness_prunes.Goals as goal

pub returns-clause-shows : goal.returns-clause-shows
returns-clause-shows c = unbroken-shows

pub returns-clause-prunes : goal.returns-clause-prunes
returns-clause-prunes c = λ offers bound part w. unbroken-prunes offers w bound part

use Rattle.fs_board_offers.proofs.Final.{cheapest, none-forbid, final}
use Rattle.fs_board_offers.proofs.histories.finished_board_answers.Goals as goal

pub returns-clause-cheapest : goal.returns-clause-cheapest
returns-clause-cheapest c = cheapest

pub returns-clause-none : goal.returns-clause-none
returns-clause-none c = none-forbid

pub returns-clause-answer : goal.returns-clause-answer
returns-clause-answer c = final

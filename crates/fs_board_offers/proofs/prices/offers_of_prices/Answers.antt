use Rattle.fs_board_offers.proofs.Priced.{same-slots, same-cost, same-better, same-placements, same-cheapest, same-size, has-top}
use Rattle.fs_board_offers.proofs.prices.offers_of_prices.Goals as goal

pub returns-clause-slots : goal.returns-clause-slots
returns-clause-slots c = same-slots

pub returns-clause-costs : goal.returns-clause-costs
returns-clause-costs c = same-cost

pub returns-clause-better : goal.returns-clause-better
returns-clause-better c = same-better

pub returns-clause-placements : goal.returns-clause-placements
returns-clause-placements c = same-placements

pub returns-clause-cheapest : goal.returns-clause-cheapest
returns-clause-cheapest c = same-cheapest

pub returns-clause-sizes : goal.returns-clause-sizes
returns-clause-sizes c = same-size

pub returns-clause-top : goal.returns-clause-top
returns-clause-top c = has-top

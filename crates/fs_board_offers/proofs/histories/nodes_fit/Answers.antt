use Rattle.fs_board_offers.proofs.Growing.{history-size, history-within, full-large}
use Rattle.fs_board_offers.proofs.histories.nodes_fit.Goals as goal

pub returns-clause-size : goal.returns-clause-size
returns-clause-size c = λ t offers limit log board rises history. history-size offers t rises limit log board history

pub returns-clause-limit : goal.returns-clause-limit
returns-clause-limit c = λ t offers limit log board history.
    let within = history-within offers t limit log board history in (within.limit, within.nodes)

pub returns-clause-full : goal.returns-clause-full
returns-clause-full c = λ t offers limit log board rises history worker k slot new step.
    full-large offers t limit log board worker k slot new rises history step

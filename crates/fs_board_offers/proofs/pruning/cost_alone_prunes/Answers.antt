use Rattle.std.proofs.Common.{refl}
use Rattle.fs_board_offers.proofs.Floors.{cost-alone}
use Rattle.fs_board_offers.proofs.pruning.cost_alone_prunes.Goals as goal

pub returns-clause-bound : goal.returns-clause-bound
returns-clause-bound c = cost-alone

pub returns-clause-unbound : goal.returns-clause-unbound
returns-clause-unbound c = λ offers part. refl

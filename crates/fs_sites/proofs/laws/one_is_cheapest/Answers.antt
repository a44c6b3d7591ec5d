use Rattle.fs_sites.proofs.Cheapest.{one_cheapest}
use Rattle.fs_sites.proofs.laws.one_is_cheapest.Goals as goal

pub returns : goal.returns
returns c = one_cheapest

use Rattle.std.proofs.Common.{◌≡◌, rules}
use Rattle.fs_kinds.specs.PriceTable.{weight_of}
use Rattle.fs_kinds.proofs.prices.Prices.weight.Goals as goal

-- what is returned is the slot's weight
value : (c : goal.After-unwrap_or) → c.unwrap_or.result ≡ weight_of c.args.self.now c.args.slot
value c = search rules

pub returns-clause-in_range : goal.returns-clause-in_range
returns-clause-in_range c = rw (value c, ← c.self.view_is) (c.self.invariant.weight c.args.slot)

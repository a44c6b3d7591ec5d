use Rattle.std.proofs.Common.{◌≡◌, ◌-◌, length}
use Rattle.fs_model_brute_force.proofs.Extending.{NoneBelow}
use Rattle.fs_model_brute_force.proofs.orders.+shows_from.Given as goal

abbrev pub decreases-shows_from : goal.decreases-shows_from
decreases-shows_from l = l.count - length l.order.now.items

-- the order is as it was, and goes on with none of the numbers tried
abbrev pub invariant-loop-a : goal.invariant-loop-a
invariant-loop-a l = (l.order.items ≡ l.fn.order.items) × NoneBelow l.test l.placement l.traces l.fn.order.items l.a

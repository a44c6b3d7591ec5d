use Rattle.std.proofs.Common.{◌≡◌, flat_map, take, string_bytes}
use Rattle.fs_app_dot.specs.Dot.{order_from}
use Rattle.fs_app_dot.proofs.dot.orders.Given as goal

-- the pairs so far
abbrev pub invariant-loop-node : goal.invariant-loop-node
invariant-loop-node l = string_bytes l.text ≡ flat_map (order_from l.edges l.nodes) (take l.node-index l.nodes)

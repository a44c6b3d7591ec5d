use Rattle.std.proofs.Common.{◌≡◌, flat_map, take, string_bytes}
use Rattle.fs_app_dot.specs.Dot.{order_between}
use Rattle.fs_app_dot.proofs.dot.order_from.Given as goal

-- the pairs so far
abbrev pub invariant-loop-b : goal.invariant-loop-b
invariant-loop-b l = string_bytes l.text ≡ flat_map (order_between l.edges l.a) (take l.b-index l.nodes)

use Rattle.std.proofs.Common.{◌≡◌, flat_map, take, string_bytes}
use Rattle.fs_app_dot.specs.Dot.{rank_at}
use Rattle.fs_app_dot.proofs.dot.ranks.Given as goal

-- the ranks so far
abbrev pub invariant-loop-node : goal.invariant-loop-node
invariant-loop-node l = string_bytes l.text ≡ flat_map (rank_at l.nodes) (take l.node-index l.nodes)

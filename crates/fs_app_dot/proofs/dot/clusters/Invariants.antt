use Rattle.std.proofs.Common.{◌≡◌, flat_map, take, string_bytes}
use Rattle.fs_app_dot.specs.Dot.{cluster_at}
use Rattle.fs_app_dot.proofs.dot.clusters.Given as goal

-- the clusters so far
abbrev pub invariant-loop-node : goal.invariant-loop-node
invariant-loop-node l = string_bytes l.text ≡ flat_map (cluster_at l.nodes) (take l.node-index l.nodes)

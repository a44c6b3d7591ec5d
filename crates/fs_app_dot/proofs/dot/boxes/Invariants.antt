use Rattle.std.proofs.Common.{◌≡◌, flat_map, take, string_bytes}
use Rattle.fs_app_dot.specs.Dot.{node_of}
use Rattle.fs_app_dot.proofs.dot.boxes.Given as goal

-- the boxes so far
abbrev pub invariant-loop-node : goal.invariant-loop-node
invariant-loop-node l = string_bytes l.text ≡ flat_map (node_of l.hart) (take l.node-index l.nodes)

use Rattle.std.proofs.Common.{◌≡◌, flat_map, take, string_bytes}
use Rattle.fs_app_dot.specs.Dot.{edge_text}
use Rattle.fs_app_dot.proofs.dot.arrows.Given as goal

-- the arrows so far
abbrev pub invariant-loop-edge : goal.invariant-loop-edge
invariant-loop-edge l = string_bytes l.text ≡ flat_map (edge_text l.nodes) (take l.edge-index l.edges)

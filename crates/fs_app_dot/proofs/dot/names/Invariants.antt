use Rattle.std.proofs.Common.{◌≡◌, flat_map, take, string_bytes}
use Rattle.fs_app_dot.specs.Dot.{name_in}
use Rattle.fs_app_dot.proofs.dot.names.Given as goal

-- the names so far
abbrev pub invariant-loop-node : goal.invariant-loop-node
invariant-loop-node l = string_bytes l.text ≡ flat_map (name_in l.place) (take l.node-index l.nodes)

use Rattle.std.proofs.Common.{◌≡◌, flat_map, take}
use Rattle.fs_app_dot.specs.Chains.{link_edges}
use Rattle.fs_app_dot.proofs.chain.chain_edges.Given as goal

-- the links so far
abbrev pub invariant-loop-link : goal.invariant-loop-link
invariant-loop-link l = l.edges.items ≡ flat_map (link_edges l.test) (take l.link-index l.links)

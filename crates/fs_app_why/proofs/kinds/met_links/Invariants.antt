use Rattle.std.proofs.Common.{◌≡◌, ◌++◌, length}
use Rattle.fs_app_why.specs.Kinds.{met_links}
use Rattle.fs_app_why.proofs.kinds.met_links.Given as goal

-- the links so far, and those to come
abbrev pub invariant-loop-link : goal.invariant-loop-link
invariant-loop-link l = l.made.items ++ met_links l.first l.second ≡ met_links l.fn.first l.fn.second

abbrev pub decreases-loop-link : goal.decreases-loop-link
decreases-loop-link l = length l.first

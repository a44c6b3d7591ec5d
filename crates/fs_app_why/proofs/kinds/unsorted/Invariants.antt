use Rattle.std.proofs.Common.{◌≡◌, [], fold}
use Rattle.fs_app_why.specs.Kinds.{add}
use Rattle.fs_app_why.proofs.kinds.unsorted.Given as goal

-- the kinds of the chains so far
abbrev pub invariant-loop-chain : goal.invariant-loop-chain
invariant-loop-chain l = l.kinds.items ≡ fold (add l.texts) [] l.yielded

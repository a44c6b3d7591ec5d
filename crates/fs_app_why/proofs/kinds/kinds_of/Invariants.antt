use Rattle.std.proofs.Common.{◌≡◌, [], fold}
use Rattle.fs_app_why.specs.Kinds.{put_kind}
use Rattle.fs_app_why.proofs.kinds.kinds_of.Given as goal

-- the kinds so far, in their order
abbrev pub invariant-loop-kind : goal.invariant-loop-kind
invariant-loop-kind l = l.kinds.items ≡ fold put_kind [] l.yielded

use Rattle.std.proofs.Common.{◌≡◌, filter, take}
use Rattle.fs_check.specs.Ordered.{runs_in}
use Rattle.fs_app_why.specs.Kept.{keeps_kind}
use Rattle.fs_app_why.proofs.weaker.kept.Given as goal

-- those of the kinds so far
abbrev pub invariant-loop-kind : goal.invariant-loop-kind
invariant-loop-kind l =
    l.found.items ≡ filter (keeps_kind (runs_in l.test l.ordered) l.placement l.slot l.ordered.order.listed)
    (take l.kind-index l.kinds)

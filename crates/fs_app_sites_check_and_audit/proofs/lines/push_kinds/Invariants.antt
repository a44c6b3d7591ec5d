use Rattle.std.proofs.Common.{◌≡◌, ◌++◌, Some, flat_map, take}
use Rattle.fs_app_sites_check_and_audit.specs.Lines.{fence_line}
use Rattle.fs_app_sites_check_and_audit.proofs.lines.push_kinds.Given as goal

-- the lines so far
abbrev pub invariant-loop-kind : goal.invariant-loop-kind
invariant-loop-kind l =
    l.lines.items ≡ l.initial.lines.items
    ++ flat_map (λ kind. fence_line l.marks l.site l.wanted (Some kind)) (take l.kind-index l.kinds)

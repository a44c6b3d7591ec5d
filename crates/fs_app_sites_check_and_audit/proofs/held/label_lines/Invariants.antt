use Rattle.std.proofs.Common.{◌≡◌, map, take}
use Rattle.fs_litmus.specs.SiteLabels.{all_of}
use Rattle.fs_app_sites_check_and_audit.proofs.held.label_lines.Given as goal

-- those of the labels so far
abbrev pub invariant-loop-label : goal.invariant-loop-label
invariant-loop-label l = l.lines.items ≡ map (λ label. label.line) (all_of (take l.label-index l.labels))

use Rattle.std.proofs.Common.{◌≡◌, map, take}
use Rattle.fs_litmus.specs.SiteLabels.{site_label_of}
use Rattle.fs_app_sites.specs.Sites.{copy_of, copy_value}
use Rattle.fs_app_sites.proofs.content.copies_of.Given as goal

-- the copies of the labels so far
abbrev pub invariant-loop-label : goal.invariant-loop-label
invariant-loop-label l = map copy_value l.copies.items ≡ map copy_of (map site_label_of (take l.label-index l.labels))

use Rattle.std.proofs.Common.{◌≡◌, map, take}
use Rattle.fs_app_why.specs.Contradictions.{link_row}
use Rattle.fs_app_why.proofs.contradictions.link_rows.Given as goal

abbrev pub invariant-loop-link : goal.invariant-loop-link
invariant-loop-link l = l.rows.items ≡ map (link_row l.test l.lines) (take l.link-index l.links)

use Rattle.std.proofs.Common.{◌≡◌, ◌≤◌, take, length}
use Rattle.std.specs.Str.{IsCharBoundary}
use Rattle.fs_litmus.specs.SiteName.{stem}
use Rattle.fs_litmus.proofs.site_name.stem_len.Given as goal

abbrev pub invariant-loop-len : goal.invariant-loop-len
invariant-loop-len l = record {
  within : l.len ≤ length l.word;
  same : stem (take l.len l.word) ≡ stem l.word;
  boundary : IsCharBoundary l.word l.len;
}

abbrev pub decreases-loop-len : goal.decreases-loop-len
decreases-loop-len l = l.len

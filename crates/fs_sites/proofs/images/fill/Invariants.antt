use Rattle.std.proofs.Common.{◌≡◌, drop}
use Rattle.fs_sites.specs.inner.Fills.{put_all}
use Rattle.fs_sites.proofs.images.fill.Given as goal

abbrev pub invariant-loop-place : goal.invariant-loop-place
invariant-loop-place l = put_all l.placement (drop l.place-index l.places) l.fences ≡ put_all l.placement l.places l.initial.fences

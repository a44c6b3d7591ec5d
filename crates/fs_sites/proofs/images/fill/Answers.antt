use Rattle.std.proofs.Common.{◌≤◌, length, ◌∙◌, ap, sym, arith}
use Rattle.fs_sites.specs.inner.Fills.{put_all}
use Rattle.fs_sites.proofs.Filling.{put_end, filled}
use Rattle.fs_sites.proofs.images.fill.Goals as goal

pub returns : goal.returns
returns c =
    let p = c.args.placement.now in
    let places = c.args.places.now in
    let test = c.loop-place-test.false in
    let past : length places ≤ c.loop-place.place-index = omega arith in
    sym (put_end p places c.loop-place.place-index c.loop-place.fences past)
    ∙ (c.loop-place.invariant ∙ (ap (put_all p places) c.requires.empty ∙ filled p places c.requires.rising))

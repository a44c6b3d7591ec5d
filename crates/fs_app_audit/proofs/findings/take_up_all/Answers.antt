use Rattle.std.proofs.Common.{arith, length, ◌<◌, ◌&&◌, refl}
use Rattle.fs_app_audit.proofs.Taken.{at-same, fit-more, taken-more}
use Rattle.fs_app_audit.proofs.findings.take_up_all.Goals as goal

pub loop-fence-preserved : goal.loop-fence-preserved
loop-fence-preserved c =
    let prices = c.args.prices.now in
    let fences = c.args.fences.now in
    let now = c.loop-fence in
    let low : now.fence-index < length fences = omega arith in
    let fits = c.take_up-all_fit in
    let placement = fits.new.placement in
    record {
      fit = fit-more prices now.placement placement fences now.fence-index _ _ now.all_fit fits.result (now.all_fit && fits.result)
          low (at-same fences now.fence-index _ _ low) now.invariant.fit fits.ensures.fits fits.ensures.taken refl;
      taken = taken-more prices now.placement placement fences now.fence-index _ _
          low (at-same fences now.fence-index _ _ low) now.invariant.taken fits.ensures.taken;
    }

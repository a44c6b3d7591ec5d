use Rattle.fs_app_plain.proofs.ExactMade.{combined_exact}
use Rattle.fs_app_plain.proofs.words.amo_fits.Goals as goal

pub returns-in_default : goal.returns-in_default
returns-in_default c =
    λ _. combined_exact c.args.op c.args.loaded c.args.source c.ranges.loaded.fits c.ranges.source.fits
    c.in_default.not-Add

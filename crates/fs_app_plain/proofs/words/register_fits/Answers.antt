use Rattle.fs_app_plain.proofs.ExactMade.{computed_exact}
use Rattle.fs_app_plain.proofs.words.register_fits.Goals as goal

pub returns-in_default : goal.returns-in_default
returns-in_default c =
    λ _. computed_exact c.args.op c.args.first c.args.second c.ranges.first.fits c.ranges.second.fits
    c.in_default.not-Add c.in_default.not-Sub c.in_default.not-Sll c.in_default.not-Srl c.in_default.not-Sra

use Rattle.fs_app_plain.proofs.ExactMade.{immediate_exact, sum_immediate_exact}
use Rattle.fs_app_plain.proofs.words.immediate_fits.Goals as goal

pub returns-in-Addi : goal.returns-in-Addi
returns-in-Addi c =
    λ fit. sum_immediate_exact c.args.op c.args.word c.args.immediate c.cast_unsigned.result c.in-Addi.is
    c.ranges.word.fits c.ranges.immediate c.cast_unsigned.ensures (c.sum_fits.ensures fit)

pub returns-in_default : goal.returns-in_default
returns-in_default c =
    λ _. immediate_exact c.args.op c.args.word c.args.immediate c.ranges.word.fits c.ranges.immediate
    c.in_default.not-Addi

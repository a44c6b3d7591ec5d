use Rattle.fs_app_plain.proofs.ExactMade.{left_exact}
use Rattle.fs_app_plain.proofs.words.left_fits.Goals as goal

pub returns-then-amount-lt32 : goal.returns-then-amount-lt32
returns-then-amount-lt32 c =
    λ fit. left_exact c.args.word c.args.amount c.signed.result c.saturating_mul.result c.ranges.word.fits
    c.if-amount-lt32.true c.signed.ensures
    c.saturating_mul.ensures (record { sfits = c.saturating_mul.type_inv }) (c.fits.ensures fit)

use Rattle.std.proofs.Common.{sym}
use Rattle.fs_sites.proofs.Sinking.{never-paid, paid-once}
use Rattle.fs_sites.proofs.bound.pay.Goals as goal

pub returns-in_err-least : goal.returns-in_err-least
returns-in_err-least c rest fills broken =
    absurd (never-paid c.args.bar.now c.args.decided.now c.in-Some.rest.now c.args.offers.now rest
    (sym c.in-Some.ensures) (sym c.in_err-least.ensures) fills broken)

pub returns : goal.returns
returns c rest fills broken =
    paid-once c.args.bar.now c.args.decided.now c.in-Some.rest.now c.args.offers.now c.sink.new.offers rest c.in_ok-least.least
    (sym c.in-Some.ensures) (sym c.in_ok-least.ensures) c.sink.ensures fills broken

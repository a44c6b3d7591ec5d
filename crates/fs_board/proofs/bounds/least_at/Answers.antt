use Rattle.std.proofs.Common.{◌≡◌, ◌∙◌, ap, sym}
use Rattle.fs_board_offers.specs.Breaks.{break_at}
use Rattle.fs_board_offers.specs.Parts.{Decision}
use Rattle.fs_board.proofs.Breaks.{least_break_at}
use Rattle.fs_board.proofs.bounds.least_at.Goals as goal

pub returns-then-is_free-clause-value : goal.returns-then-is_free-clause-value
returns-then-is_free-clause-value c =
    let offers = c.args.offers.now in
    let d = c.args.decision.now in
    let slot : c.decision.inside.slot ≡ d.slot = ap (λ (x : Decision). x.slot) c.decision.view_is in
    c.break_at.ensures.value
    ∙ (ap (λ s. break_at offers s c.args.pairs) slot
    ∙ least_break_at offers c.args.pairs d.slot d.decided (sym c.is_free.ensures ∙ c.if-is_free.true))

use Rattle.std.proofs.Common.{◌≡◌, ◌∙◌, ap, sym}
use Rattle.std.specs.List.{list_any}
use Rattle.fs_board_offers.specs.Breaks.{is_break, all_options}
use Rattle.fs_board_offers.specs.Offers.{offer_at}
use Rattle.fs_board_offers.specs.Parts.{Decision}
use Rattle.fs_board.proofs.Breaks.{some_break}
use Rattle.fs_board.proofs.bounds.is_breakable.Goals as goal

pub returns-then-is_free : goal.returns-then-is_free
returns-then-is_free c =
    let offers = c.args.offers.now in
    let d = c.args.decision.now in
    let slot : c.decision.inside.slot ≡ d.slot = ap (λ (x : Decision). x.slot) c.decision.view_is in
    c.has_break.ensures
    ∙ (ap (λ s. list_any (is_break (offer_at offers s) c.args.pairs) all_options) slot
    ∙ some_break offers c.args.pairs d.slot d.decided (sym c.is_free.ensures ∙ c.if-is_free.true))

use Rattle.std.proofs.Common.{◌≡◌, true, sym, subst, ap, ◌∙◌}
use Rattle.fs_kinds.specs.Slot.{is_rising}
use Rattle.fs_board_offers.specs.Offers.{AreOffers}
use Rattle.fs_board_offers.proofs.PricedOffers.{are-offers}
use Rattle.fs_board_offers.proofs.offers.Offers.priced.Goals as goal

pub new-requires : goal.new-requires
new-requires c =
    let rising : is_rising c.deref.result.now ≡ true = ap is_rising c.deref.ensures.value ∙ c.in_ok-slots.ensures.rising in
    subst AreOffers (sym c.in_ok-offers.ensures) (are-offers c.args.prices.now c.deref.result.now c.of-in_range.ensures.table rising)

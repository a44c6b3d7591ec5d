use Rattle.std.proofs.Common.{◌∙◌, ap, map, sym, subst}
use Rattle.fs_board_offers.specs.Offers.{AreOffers}
use Rattle.fs_app_audit.specs.InPlace.{offer_in_place}
use Rattle.fs_app_audit.proofs.Offered.{are_offers_in_place}
use Rattle.fs_app_audit.proofs.places.offers_in_place.Goals as goal

pub new-requires : goal.new-requires
new-requires c =
    let prices = c.args.prices.now in
    let codes = c.args.codes.now in
    let is = c.in_ok-offers.ensures ∙ ap (map (offer_in_place prices codes)) (c.deref.ensures.value ∙ c.in_ok-places.ensures.value) in
    subst AreOffers (sym is) (are_offers_in_place prices c.of-table.ensures.table codes)

pub returns : goal.returns
returns c =
    let prices = c.args.prices.now in
    let codes = c.args.codes.now in
    c.new.ensures ∙ c.in_ok-offers.ensures ∙ ap (map (offer_in_place prices codes)) (c.deref.ensures.value ∙ c.in_ok-places.ensures.value)

use Rattle.std.proofs.Common.{map, string_bytes, subst, sym}
use Rattle.serde_json.specs.View.{view}
use Rattle.fs_board_offers.specs.Offers.{AreOffers}
use Rattle.fs_app_sites.proofs.Offered.{are-offers}
use Rattle.fs_app_sites.proofs.question.offers_of.Goals as goal

pub new-requires : goal.new-requires
new-requires c = subst AreOffers (sym c.in_ok-offers.ensures) (are-offers (view c.args.prices.now) (map string_bytes c.args.names.now))

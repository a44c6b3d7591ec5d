use Rattle.std.proofs.Common.{ap, sym, ◌∙◌}
use Rattle.fs_board_offers.specs.Offers.{offer_at}
use Rattle.fs_board.specs.View.{status_of}
use Rattle.fs_cert.specs.inner.Items.{ways_of}
use Rattle.fs_cert.proofs.Sayable.{ways_are}
use Rattle.fs_cert.proofs.preorder.ways.Goals as goal

pub returns-in-Split-clause-value : goal.returns-in-Split-clause-value
returns-in-Split-clause-value c =
    ways_are (offer_at c.args.offers.now c.in-Split.slot) c.offered.result c.offered.ensures.value
    ∙ ap (λ (status : _). ways_of c.args.offers.now (status_of status)) (sym c.in-Split.is)

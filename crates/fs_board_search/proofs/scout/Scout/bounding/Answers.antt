use Rattle.std.proofs.Common.{map, refl, sym, subst}
use Rattle.std.specs.Arc.{arc_value}
use Rattle.fs_board_offers.specs.Offers.{slots}
use Rattle.fs_board_offers.specs.Questions.{Question}
use Rattle.fs_board.specs.Growth.{AreWitnesses}
use Rattle.fs_board_search.proofs.scout.Scout.bounding.Goals as goal

pub returns : goal.returns
returns c =
    let q = c.args.self.now in
    let known = subst (λ (q : Question). AreWitnesses q.test (slots q.offers) c.self.inside.store) c.self.view_is c.self.invariant.1 in (
      subst (λ ws. AreWitnesses q.test (slots q.offers) (map arc_value ws)) (sym c.new.ensures)
          (c.in_ok-picked.ensures q.test (slots q.offers) known),
      refl,
    )

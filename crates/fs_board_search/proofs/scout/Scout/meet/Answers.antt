use Rattle.std.proofs.Common.{map, sym, subst}
use Rattle.std.specs.Arc.{arc_value}
use Rattle.fs_board_offers.specs.Offers.{slots}
use Rattle.fs_board_offers.specs.Questions.{Question}
use Rattle.fs_board.specs.Growth.{AreWitnesses}
use Rattle.fs_board_search.proofs.scout.Scout.meet.Goals as goal

pub invariant_of-self : goal.invariant_of-self
invariant_of-self c = (
  c.self.invariant.0,
  c.keep_all.ensures (arc_value c.self.inside.question).test (slots (arc_value c.self.inside.question).offers)
      (subst (λ (q : Question). AreWitnesses q.test (slots q.offers) (map arc_value c.args.witnesses.now)) (sym c.self.view_is) c.requires)
      c.self.invariant.1,
  c.self.invariant.2,
)

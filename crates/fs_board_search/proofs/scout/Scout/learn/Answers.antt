use Rattle.std.proofs.Common.{map, sym, subst}
use Rattle.std.specs.Arc.{arc_value}
use Rattle.fs_board_offers.specs.Offers.{slots}
use Rattle.fs_board.specs.Growth.{AreWitnesses}
use Rattle.fs_board_search.proofs.Scouts.{told-witnesses}
use Rattle.fs_board_search.proofs.scout.Scout.learn.Goals as goal

pub invariant_of-self : goal.invariant_of-self
invariant_of-self c =
    let q = arc_value c.self.inside.question in (
      c.self.invariant.0,
      c.keep_all.ensures q.test (slots q.offers)
          (subst (λ ws. AreWitnesses q.test (slots q.offers) (map arc_value ws)) (sym c.as_slice.ensures)
          (told-witnesses c.args.self.now q c.args.reply.now c.in-Seen.bound c.in-Seen.count c.in-Seen.witnesses c.self.view_is c.in-Seen.is c.requires))
          c.self.invariant.1,
      c.self.invariant.2,
    )

pub invariant_of-self-2 : goal.invariant_of-self-2
invariant_of-self-2 c =
    let q = arc_value c.self.inside.question in (
      c.self.invariant.0,
      c.keep_all.ensures q.test (slots q.offers)
          (subst (λ ws. AreWitnesses q.test (slots q.offers) (map arc_value ws)) (sym c.as_slice.ensures)
          (told-witnesses c.args.self.now q c.args.reply.now c.in-Seen.bound c.in-Seen.count c.in-Seen.witnesses c.self.view_is c.in-Seen.is c.requires))
          c.self.invariant.1,
      c.self.invariant.2,
    )

use Rattle.std.proofs.Common.{◌∙◌, sym, ap₂, ◌∷◌, None, arith}
use Rattle.fs_board_offers.specs.Offers.{offer_at}
use Rattle.fs_board_offers.specs.Parts.{decide}
use Rattle.fs_check_certificate.proofs.Children.{one_more}
use Rattle.fs_check_certificate.proofs.stack.Stack.push_children.Goals as goal

pub loop-way-preserved-in_ok-push : goal.loop-way-preserved-in_ok-push
loop-way-preserved-in_ok-push c =
    c.in_ok-push.ensures
    ∙ (ap₂ (λ part parts. part ∷ parts) c.in_ok-decide.ensures c.loop-way.invariant
    ∙ one_more (offer_at c.args.offers.now c.args.slot) (decide c.args.slot c.args.part.now) c.loop-way.way None c.args.self.now (omega (arith, c.loop-way-test.true)) (omega (arith, c.loop-way.auto.way)) (sym c.is_offered.ensures ∙ c.if-is_offered.true))

use Rattle.std.proofs.Common.{sym, ◌∙◌}
use Rattle.fs_check_certificate.proofs.Refuting.{first_unshown, all_shown, bound_holds, bound_fails}
use Rattle.fs_check_certificate.proofs.bounds.judge_bounded.Goals as goal

pub returns-in-Some : goal.returns-in-Some
returns-in-Some c t ws bounded same are costs =
    first_unshown t bounded c.args.part.now same ws c.args.shown.now are c.args.numbers.now c.in-Some.number (sym c.first_unshown.ensures ∙ c.in-Some.is)

pub returns-then-is_bounded : goal.returns-then-is_bounded
returns-then-is_bounded c t ws bounded same are costs =
    bound_holds t bounded c.args.part.now same ws c.args.shown.now are c.args.offers.now c.args.answer.now c.args.numbers.now
    (sym c.first_unshown.ensures ∙ c.in_default.is) c.args.breaks.now costs (sym c.is_bounded.ensures ∙ c.if-is_bounded.true)

pub returns-else-is_bounded : goal.returns-else-is_bounded
returns-else-is_bounded c t ws bounded same are costs = (
  all_shown t bounded c.args.part.now same ws c.args.shown.now are c.args.numbers.now (sym c.first_unshown.ensures ∙ c.in_default.is),
  bound_fails t bounded c.args.part.now same ws c.args.shown.now are c.args.offers.now c.args.answer.now c.args.numbers.now
      (sym c.first_unshown.ensures ∙ c.in_default.is) c.args.breaks.now costs (sym c.is_bounded.ensures ∙ c.if-is_bounded.false),
)

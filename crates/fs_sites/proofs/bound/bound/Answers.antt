use Rattle.std.proofs.Common.{◌≡◌, ◌∙◌, ◌++◌, ◌+◌, ◌≤◌, List, take, drop, length, sym, ap, subst, arith, min}
use Rattle.std.proofs.lemmas.List.{take_at}
use Rattle.fs_board_offers.specs.Offers.{Offer}
use Rattle.fs_sites.specs.Plans.{is_within}
use Rattle.fs_sites.specs.Sinking.{Fills, paid}
use Rattle.fs_sites.proofs.Sinking.{bar-broken, paid-more}
use Rattle.fs_sites.proofs.bound.bound.Goals as goal

pub loop-number-preserved : goal.loop-number-preserved
loop-number-preserved c rest fills breaks =
    let found = c.in-Some.ensures.lookup in
    let so_far = c.loop-number.invariant rest fills breaks in
    let value = c.deref_mut.ensures.value in
    let broken = ap (λ b. is_within b (c.args.decided.now ++ rest)) c.as_slice.ensures
    ∙ bar-broken c.args.bars.now (c.args.decided.now ++ rest) _ c.in-Some.bar.now c.in-Some.bar.now breaks found.3.0 found.1 in
    let paid_here = c.in-Some-pay.ensures rest (subst (λ (us : List Offer). Fills us rest) (sym value) so_far.0) broken in
    let long : length c.pay.new.offers ≡ c.loop-number.offers.len = omega (arith, c.pay.auto.offers, c.deref_mut.ensures.len) in
    let whole : take c.loop-number.offers.len (c.pay.new.offers ++ drop (length c.pay.new.offers) c.loop-number.offers.items) ≡ c.pay.new.offers =
    take_at c.pay.new.offers _ c.loop-number.offers.len long in
    subst (λ (us : List Offer). Fills us rest × (c.saturating_add-least.result + paid us rest ≤ c.args.cost + paid c.args.undecided.now rest)) (sym whole) (
      paid_here.0,
      paid-more c.loop-number.least c.in-Some-pay.paid 340282366920938463463374607431768211455 c.saturating_add-least.result (paid c.loop-number.offers.items rest)
          (paid c.pay.new.offers rest) c.args.cost (paid c.args.undecided.now rest)
          (c.saturating_add-least.ensures ∙ ap (λ n. min (c.loop-number.least + n) 340282366920938463463374607431768211455) c.from.ensures)
          (subst (λ (us : List Offer). c.in-Some-pay.paid + paid c.pay.new.offers rest ≤ paid us rest) value paid_here.1) so_far.1,
    )

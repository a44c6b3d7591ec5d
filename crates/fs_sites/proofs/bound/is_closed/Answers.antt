use Rattle.std.proofs.Common.{◌≡◌, ◌≤◌, ◌∙◌, ◌-◌, ℕ, List, length, take, drop, subst, ap, arith}
use Rattle.std.proofs.lemmas.Bool.{leb-true}
use Rattle.std.proofs.lemmas.List.{take_all}
use Rattle.std.proofs.Math.ListN.{length-drop}
use Rattle.fs_board_offers.specs.Offers.{Offer, cost}
use Rattle.fs_sites.proofs.Walking.{closes}
use Rattle.fs_sites.proofs.bound.is_closed.Goals as goal

-- what is sliced off from number n on
left-behind : (sites offers : List Offer) (n : ℕ) → sites ≡ offers → take (length sites - n) (drop n sites) ≡ drop n offers
left-behind sites offers n same =
    take_all (length sites - n) (drop n sites) (let long = length-drop n sites in omega (arith, long)) ∙ ap (drop n) same

pub returns-in-None-default : goal.returns-in-None-default
returns-in-None-default c closed =
    closes c.args.offers.now c.as_slice.ensures.are c.args.bars.now c.args.decided.now _ c.in_ok-least.least c.cost.result _
    (left-behind c.as_slice.result.now c.args.offers.now (length c.args.decided.now) c.as_slice.ensures.value)
    c.cost.ensures.value c.in_ok-least.ensures (rw c.in-None-default.is-0 tt)

pub returns-in-Some-Some : goal.returns-in-Some-Some
returns-in-Some-Some c closed =
    let offers = c.args.offers.now in
    let same : c.cost-in-Some-Some.result ≡ cost offers c.in-Some-Some.best.now =
    c.cost-in-Some-Some.ensures.value ∙ ap (cost offers) c.as_slice-in-Some-Some.ensures.entries in
    let low : cost offers c.in-Some-Some.best.now ≤ c.in-Some-Some.least =
    subst (λ (n : ℕ). n ≤ c.in-Some-Some.least) same (leb-true c.cost-in-Some-Some.result c.in-Some-Some.least closed) in
    closes offers c.as_slice.ensures.are c.args.bars.now c.args.decided.now _ c.in_ok-least.least c.cost.result _
    (left-behind c.as_slice.result.now offers (length c.args.decided.now) c.as_slice.ensures.value)
    c.cost.ensures.value c.in_ok-least.ensures (rw (c.in-Some-Some.is-0, c.in-Some-Some.is-1) low)

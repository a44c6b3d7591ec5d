use Rattle.std.proofs.Common.{◌≡◌, ◌∙◌, ◌/◌, [], get_or, arith}
use Rattle.fs_cand_listing.specs.Ways.{products}
use Rattle.fs_cand_listing.proofs.Kept.{few_orders, few_sources, chosen_parts, at_number}
use Rattle.fs_cand_listing.specs.inner.Places.{numbered_with}
use Rattle.fs_cand_listing.proofs.Given.{given}
use Rattle.fs_cand_listing.proofs.prepared.Prepared.candidate.Goals as goal

pub nonzero_div-chosen : goal.nonzero_div-chosen
nonzero_div-chosen c =
    (chosen_parts c.args.test.now c.args.self c.requires.prepared c.args.chosen c.count_orders-count.result c.requires.few c.requires.chosen
    c.count_orders-count.ensures.exact).1

pub nonzero_rem-chosen : goal.nonzero_rem-chosen
nonzero_rem-chosen c =
    (chosen_parts c.args.test.now c.args.self c.requires.prepared c.args.chosen c.count_orders-count.result c.requires.few c.requires.chosen
    c.count_orders-count.ensures.exact).1

pub sources-requires-clause-few : goal.sources-requires-clause-few
sources-requires-clause-few c = few_sources c.args.test.now c.args.self c.requires.prepared c.requires.few

pub sources-requires-clause-number : goal.sources-requires-clause-number
sources-requires-clause-number c =
    (chosen_parts c.args.test.now c.args.self c.requires.prepared c.args.chosen c.count_orders-count.result c.requires.few c.requires.chosen
    c.count_orders-count.ensures.exact).2

pub orders-requires-clause-few : goal.orders-requires-clause-few
orders-requires-clause-few c =
    let parts = chosen_parts c.args.test.now c.args.self c.requires.prepared c.args.chosen c.count_orders-count.result c.requires.few c.requires.chosen
    c.count_orders-count.ensures.exact in
    few_orders c.args.test.now c.args.self c.requires.prepared c.requires.few (let l = parts.2 in omega (arith, l))

pub orders-requires-clause-number : goal.orders-requires-clause-number
orders-requires-clause-number c =
    (chosen_parts c.args.test.now c.args.self c.requires.prepared c.args.chosen c.count_orders-count.result c.requires.few c.requires.chosen
    c.count_orders-count.ensures.exact).3

pub returns-clause-ok : goal.returns-clause-ok
returns-clause-ok c =
    let p = c.args.self in
    let count = c.count_orders-count.result in
    let source : c.new.result ≡ get_or (products p.choices.sources.items) (c.args.chosen / count) [] =
    c.new.ensures ∙ c.in_ok-sources.ensures in
    given c.new-3.result p.traces c.new.result c.new-2.result (numbered_with c.args.test.now p.traces c.args.chosen)
    (at_number c.args.test.now p c.requires.prepared c.args.chosen count c.new.result c.new-2.result c.requires.few c.requires.chosen
    c.count_orders-count.ensures.exact source (c.new-2.ensures ∙ c.in_ok-orders.ensures))
    c.new-3.ensures.traces c.new-3.ensures.source c.new-3.ensures.store_order

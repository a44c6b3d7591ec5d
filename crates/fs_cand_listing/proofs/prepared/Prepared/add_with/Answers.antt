use Rattle.std.proofs.Common.{◌∙◌, sym, ap, arith}
use Rattle.fs_cand_listing.proofs.Kept.{few_orders, few_sources, row_fits, one_shown, one_not, row_whole}
use Rattle.fs_cand_listing.proofs.prepared.Prepared.add_with.Goals.{then-shows+in_ok-push, else-shows}
use Rattle.fs_cand_listing.proofs.prepared.Prepared.add_with.Goals as goal

pub sources-requires-clause-few : goal.sources-requires-clause-few
sources-requires-clause-few c = few_sources c.args.test.now c.args.self.now c.requires.prepared c.requires.few

pub orders-requires-clause-few : goal.orders-requires-clause-few
orders-requires-clause-few c =
    few_orders c.args.test.now c.args.self.now c.requires.prepared c.requires.few (let l = c.requires.first in omega (arith, l))

pub overflow_mul-chosen : goal.overflow_mul-chosen
overflow_mul-chosen c =
    let fits = row_fits c.args.test.now c.args.self.now c.requires.prepared c.args.first c.count_orders-count.result c.requires.few c.requires.first
    c.count_orders-count.ensures.exact in
    omega (arith, fits)

pub overflow_add-chosen : goal.overflow_add-chosen
overflow_add-chosen c =
    let fits = row_fits c.args.test.now c.args.self.now c.requires.prepared c.args.first c.count_orders-count.result c.requires.few c.requires.first
    c.count_orders-count.ensures.exact in
    let low = c.loop-second-test.true in
    omega (arith, fits, low)

pub loop-second-preserved : goal.loop-second-preserved
loop-second-preserved c =
    let t = c.args.test.now in
    let p = c.args.self.now in
    let sources = c.deref.result.now in
    let orders = c.deref-in-loop-second.result.now in
    let first = c.deref.ensures.value ∙ c.in_ok-sources.ensures in
    let second = c.deref-in-loop-second.ensures.value ∙ c.in_ok-orders.ensures in
    elim c.if-shows.branch [
      | then-shows+in_ok-push w ↦ ap (λ ks. ks.items) w.kept-is ∙ w.in_ok-push.ensures.items
          ∙ one_shown t p c.requires.prepared c.args.runs c.args.first c.loop-second.second c.count_orders-count.result
          c.args.kept.now.items c.loop-second.kept.items c.requires.few c.requires.first c.count_orders-count.ensures.exact c.loop-second-test.true
          sources orders first second c.loop-second.invariant (sym c.shows.ensures ∙ w.if-shows.true)
      | else-shows w ↦ ap (λ ks. ks.items) w.kept-is
          ∙ one_not t p c.requires.prepared c.args.runs c.args.first c.loop-second.second c.count_orders-count.result
          c.args.kept.now.items c.loop-second.kept.items c.requires.few c.requires.first c.count_orders-count.ensures.exact c.loop-second-test.true
          sources orders first second c.loop-second.invariant (sym c.shows.ensures ∙ w.if-shows.false)
    ]

pub returns : goal.returns
returns c =
    row_whole c.args.test.now c.args.self.now c.requires.prepared c.args.runs c.args.first c.loop-second.second c.count_orders-count.result
    c.args.kept.now.items c.loop-second.kept.items c.requires.few c.requires.first c.count_orders-count.ensures.exact
    (omega (arith, c.loop-second-test.false, c.loop-second.auto.second-end)) c.loop-second.invariant

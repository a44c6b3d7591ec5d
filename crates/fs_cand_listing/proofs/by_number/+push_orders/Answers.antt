use Rattle.std.proofs.Common.{◌∙◌, ◌∷◌, ◌/◌, [], get_or, ap, length, arith}
use Rattle.fs_cand_listing.specs.Ways.{orders}
use Rattle.fs_cand_listing.proofs.Stepwise.{rest_once, rest_few, rest_number, orders_pushed}
use Rattle.fs_cand_listing.proofs.by_number.+push_orders.Goals as goal

pub push_orders-requires : goal.push_orders-requires
push_orders-requires t c =
    let ns = c.in-Some.list.now in
    let rest = c.in-Some.rest.now in
    let lists = c.args.stores.now in
    let count = c.count_store_orders-count.result in
    let n = c.args.number in
    let split = c.in-Some.ensures.cases.0 in
    let long = ap length split in (
      omega (arith, c.decreases, long),
      (
        omega (arith, c.requires.low, long),
        (
          rest_once c.args.first ns rest lists count n split c.requires.once c.count_store_orders-count.ensures.exact c.requires.few c.requires.number,
          (
            rest_few c.args.first ns rest lists count n split c.requires.once c.count_store_orders-count.ensures.exact c.requires.few c.requires.number,
            rest_number c.args.first ns rest lists count n split c.requires.once c.count_store_orders-count.ensures.exact c.requires.few c.requires.number,
          ),
        ),
      ),
    )

pub returns : goal.returns
returns t c =
    let ns = c.in-Some.list.now in
    let rest = c.in-Some.rest.now in
    orders_pushed c.args.first ns rest c.args.stores.now c.count_store_orders-count.result c.args.number c.in-Some.ensures.cases.0 c.requires.once
    c.count_store_orders-count.ensures.exact c.requires.few c.requires.number
    c.push_orders.result c.in_ok-order_of.field-0 c.args.orders.now.items c.push.new.self.items c.push_orders.new.orders.items
    (c.in_ok-order_of.ensures ∙ ap (λ ms. c.args.first ∷ get_or (orders ms) (c.args.number / c.count_store_orders-count.result) []) c.deref.ensures)
    c.in_ok-push.ensures.items c.push_orders.ensures

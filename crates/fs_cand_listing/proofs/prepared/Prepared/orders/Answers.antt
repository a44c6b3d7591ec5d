use Rattle.std.proofs.Common.{◌∙◌, ◌++◌, [], get_or, length, refl, sym, ap, subst, arith}
use Rattle.fs_cand_listing.specs.Ways.{products}
use Rattle.fs_cand_listing.specs.inner.Ordered.{orders_from, AreEachOnce}
use Rattle.fs_cand_listing.proofs.Kept.{orders_are, stores_once, stores_low}
use Rattle.fs_cand_listing.proofs.prepared.Prepared.orders.Goals as goal

pub push_orders-requires-clause-low : goal.push_orders-requires-clause-low
push_orders-requires-clause-low c =
    let low = stores_low c.args.test.now c.args.self.now c.requires.prepared in
    let long = ap length c.deref.ensures.value in
    omega (arith, low, long)

pub push_orders-requires-clause-once : goal.push_orders-requires-clause-once
push_orders-requires-clause-once c =
    subst AreEachOnce (sym c.deref.ensures.value) (stores_once c.args.test.now c.args.self.now c.requires.prepared)

pub returns : goal.returns
returns c =
    let p = c.args.self.now in
    c.in_ok-push_orders.ensures
    ∙ ap (λ xs. xs ++ get_or (products (orders_from c.args.self.now.choices.count c.deref.result.now)) c.args.number []) c.new-orders.ensures.items
    ∙ ap (λ ss. get_or (products (orders_from c.args.self.now.choices.count ss)) c.args.number []) c.deref.ensures.value
    ∙ ap (λ lists. get_or (products lists) c.args.number []) (orders_are c.args.test.now p c.requires.prepared p.choices.count refl)

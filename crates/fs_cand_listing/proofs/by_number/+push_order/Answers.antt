use Rattle.std.proofs.Common.{◌≡◌, ◌∙◌, ◌/◌, ◌%◌, ◌<◌, ◌≤◌, ◌++◌, [], get_or, length, ap, refl, sym, subst, arith}
use Rattle.std.specs.Prelude.{OnOk}
use Rattle.std.proofs.lemmas.Bool.{eqb-true}
use Rattle.std.proofs.lemmas.List.{append-nil}
use Rattle.fs_model.proofs.ListedNumbers.{AreOnce}
use Rattle.fs_cert_evidence.specs.CandidateFaults.{most_candidates}
use Rattle.fs_cand_listing.specs.Ways.{others, factorial, orders}
use Rattle.fs_cand_listing.proofs.Stepwise.{order_digit, fewer, others_are_once, others_few, others_number, order_pushed, no_order}
use Rattle.fs_cand_listing.proofs.by_number.+push_order.Goals as goal

pub bounds-stores-number : goal.bounds-stores-number
bounds-stores-number t c =
    order_digit c.args.stores.now c.requires.once (grind (arith, c.if-is_empty.false, c.is_empty.ensures)) c.args.number
    c.count_orders-count.result c.count_orders-count.ensures.exact c.requires.few c.requires.number

pub push_order-requires : goal.push_order-requires
push_order-requires t c =
    let ns = c.args.stores.now in
    let count = c.count_orders-count.result in
    let n = c.args.number in
    let some : 0 < length ns = grind (arith, c.if-is_empty.false, c.is_empty.ensures) in
    let exact = c.count_orders-count.ensures.exact in
    let a = get_or ns (n / count) 0 in
    let rest = c.deref.result.now in
    let is : rest ≡ others ns a = c.deref.ensures.value ∙ c.in_ok-others.ensures in
    let less = fewer ns c.requires.once some n count exact c.requires.few c.requires.number a refl in
    let long = ap length is in (
      omega (arith, c.decreases, less, long, some),
      (
        subst AreOnce (sym is) (others_are_once ns c.requires.once some n count exact c.requires.few c.requires.number a refl),
        (
          subst (λ ms. factorial (length ms) ≤ most_candidates) (sym is)
              (others_few ns c.requires.once some n count exact c.requires.few c.requires.number a refl),
          subst (λ ms. n % count < factorial (length ms)) (sym is)
              (others_number ns c.requires.once some n count exact c.requires.few c.requires.number a refl),
        ),
      ),
    )

pub returns : goal.returns
returns t c =
    let ns = c.args.stores.now in
    let count = c.count_orders-count.result in
    let n = c.args.number in
    let some : 0 < length ns = grind (arith, c.if-is_empty.false, c.is_empty.ensures) in
    let a = get_or ns (n / count) 0 in
    let is : c.deref.result.now ≡ others ns a = c.deref.ensures.value ∙ c.in_ok-others.ensures in
    order_pushed ns c.requires.once some n count c.count_orders-count.ensures.exact c.requires.few c.requires.number a refl
    c.push_order.result c.args.order.now.items c.push.new.self.items c.push_order.new.order.items c.in_ok-push.ensures.items
    (subst (λ ms. OnOk c.push_order.result (c.push_order.new.order.items ≡ c.push.new.self.items ++ get_or (orders ms) (n % count) [])) is
    c.push_order.ensures)

pub returns-then-is_empty : goal.returns-then-is_empty
returns-then-is_empty t c =
    let ns = c.args.stores.now in
    let before = c.args.order.now.items in
    let none : length ns ≡ 0 = eqb-true (length ns) 0 (sym c.is_empty.ensures ∙ c.if-is_empty.true) in
    sym (ap (λ ys. before ++ ys) (no_order ns c.args.number none c.requires.number) ∙ append-nil before)

use Rattle.std.proofs.Common.{Option, Some, List, sym, subst, refl}
use Rattle.fs_kinds.specs.declared.placement.Entry.{Entry}
use Rattle.fs_sites.specs.Walks.{IsBestWith, CostsLess, CostsNoLess}
use Rattle.fs_sites.proofs.Placed.{begins-whole, placement-from}
use Rattle.fs_sites.proofs.Walking.{with-closed, with-this, unbroken-closes, dear-closes}
use Rattle.fs_sites.proofs.plan.with_this.Goals as goal
use Rattle.fs_sites.proofs.plan.with_this.Goals.{else-breaks_all-via-then-breaks_all+else-is_cheaper, else-breaks_all-via-else-breaks_all}

pub placement_of-requires : goal.placement_of-requires
placement_of-requires c =
    placement-from c.args.offers.now c.args.cursor.now c.as_slice-are.ensures.are.rising
    (begins-whole c.args.offers.now c.args.cursor.now c.requires.begins c.requires.whole)

pub returns-in_ok-placement_of-clause-ok : goal.returns-in_ok-placement_of-clause-ok
returns-in_ok-placement_of-clause-ok c =
    let offers = c.args.offers.now in
    let cursor = c.args.cursor.now in
    let are = c.as_slice-are.ensures.are in
    let here = placement-from offers cursor are.rising (begins-whole offers cursor c.requires.begins c.requires.whole) in
    subst (λ (p : List Entry). IsBestWith offers c.args.bars.now cursor (Some p)) (sym c.in_ok-placement_of.ensures.ok)
    (with-this offers are c.requires.plain c.args.bars.now cursor c.args.best c.requires.begins here (sym c.if-breaks_all.ensures)
    (subst (λ (best : Option (List Entry)). CostsLess offers best cursor) c.as_ref.ensures.value (c.if-is_cheaper.ensures.yes refl))
    c.requires.before)

pub returns-else-breaks_all-clause-ok : goal.returns-else-breaks_all-clause-ok
returns-else-breaks_all-clause-ok c =
    let offers = c.args.offers.now in
    let cursor = c.args.cursor.now in
    let are = c.as_slice-are.ensures.are in
    let here = placement-from offers cursor are.rising (begins-whole offers cursor c.requires.begins c.requires.whole) in
    with-closed offers are c.requires.plain c.args.bars.now cursor c.args.best c.requires.begins c.requires.before
    (elim c.else-breaks_all.branch [
      | else-breaks_all-via-then-breaks_all+else-is_cheaper w ↦
          dear-closes offers are c.requires.plain c.args.bars.now cursor c.args.best here
          (subst (λ (best : Option (List Entry)). CostsNoLess offers best cursor) w.as_ref.ensures.value (w.if-is_cheaper.ensures.no refl))
      | else-breaks_all-via-else-breaks_all w ↦
          unbroken-closes offers are c.requires.plain c.args.bars.now cursor c.args.best here (sym w.if-breaks_all.ensures)
    ])

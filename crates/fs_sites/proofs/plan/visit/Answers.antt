use Rattle.std.proofs.Common.{Option, List, subst}
use Rattle.fs_kinds.specs.declared.placement.Entry.{Entry}
use Rattle.fs_sites.specs.Walks.{Closes}
use Rattle.fs_sites.proofs.Walking.{with-closed}
use Rattle.fs_sites.proofs.plan.visit.Goals as goal

pub returns-clause-seen : goal.returns-clause-seen
returns-clause-seen c seen =
    let offers = c.args.offers.now in
    let bars = c.args.bars.now in
    let cursor = c.args.cursor.now in
    with-closed offers c.as_slice.ensures.are c.requires.plain bars cursor c.args.best c.requires.begins c.requires.before
    (subst (λ (best : Option (List Entry)). Closes offers bars best cursor) c.as_ref.ensures.value (c.in_ok-is_seen.ensures seen))

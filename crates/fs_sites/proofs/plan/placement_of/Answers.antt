use Rattle.std.proofs.Common.{◌≡◌, ◌∙◌, ◌+◌, suc, get_or, ap, arith}
use Rattle.fs_kinds.specs.Placement.{has_slot, with_kind}
use Rattle.fs_kinds.specs.Slot.{is_rising}
use Rattle.fs_kinds.proofs.Entries.{blank}
use Rattle.fs_sites.proofs.Entering.{filled_so_far, filled-more, has-next}
use Rattle.fs_sites.proofs.plan.placement_of.Goals as goal

pub put-requires : goal.put-requires
put-requires c =
    let entries = c.args.entries.now in
    let i = c.loop-entry.entry-index in
    ap (has_slot (get_or entries i blank).slot) c.loop-entry.invariant ∙ has-next entries i blank c.loop-entry-test.true

pub loop-entry-preserved : goal.loop-entry-preserved
loop-entry-preserved c =
    let entries = c.args.entries.now in
    let i = c.loop-entry.entry-index in
    let e = get_or entries i blank in
    let more : suc i ≡ i + 1 = omega arith in
    c.put.ensures
    ∙ (ap (with_kind e.slot e.kind) c.loop-entry.invariant
    ∙ (filled-more entries i blank (ap is_rising c.requires.slots ∙ c.in_ok-slots.ensures.rising) c.loop-entry-test.true
    ∙ ap (λ n. filled_so_far n entries) more))

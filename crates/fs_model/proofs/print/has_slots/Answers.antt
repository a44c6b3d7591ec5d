use Rattle.std.proofs.Common.{sym, ◌∙◌}
use Rattle.fs_model.proofs.SlotLists.{slots_of-begin_alike, begin_alike-same}
use Rattle.fs_model.proofs.print.has_slots.Goals as goal

pub returns-then-entries-slots : goal.returns-then-entries-slots
returns-then-entries-slots c = (
  λ alike. slots_of-begin_alike c.args.entries.now c.args.slots.now c.if-entries-slots.true (sym c.begin_alike.ensures ∙ alike),
  λ same. c.begin_alike.ensures ∙ begin_alike-same c.args.entries.now c.args.slots.now same,
)

use Rattle.std.proofs.Common.{ap, sym, ◌∙◌}
use Rattle.std.specs.Option.{option_and_then}
use Rattle.fs_kinds.specs.declared.placement.Entry.{Entry}
use Rattle.fs_kinds.specs.Slot.{is_same_slot}
use Rattle.fs_kinds.proofs.Entries.{find-none, find-some}
use Rattle.fs_kinds.proofs.placement.Placement.get.Goals as goal

pub returns-in_err-index : goal.returns-in_err-index
returns-in_err-index c =
    let none = find-none (λ (e : Entry). is_same_slot e.slot c.args.slot) c.args.self.now (sym (c.in_err-index.ensures)) in
    c.from_residual.ensures ∙ sym (ap (option_and_then (λ e. e.kind)) none)

pub returns : goal.returns
returns c =
    let some = find-some (λ (e : Entry). is_same_slot e.slot c.args.slot) c.args.self.now c.in_ok-index.index c.index.result.now (sym (c.in_ok-index.ensures)) in
    rw (some, ← c.self.view_is) (ap (λ e. e.kind) c.index.ensures)

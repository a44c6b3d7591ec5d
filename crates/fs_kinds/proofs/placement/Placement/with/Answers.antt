use Rattle.std.proofs.Common.{◌≡◌, sym, set}
use Rattle.std.proofs.lemmas.List.Quantifiers.{position-Some}
use Rattle.std.proofs.lemmas.List.Folds.{list_any_at}
use Rattle.fs_kinds.specs.declared.placement.Entry.{Entry}
use Rattle.fs_kinds.specs.Slot.{is_same_slot}
use Rattle.fs_kinds.specs.Placement.{with_kind}
use Rattle.fs_kinds.proofs.Entries.{list_any-none, set-entry_with, slots_of-with_kind}
use Rattle.fs_kinds.proofs.placement.Placement.with.Goals as goal

pub returns-in_default-clause-lacking : goal.returns-in_default-clause-lacking
returns-in_default-clause-lacking c =
    list_any-none (λ (e : Entry). is_same_slot e.slot c.args.slot) c.args.self.now (sym (c.in_default.ensures))

-- the entry that was written is the slot's
changed : (c : goal.After-self-1) → set c.self.inside.entries.items c.in-Some.index (record { slot = c.index_mut.result.now.slot; kind = c.args.kind }) ≡ with_kind c.args.slot c.args.kind c.args.self.now
changed c =
    let found = position-Some (λ (e : Entry). is_same_slot e.slot c.args.slot) c.args.self.now c.in-Some.index c.index_mut.result.now (sym (c.in-Some.ensures)) in
    rw (← c.self.view_is, c.index_mut.ensures.value)
    (set-entry_with c.args.slot c.args.kind c.self.inside.entries.items c.in-Some.index c.index_mut.result.now c.self.invariant (rw c.self.view_is found.0) (rw c.self.view_is found.1))

pub invariant_of-self : goal.invariant_of-self
invariant_of-self c = rw (changed c, slots_of-with_kind, ← c.self.view_is) c.self.invariant

pub returns-clause-ok : goal.returns-clause-ok
returns-clause-ok c =
    let found = position-Some (λ (e : Entry). is_same_slot e.slot c.args.slot) c.args.self.now c.in-Some.index c.index_mut.result.now (sym (c.in-Some.ensures)) in
    list_any_at (λ (e : Entry). is_same_slot e.slot c.args.slot) c.args.self.now c.in-Some.index c.index_mut.result.now found.0 found.1

pub returns-clause-changed : goal.returns-clause-changed
returns-clause-changed c = changed c

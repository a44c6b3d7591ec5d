use Rattle.std.proofs.Common.{◌≡◌, Some, sym, subst, ◌∙◌}
use Rattle.std.specs.Prelude.{slice_get, List}
use Rattle.fs_kinds.specs.declared.slot.Slot.{Slot}
use Rattle.fs_check_certificate.proofs.Walking.{split_taken}
use Rattle.fs_check_certificate.proofs.tree.Grounds.split.Goals as goal

pub returns-in_ok-push_children-in-Some : goal.returns-in_ok-push_children-in-Some
returns-in_ok-push_children-in-Some c t cert offered same_slots part_slots others =
    let here = c.in-Some.ensures.some in
    split_taken t c.args.self.now.offers.now cert c.args.self.now.answer.now c.args.part.now c.args.stack.now c.push_children.new.self c.args.number c.args.index c.in-Some.slot
    (subst (λ (ss : List Slot). slice_get ss c.args.number ≡ Some c.in-Some.slot) (same_slots ∙ sym offered) here.0) here.1 part_slots others c.in_ok-push_children-in-Some.ensures

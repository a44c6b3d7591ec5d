use Rattle.std.proofs.Common.{sym, ◌∙◌, subst}
use Rattle.std.specs.List.{AllByRecursion}
use Rattle.fs_kinds.specs.Slot.{IsSlot}
use Rattle.fs_check_certificate.proofs.answer.answered_placement.Goals as goal

pub fill-requires-clause-small : goal.fill-requires-clause-small
fill-requires-clause-small c =
    subst (AllByRecursion IsSlot) (sym (c.deref-2.ensures.value ∙ c.in_ok-slots.ensures.value)) c.requires

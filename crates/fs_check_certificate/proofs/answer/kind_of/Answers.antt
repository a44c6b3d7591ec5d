use Rattle.std.proofs.Common.{◌≡◌, false, sym, ◌∙◌, ap, arith}
use Rattle.std.proofs.lemmas.Bool.{false≢true}
use Rattle.fs_kinds.specs.Slot.{IsSlot, is_same_slot}
use Rattle.fs_check_certificate.proofs.Filled.{itself}
use Rattle.fs_check_certificate.proofs.Words.{same_fence}
use Rattle.fs_check_certificate.proofs.answer.kind_of.Goals as goal

pub returns-else-eq-clause-none : goal.returns-else-eq-clause-none
returns-else-eq-clause-none c = λ kind e.
    let named : IsSlot c.in_ok-named.named = (omega arith, omega arith) in
    let here : IsSlot c.args.slot = (omega arith, omega arith) in
    let same = same_fence c.in_ok-named.named c.args.slot c.in_ok-named.kind kind named here (sym c.in_ok-named.ensures.named ∙ e) in
    let no : is_same_slot c.in_ok-named.named c.args.slot ≡ false = sym c.eq.ensures ∙ c.if-eq.false in
    false≢true (sym no ∙ ap (λ s. is_same_slot s c.args.slot) same.0 ∙ itself c.args.slot)

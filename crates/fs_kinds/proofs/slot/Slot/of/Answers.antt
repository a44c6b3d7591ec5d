use Rattle.std.proofs.Common.{◌∙◌, sym}
use Rattle.fs_kinds.proofs.PlaceNames.{place-named, slot-named, slot-numbers, none_some}
use Rattle.fs_kinds.proofs.slot.Slot.of.Goals as goal

pub returns-in_err-hart-clause-none : goal.returns-in_err-hart-clause-none
returns-in_err-hart-clause-none c =
    rw c.from_residual.ensures (λ slot is named. c.in_err-hart.ensures.none _ (slot-named c.args.text.now slot is named))

pub returns-in_err-hart-2-clause-none : goal.returns-in_err-hart-2-clause-none
returns-in_err-hart-2-clause-none c =
    let found = c.in_ok-hart.ensures.some in
    rw c.from_residual-in_err-hart-2.ensures
    (λ slot is named.
    let numbers = slot-numbers c.args.text.now found.0 slot found.1 is named in
    let none = sym c.in_err-hart-2.was ∙ found.2 ∙ numbers.0 in
    none_some none)

pub returns-in_err-at-clause-none : goal.returns-in_err-at-clause-none
returns-in_err-at-clause-none c =
    let found = c.in_ok-hart.ensures.some in
    rw c.from_residual-in_err-at.ensures
    (λ slot is named.
    let numbers = slot-numbers c.args.text.now found.0 slot found.1 is named in
    let none = sym c.in_err-at.was ∙ found.3 ∙ numbers.1 in
    none_some none)

pub returns-clause-named : goal.returns-clause-named
returns-clause-named c =
    let found = c.in_ok-hart.ensures.some in
    (place-named c.args.text.now found.0 c.in_ok-hart-2.field-0 c.in_ok-at.field-0 found.1 (sym c.in_ok-hart-2.was ∙ found.2) (sym c.in_ok-at.was ∙ found.3)).0

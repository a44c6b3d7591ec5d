use Rattle.std.proofs.Common.{Some, None}
use Rattle.fs_kinds.proofs.Names.{word_cut}
use Rattle.fs_kinds.proofs.slot.read_fence.Goals as goal

pub returns-in_err-slot-clause-none : goal.returns-in_err-slot-clause-none
returns-in_err-slot-clause-none c =
    rw c.from_residual.ensures
    (λ slot kind is named. word_cut c.args.text.now None c.in_err-slot.ensures.cases slot kind is named)

pub returns-in_err-of-clause-none : goal.returns-in_err-of-clause-none
returns-in_err-of-clause-none c =
    rw c.from_residual-in_err-of.ensures
    (λ slot kind is named.
    let cut = word_cut c.args.text.now (Some (c.in_ok-slot.slot, c.in_ok-slot.kind)) c.in_ok-slot.ensures.cases slot kind is named in
    c.in_err-of.ensures.none slot is cut.0)

pub returns-in_err-of-2-clause-none : goal.returns-in_err-of-2-clause-none
returns-in_err-of-2-clause-none c =
    rw c.from_residual-in_err-of-2.ensures
    (λ slot kind is named.
    let cut = word_cut c.args.text.now (Some (c.in_ok-slot.slot, c.in_ok-slot.kind)) c.in_ok-slot.ensures.cases slot kind is named in
    c.in_err-of-2.ensures.none kind cut.1)

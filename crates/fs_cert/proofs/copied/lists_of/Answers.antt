use Rattle.std.proofs.Common.{subst, sym, arith}
use Rattle.std.specs.List.{AllZip}
use Rattle.fs_cert.specs.inner.Copies.{AreCopiedChoices}
use Rattle.fs_cert.proofs.Zips.{zip_next, zip_whole}
use Rattle.fs_cert.proofs.copied.lists_of.Goals as goal

pub loop-choices-preserved : goal.loop-choices-preserved
loop-choices-preserved c =
    zip_next AreCopiedChoices c.push.new.self.items c.loop-choices.copy.items c.in_ok-choices_of.field-0 c.args.lists.now c.loop-choices.choices-index c.choices-item.result
    c.in_ok-push.ensures.items c.loop-choices.invariant (omega arith) c.choices-item.is (subst (AreCopiedChoices c.in_ok-choices_of.field-0) c.as_slice.ensures c.in_ok-choices_of.ensures)

pub returns : goal.returns
returns c =
    subst (λ copy. AllZip AreCopiedChoices copy c.args.lists.now) (sym c.new.ensures)
    (zip_whole AreCopiedChoices c.loop-choices.copy.items c.args.lists.now c.loop-choices.choices-index (omega arith) c.loop-choices.invariant)

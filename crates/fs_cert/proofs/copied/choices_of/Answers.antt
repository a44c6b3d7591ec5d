use Rattle.std.proofs.Common.{subst, sym, arith}
use Rattle.std.specs.List.{AllZip}
use Rattle.fs_cert.specs.inner.Copies.{IsCopiedChoice}
use Rattle.fs_cert.proofs.Zips.{zip_add, zip_whole}
use Rattle.fs_cert.proofs.copied.choices_of.Goals as goal

pub loop-choice-preserved : goal.loop-choice-preserved
loop-choice-preserved c =
    zip_add IsCopiedChoice c.push.new.self.items c.loop-choice.copy.items c.choice_of.result c.args.choices.now c.loop-choice.choice-index _
    c.in_ok-push.ensures.items c.loop-choice.invariant (omega arith) c.choice_of.ensures

pub returns : goal.returns
returns c =
    subst (λ copy. AllZip IsCopiedChoice copy c.args.choices.now) (sym c.new.ensures)
    (zip_whole IsCopiedChoice c.loop-choice.copy.items c.args.choices.now c.loop-choice.choice-index (omega arith) c.loop-choice.invariant)

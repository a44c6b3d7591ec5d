use Rattle.std.proofs.Common.{subst, arith}
use Rattle.fs_litmus_syntax.specs.Labels.{IsLabelFault}
use Rattle.fs_kinds.specs.FaultOrder.{IsFirstOf}
use Rattle.fs_litmus_syntax.proofs.HartLemmas.{short_is, long_is}
use Rattle.fs_litmus_syntax.proofs.hart.code_of.Goals as goal

pub returns-in-Some : goal.returns-in-Some
returns-in-Some c = subst (λ o. IsFirstOf (IsLabelFault c.args.listing.now) o) c.in-Some.is c.requires.first

pub returns-then-count-gt-MOST_INSTRUCTIONS : goal.returns-then-count-gt-MOST_INSTRUCTIONS
returns-then-count-gt-MOST_INSTRUCTIONS c =
    let hart = c.args.listing.now in
    let clean = subst (λ o. IsFirstOf (IsLabelFault hart) o) c.in_default.is c.requires.first in
    long_is hart c.instruction_count-count.result clean c.instruction_count-count.ensures c.if-count-gt-MOST_INSTRUCTIONS.true

pub returns : goal.returns
returns c =
    let hart = c.args.listing.now in
    let clean = subst (λ o. IsFirstOf (IsLabelFault hart) o) c.in_default.is c.requires.first in
    let same = c.instruction_count-count.ensures in
    let most = c.if-count-gt-MOST_INSTRUCTIONS.false in
    short_is hart _ clean c.in_ok-resolve.ensures (omega (arith, same, most))

use Rattle.std.proofs.Common.{◌≡◌, ◌<◌, true, length, subst, arith}
use Rattle.fs_sites_check.specs.Valid.{IsRefutedWith}
use Rattle.fs_sites_check.proofs.Lists.{next}
use Rattle.fs_sites_check.proofs.refuted.first_unrefuted.Goals as goal

pub loop-number-preserved : goal.loop-number-preserved
loop-number-preserved c =
    let parts = c.args.parts.now in
    let cycles = c.args.cycles.now in
    let p = c.args.placement.now in
    let number = c.loop-number.number in
    let test = c.loop-number-test.true in
    let same = c.requires.same in
    let low : number < length parts = omega (arith, test) in
    let within : number < length cycles = omega (arith, test, same) in
    let part = c.index-parts-number.result in
    let passes : c.in_ok-is_refuted.field-0 ≡ true = grind (arith, c.if-not-branch.false) in
    next (IsRefutedWith p) parts cycles number part c.index-cycles-number.result low within c.index-parts-number.is c.index-cycles-number.is
    c.loop-number.invariant (subst (IsRefutedWith p part) c.deref.ensures (c.in_ok-is_refuted.ensures.ok passes))

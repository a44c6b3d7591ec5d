use Rattle.std.proofs.Common.{◌<◌, ◌+◌, IfSome, length, take, sym, subst, arith}
use Rattle.std.specs.List.{AllZip}
use Rattle.fs_sites_check.specs.Valid.{IsBarBy, IsSaid}
use Rattle.fs_sites_check.proofs.Lists.{pushed}
use Rattle.fs_sites_check.proofs.bars.bars_by.Goals as goal

pub bar_by-requires-clause-said : goal.bar_by-requires-clause-said
bar_by-requires-clause-said c =
    let test = c.loop-index-test.true in
    let low : c.loop-index.index < length c.args.witnesses.now = omega (arith, test) in
    subst IsSaid (sym c.index-witnesses-index.is) (c.requires.said c.loop-index.index c.index-witnesses-index.result low)

pub loop-index-preserved : goal.loop-index-preserved
loop-index-preserved c =
    let witnesses = c.args.witnesses.now in
    let i = c.loop-index.index in
    let test = c.loop-index-test.true in
    let low : i < length witnesses = omega (arith, test) in
    let R = IsBarBy c.args.parts.now c.args.sites in
    subst (AllZip R (take (i + 1) witnesses)) (sym c.in_ok-push.ensures.items)
    (pushed R witnesses c.loop-index.bars.items i c.index-witnesses-index.result c.in-Some.bar low c.index-witnesses-index.is c.loop-index.invariant
    (subst (λ found. IfSome found (R c.index-witnesses-index.result)) c.in-Some.is c.in_ok-bar.ensures.ok))

use Rattle.std.proofs.Common.{subst, sym, arith}
use Rattle.std.specs.List.{AllZip}
use Rattle.fs_cert.specs.inner.Copies.{IsCopiedCycle}
use Rattle.fs_cert.proofs.Zips.{zip_next, zip_whole}
use Rattle.fs_cert.proofs.cycles.listed_of.Goals as goal

pub loop-links-preserved : goal.loop-links-preserved
loop-links-preserved c =
    zip_next IsCopiedCycle c.push.new.self.items c.loop-links.copy.items c.in_ok-cycle_of.field-0 c.args.cycles.now c.loop-links.links-index c.links-item.result
    c.in_ok-push.ensures.items c.loop-links.invariant (omega arith) c.links-item.is (subst (IsCopiedCycle c.in_ok-cycle_of.field-0) c.as_slice.ensures c.in_ok-cycle_of.ensures)

pub returns : goal.returns
returns c =
    subst (λ copy. AllZip IsCopiedCycle copy c.args.cycles.now) (sym c.new.ensures)
    (zip_whole IsCopiedCycle c.loop-links.copy.items c.args.cycles.now c.loop-links.links-index (omega arith) c.loop-links.invariant)

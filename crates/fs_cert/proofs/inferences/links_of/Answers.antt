use Rattle.std.proofs.Common.{subst, sym, arith}
use Rattle.std.specs.List.{AllZip}
use Rattle.fs_cert.specs.inner.Copies.{IsSameLink}
use Rattle.fs_cert.proofs.Zips.{zip_next, zip_whole}
use Rattle.fs_cert.proofs.inferences.links_of.Goals as goal

pub loop-link-preserved : goal.loop-link-preserved
loop-link-preserved c =
    zip_next IsSameLink c.push.new.self.items c.loop-link.copy.items c.link_of.result c.args.links.now c.loop-link.link-index c.link-item.result
    c.in_ok-push.ensures.items c.loop-link.invariant (omega arith) c.link-item.is c.link_of.ensures

pub returns : goal.returns
returns c =
    subst (λ copy. AllZip IsSameLink copy c.args.links.now) (sym c.new.ensures)
    (zip_whole IsSameLink c.loop-link.copy.items c.args.links.now c.loop-link.link-index (omega arith) c.loop-link.invariant)

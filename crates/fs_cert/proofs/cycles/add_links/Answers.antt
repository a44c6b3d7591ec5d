use Rattle.std.proofs.Common.{arith}
use Rattle.fs_cert.specs.inner.Copies.{IsCopiedLink}
use Rattle.fs_cert.proofs.Zips.{zip_on}
use Rattle.fs_cert.proofs.cycles.add_links.Goals as goal

pub loop-link-preserved : goal.loop-link-preserved
loop-link-preserved c = λ before each.
    zip_on IsCopiedLink c.push.new.self.items c.loop-link.copy.items c.link_of.result before c.args.links.now c.loop-link.link-index c.link-item.result
    c.in_ok-push.ensures.items (c.loop-link.invariant before each) (omega arith) c.link-item.is c.link_of.ensures

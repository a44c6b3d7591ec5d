use Rattle.std.proofs.Common.{refl, subst}
use Rattle.fs_cert.specs.inner.Copies.{IsCopiedLink}
use Rattle.fs_cert.proofs.cycles.link_of.Goals as goal

pub returns : goal.returns
returns c = subst (IsCopiedLink _) c.link.view_is (record { operation = c.name_of.ensures.0; cause = refl }, c.name_of.ensures.1)

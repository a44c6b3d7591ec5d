use Rattle.std.proofs.Common.{subst, sym, arith}
use Rattle.std.specs.List.{AllZip}
use Rattle.fs_cert.specs.inner.Copies.{IsCopiedName}
use Rattle.fs_cert.proofs.Zips.{zip_add, zip_whole}
use Rattle.fs_cert.proofs.copied.names_of.Goals as goal

pub loop-name-preserved : goal.loop-name-preserved
loop-name-preserved c =
    zip_add IsCopiedName c.push.new.self.items c.loop-name.copy.items c.name_of.result c.args.names.now c.loop-name.name-index _
    c.in_ok-push.ensures.items c.loop-name.invariant (omega arith) c.name_of.ensures

pub returns : goal.returns
returns c =
    subst (λ copy. AllZip IsCopiedName copy c.args.names.now) (sym c.new.ensures)
    (zip_whole IsCopiedName c.loop-name.copy.items c.args.names.now c.loop-name.name-index (omega arith) c.loop-name.invariant)

use Rattle.std.proofs.Common.{◌∙◌, sym}
use Rattle.fs_hart.specs.Steps.{steps_in}
use Rattle.fs_cand_listing.proofs.Pairs.{atomic_without}
use Rattle.fs_cand_listing.proofs.prepared.Prepared.is_atomic.Goals as goal

pub returns-then-not-self : goal.returns-then-not-self
returns-then-not-self c =
    let p = c.args.self.now in
    sym (atomic_without (steps_in p.traces) p.operations c.args.sources.now c.args.orders.now (sym c.requires ∙ c.if-not-self.true))

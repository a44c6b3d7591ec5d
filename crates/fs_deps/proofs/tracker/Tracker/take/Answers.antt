use Rattle.std.proofs.Common.{rules, arith}
use Rattle.fs_deps.proofs.Tracked.{tracked_after}
use Rattle.fs_deps.proofs.tracker.Tracker.take.Goals as goal

pub returns-in-Some : goal.returns-in-Some
returns-in-Some c steps =
    let sources = c.sources_mask-sources in
    tracked_after steps c.args.j c.args.self.now c.args.instr.now sources.result _ (omega (arith, c.requires))
    (search rules) sources.ensures (search rules)

pub returns-in_default : goal.returns-in_default
returns-in_default c steps =
    let sources = c.sources_mask-sources in
    tracked_after steps c.args.j c.args.self.now c.args.instr.now sources.result _ (omega (arith, c.requires))
    (search rules) sources.ensures (search rules)

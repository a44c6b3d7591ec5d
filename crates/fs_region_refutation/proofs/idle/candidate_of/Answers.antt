use Rattle.std.proofs.Common.{arith}
use Rattle.fs_hart.proofs.Forward.{traces_short}
use Rattle.fs_region_refutation.proofs.Others.{harts_are, all_short}
use Rattle.fs_region_refutation.proofs.idle.candidate_of.Goals as goal

pub new-requires-3-clause-harts : goal.new-requires-3-clause-harts
new-requires-3-clause-harts c =
    let same = harts_are c.args.test.now c.args.hart c.args.trace.steps c.in_ok-traces.traces c.in_ok-traces.ensures.steps in
    omega (arith, same, c.requires.test.harts)

pub new-requires-3-clause-steps : goal.new-requires-3-clause-steps
new-requires-3-clause-steps c =
    all_short c.args.test.now c.args.hart c.args.trace.steps c.in_ok-traces.traces c.in_ok-traces.ensures.steps
    (traces_short c.args.test.now c.args.hart c.args.trace.steps c.requires.test c.requires.run.low c.requires.run.steps)

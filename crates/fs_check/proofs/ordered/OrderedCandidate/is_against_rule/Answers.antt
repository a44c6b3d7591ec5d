use Rattle.fs_check.specs.Ordered.{runs_in}
use Rattle.fs_check.proofs.Orderings.{of_runs, against_then, against_else}
use Rattle.fs_check.proofs.ordered.OrderedCandidate.is_against_rule.Goals as goal

pub returns-then-is_before : goal.returns-then-is_before
returns-then-is_before c =
    against_then c.args.test.now c.args.self.now c.requires c.args.placement.now c.args.n c.args.a c.args.b c.is_before.result c.is_before.ensures c.stands_before.result
    c.if-is_before.true (c.stands_before.ensures (runs_in c.args.test.now c.args.self.now) (of_runs c.args.test.now c.args.self.now c.requires))

pub returns-else-is_before : goal.returns-else-is_before
returns-else-is_before c =
    against_else c.args.test.now c.args.self.now c.requires c.args.placement.now c.args.n c.args.a c.args.b c.is_before.result c.is_before.ensures c.if-is_before.false

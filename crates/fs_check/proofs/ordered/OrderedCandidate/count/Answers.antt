use Rattle.fs_check.specs.Ordered.{runs_in}
use Rattle.fs_check.proofs.Orderings.{of_runs}
use Rattle.fs_check.proofs.ordered.OrderedCandidate.count.Goals as goal

pub returns : goal.returns
returns c = c.count.ensures (runs_in c.args.test.now c.args.self.now) (of_runs c.args.test.now c.args.self.now c.requires)

use Rattle.std.proofs.Common.{not, ap}
use Rattle.fs_check.specs.Ordered.{runs_in}
use Rattle.fs_check.proofs.Orderings.{of_runs}
use Rattle.fs_check.proofs.ordered.OrderedCandidate.is_wrong_load.Goals as goal

pub returns : goal.returns
returns c =
    ap not (c.returns_source.ensures (runs_in c.args.test.now c.args.self.now) (of_runs c.args.test.now c.args.self.now c.requires))

use Rattle.fs_check.specs.Ordered.{runs_in}
use Rattle.fs_check.proofs.Orderings.{of_runs}
use Rattle.fs_check_certificate.proofs.witness.stands_before.Goals as goal

pub returns : goal.returns
returns c = c.stands_before.ensures (runs_in c.args.test.now c.args.ordered.now) (of_runs c.args.test.now c.args.ordered.now c.requires)

use Rattle.std.proofs.Common.{not, sym, ap}
use Rattle.fs_hart.specs.Steps.{steps_in}
use Rattle.fs_check.specs.Ordered.{runs_in}
use Rattle.fs_check.proofs.Orderings.{of_runs}
use Rattle.fs_check.proofs.ordered.OrderedCandidate.is_against_atomicity.Goals as goal

pub returns : goal.returns
returns c =
    ap not (c.keeps_atomicity.ensures (runs_in c.args.test.now c.args.self.now) (of_runs c.args.test.now c.args.self.now c.requires)
    (sym (ap (λ traces. steps_in traces) c.as_slice.ensures)))

use Rattle.fs_values.specs.ThinAir.{CanBeListed}
use Rattle.fs_judge.proofs.problem.Problem.new.Goals as goal

pub returns-clause-clean : goal.returns-clause-clean
returns-clause-clean c =
    let listable : CanBeListed c.args.test.value = c.in_ok-basis.ensures.listable in
    listable.no_fault

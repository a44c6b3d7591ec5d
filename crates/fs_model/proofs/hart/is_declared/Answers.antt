use Rattle.fs_model.proofs.Declared.{near_exactly}
use Rattle.fs_model.proofs.hart.is_declared.Goals as goal

pub returns-in-Some : goal.returns-in-Some
returns-in-Some c = near_exactly c.args.locations c.from.result c.in-Some.location c.args.address c.in-Some.ensures.found c.from.ensures

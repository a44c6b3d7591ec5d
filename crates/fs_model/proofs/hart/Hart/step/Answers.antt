use Rattle.std.specs.Option.{option_to_list}
use Rattle.fs_model.proofs.hart.Hart.step.Goals as goal

pub returns-in-Sw-clause-err : goal.returns-in-Sw-clause-err
returns-in-Sw-clause-err c = c.store.ensures.err (option_to_list c.args.choice)

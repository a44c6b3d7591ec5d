use Rattle.fs_pool.proofs.Comparing.{at_end}
use Rattle.fs_pool.proofs.same.+is_same_order.Goals as goal

pub returns-in_default-clause-no : goal.returns-in_default-clause-no
returns-in_default-clause-no t c = at_end c.args.names.now c.args.others.now c.is_empty.result c.in_default.len_below c.is_empty.ensures

use Rattle.std.proofs.Common.{sym}
use Rattle.fs_check.specs.Ordered.{runs_in}
use Rattle.fs_check.proofs.Breaking.{wrong_load, no_wrong_load}
use Rattle.fs_check.proofs.Found.{if_none}
use Rattle.fs_check.proofs.order.load_reason.Goals as goal

pub returns-in_err-load-clause-none : goal.returns-in_err-load-clause-none
returns-in_err-load-clause-none c = if_none _ _ (no_wrong_load (runs_in c.args.test.now c.args.ordered.now) c.args.ordered.now.order.listed (sym c.in_err-load.ensures))

pub operation_name-requires-clause-there : goal.operation_name-requires-clause-there
operation_name-requires-clause-there c =
    (wrong_load (runs_in c.args.test.now c.args.ordered.now) c.args.ordered.now.order.listed c.in_ok-load.load (sym c.in_ok-load.ensures)).0

pub returns-clause-some : goal.returns-clause-some
returns-clause-some c = record {
  a = c.in_ok-load.load;
  named = c.operation_name.ensures;
  least = (wrong_load (runs_in c.args.test.now c.args.ordered.now) c.args.ordered.now.order.listed c.in_ok-load.load (sym c.in_ok-load.ensures)).1;
}

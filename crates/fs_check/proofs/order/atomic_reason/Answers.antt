use Rattle.std.proofs.Common.{sym}
use Rattle.fs_check.specs.Ordered.{runs_in}
use Rattle.fs_check.proofs.Breaking.{broken_pair, pair_has_store, no_broken_pair}
use Rattle.fs_check.proofs.Found.{if_none}
use Rattle.fs_check.proofs.order.atomic_reason.Goals as goal

pub returns-in_err-load-clause-none : goal.returns-in_err-load-clause-none
returns-in_err-load-clause-none c = if_none _ _ (no_broken_pair (runs_in c.args.test.now c.args.ordered.now) c.args.ordered.now.order.listed (sym c.in_err-load.ensures))

pub returns-in_err-store-clause-none : goal.returns-in_err-store-clause-none
returns-in_err-store-clause-none c =
    absurd (pair_has_store (runs_in c.args.test.now c.args.ordered.now) c.args.ordered.now.order.listed c.in_ok-load.load
    (sym c.in_ok-load.ensures) (sym c.in_err-store.ensures))

pub operation_name-requires-clause-there : goal.operation_name-requires-clause-there
operation_name-requires-clause-there c =
    (broken_pair (runs_in c.args.test.now c.args.ordered.now) c.args.ordered.now.order.listed c.in_ok-load.load c.in_ok-store.store
    (sym c.in_ok-load.ensures) (sym c.in_ok-store.ensures)).0

pub operation_name-requires-2-clause-there : goal.operation_name-requires-2-clause-there
operation_name-requires-2-clause-there c =
    (broken_pair (runs_in c.args.test.now c.args.ordered.now) c.args.ordered.now.order.listed c.in_ok-load.load c.in_ok-store.store
    (sym c.in_ok-load.ensures) (sym c.in_ok-store.ensures)).1

pub returns-clause-some : goal.returns-clause-some
returns-clause-some c = record {
  r = c.in_ok-load.load;
  w = c.in_ok-store.store;
  load_named = c.operation_name.ensures;
  store_named = c.operation_name-2.ensures;
  least = (broken_pair (runs_in c.args.test.now c.args.ordered.now) c.args.ordered.now.order.listed c.in_ok-load.load c.in_ok-store.store
      (sym c.in_ok-load.ensures) (sym c.in_ok-store.ensures)).2;
}

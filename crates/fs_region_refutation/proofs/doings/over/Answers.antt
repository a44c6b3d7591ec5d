use Rattle.std.proofs.Common.{length}
use Rattle.fs_region_refutation.proofs.Columns.{all_listed}
use Rattle.fs_region_refutation.proofs.doings.over.Goals as goal

pub returns : goal.returns
returns c = all_listed c.args.code.now c.args.traces.now (record { columns = c.in_ok-columns.columns }) (length c.args.code.now) c.in_ok-columns.ensures

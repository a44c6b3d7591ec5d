use Rattle.fs_region_refutation.proofs.Columns.{none_listed}
use Rattle.fs_region_refutation.proofs.doings.Doings.none.Goals as goal

pub returns : goal.returns
returns c = λ number run. none_listed (record { columns = c.new-columns.result }) c.new-columns.ensures.items number run

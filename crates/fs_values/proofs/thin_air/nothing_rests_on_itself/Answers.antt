use Rattle.std.proofs.Common.{◌≡◌, true}
use Rattle.fs_values.proofs.Executions.{no_cycle}
use Rattle.fs_values.proofs.thin_air.nothing_rests_on_itself.Goals as goal

pub returns : goal.returns
returns c t p e is_execution test = no_cycle t p e is_execution (λ s. test s ≡ true)

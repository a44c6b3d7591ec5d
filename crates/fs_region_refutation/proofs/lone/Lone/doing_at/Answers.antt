use Rattle.std.proofs.Common.{ap}
use Rattle.std.specs.Option.{option_copied}
use Rattle.fs_region_refutation.proofs.lone.Lone.doing_at.Goals as goal

pub returns-in-Some : goal.returns-in-Some
returns-in-Some c = c.listed.ensures c.in-Some.doing.now (ap option_copied c.in-Some.is)

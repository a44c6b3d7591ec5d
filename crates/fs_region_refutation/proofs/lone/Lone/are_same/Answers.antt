use Rattle.std.proofs.Common.{◌∙◌}
use Rattle.fs_region_refutation.proofs.Sources.{are_counted}
use Rattle.fs_region_refutation.proofs.lone.Lone.are_same.Goals as goal

pub returns-in-Some-Some : goal.returns-in-Some-Some
returns-in-Some-Some c = λ region.
    c.count_as_one.ensures
    ∙ are_counted c.args.self.now region c.args.first c.args.second c.in-Some-Some.first c.in-Some-Some.second c.in-Some-Some.is-0 c.in-Some-Some.is-1
